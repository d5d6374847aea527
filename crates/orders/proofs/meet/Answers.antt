-- The first hour with both marks decides.
use Rattle.std.proofs.Common.{arith, refl, ap, suc, ◌≡◌, ◌≤◌, ℕ, Bool, true, false, not}
use Rattle.std.proofs.lemmas.Bool.Decides.{nat_tests}
use Rattle.cases.specs.Symbols.{every}
use Rattle.cases.proofs.LimitsLaws.{every_true}
use Rattle.cases.proofs.RefusalsLaws.{every_none, every_more}
use Rattle.orders.proofs.meet.Goals as goal
use Rattle.orders.proofs.meet.Goals.{else-ons-k-ne0-via-then-ons-k-ne0+else-offs-k-ne0}
use Rattle.orders.proofs.meet.Goals.{else-ons-k-ne0-via-else-ons-k-ne0}

-- an hour that fails the test
hit : (f : ℕ → Bool) (n i : ℕ) → 1 ≤ i → i ≤ n → f i ≡ false → true ≡ not (every f n)
hit f n i some le e = go (every f n) refl
  where
    go : (t : Bool) → every f n ≡ t → true ≡ not (every f n)
    go true q = cc (every_true f n q i some le)
    go false q = rw q refl

pub loop-k-init : goal.loop-k-init
loop-k-init c = every_none _

pub returns-then-offs-k-ne0 : goal.returns-then-offs-k-ne0
returns-then-offs-k-ne0 c =
    hit _ c.args.day.hours.0 (suc c.loop-k.k) (omega arith) (omega arith) (grind (arith, nat_tests))

pub loop-k-preserved : goal.loop-k-preserved
loop-k-preserved c =
    every_more _ c.loop-k.k c.loop-k.invariant (elim c.else-ons-k-ne0.branch [
      | else-ons-k-ne0-via-then-ons-k-ne0+else-offs-k-ne0 w ↦ grind (arith, nat_tests)
      | else-ons-k-ne0-via-else-ons-k-ne0 w ↦ grind (arith, nat_tests)
    ])

pub returns : goal.returns
returns c =
    let e : c.loop-k.k ≡ c.args.day.hours.0 = omega arith in
    let all = c.loop-k.invariant in
    ap not (rw e at all)
