-- The scan of a row with no test for none: the pick so far stands for the choice so far, where none is any number up to
-- the threshold. Assumes nothing.
use mathlib.Core.Path.{◌≡◌, refl}
use mathlib.Core.Option.{Option, some}
use mathlib.Core.Bool.{Bool, true, false, cond}
use mathlib.Core.List.{List}
use Prim.Native.Nat.{ℕ, suc, ◌+◌, ◌-◌, ◌≤◌, ◌<◌}
use native.Mathlib.Omega.{arith}
use lib.IntN.{ℤ, pos, nat_abs, ◌+ℤ◌, ◌-ℤ◌}
use lib.ListN.{get_or}
use lib.Signed.{lt_z, ◌≤ℤ◌}
use Rattle.laws.proofs.Signed.{linear, up, down}
use Rattle.laws.proofs.Magnitude.{abs_parts}
use Rattle.machine.specs.Bounds.{most_loaded, most_offer}
use Rattle.machine.specs.Search.{Choice}
use Rattle.machine.specs.Moves.{cost_at}
use Rattle.machine.specs.Span.{nothing, pick, lone, span}
use Rattle.window.specs.Rows.{sloped, threshold}
use Rattle.window.proofs.DriftLaws.{Drifted, lost, kept, drifted_add}
use Rattle.cells.specs.declared.Pick.{Pick}
use Rattle.cells.specs.Picks.{pick_of, no_pick, better_pick, Held, on_line}

-- output p, with number z
abbrev pub pick_at : ℕ → ℤ → Pick
pick_at p z = record { at = record { 0 = p }; worth = record { 0 = z } }

-- pick k leads where c is chosen
pub data Leads : Choice → Pick → Type 0 where
  behind : (k : Pick) → k.worth.0 ≤ℤ threshold → Leads nothing k
  leading : (q : ℕ) (v : ℤ) → nat_abs v ≤ most_offer → Leads (record { output = q; worth = some v }) (pick_at q v)

pub leads_start : Leads nothing no_pick
leads_start = behind no_pick (record { le = tt })

pub leads_step : {c : Choice} {k : Pick} {x : Option ℤ} {y : ℤ} (p : ℕ) → Leads c k → Drifted x y
    → Leads (pick c (lone p x)) (better_pick k (pick_at p y))
unfolding pick better_pick up down
leads_step p (behind k h) (lost y d) = go (lt_z k.worth.0 y)
  where
    go : (t : Bool) → Leads nothing (cond t (pick_at p y) k)
    go true = behind (pick_at p y) d
    go false = behind k h
leads_step p (behind k h) (kept v d) =
    let e : lt_z k.worth.0 v ≡ true = omega (linear, h, abs_parts v) in
    rw e (leading p v d)
leads_step p (leading q v h) (lost y d) =
    let e : lt_z v y ≡ false = omega (linear, d, abs_parts v) in
    rw e (leading q v h)
leads_step p (leading q v h) (kept y d) = go (lt_z v y)
  where
    go : (t : Bool) → Leads (cond t (record { output = p; worth = some y }) (record { output = q; worth = some v }))
        (cond t (pick_at p y) (pick_at q v))
    go true = leading p y d
    go false = leading q v h

pub leads_none : {c : Choice} {k : Pick} → Leads c k → lt_z threshold k.worth.0 ≡ false → no_pick ≡ pick_of c
unfolding up down
leads_none (behind k h) e = refl
leads_none (leading q v h) e = absurd (omega (linear, e, abs_parts v))

pub leads_some : {c : Choice} {k : Pick} → Leads c k → lt_z threshold k.worth.0 ≡ true → k ≡ pick_of c
leads_some (behind k h) e = absurd (omega (linear, e, h))
leads_some (leading q v h) e = refl

-- the outputs from a to before p, and then p
module _ (f : ℕ → Option ℤ) (xs costs : List ℤ) (lo r a b : ℕ) (first slope : ℤ) where
  pub scan_start : (p : ℕ) → p ≡ a → Leads (span (on_line f costs r a first slope) a (p - a)) no_pick
  unfolding span
  scan_start p e = let d : p - a ≡ 0 = omega arith in rw d leads_start

  pub scan_step : (p : ℕ) (k : Pick) (g y : ℤ) → Held f xs lo a b → a ≤ p → p < b → g ≡ sloped first slope (p - a) -ℤ
      cost_at costs (r + p)
      → nat_abs g ≤ most_loaded → y ≡ g +ℤ get_or xs (p - lo) (pos 0) → Leads
      (span (on_line f costs r a first slope) a (p - a)) k
      → Leads (span (on_line f costs r a first slope) a (p + 1 - a)) (better_pick k (pick_at p y))
  unfolding span
  scan_step p k g y held ha hb eg small ey l =
      let n : p + 1 - a ≡ suc (p - a) = omega arith in
      let here : a + (p - a) ≡ p = omega arith in
      let d : Drifted (on_line f costs r a first slope p) y =
      rw (ey, held.at p ha hb, ← eg) (drifted_add g small (held.size p ha hb)) in
      rw (n, here) (leads_step p l d)
