-- The mark of a day that closes at an entry of the shut-down trajectory, by the tests that it passes. Assumes nothing.
use mathlib.Core.Path.{◌≡◌, refl, ap, ◌∙◌}
use mathlib.Core.Bool.{Bool, true, false, ◌&&◌}
use mathlib.Core.List.{List}
use Prim.Native.Nat.{ℕ, ◌+◌, ◌-◌, ◌≤◌, ◌<◌}
use native.Mathlib.Omega.{arith}
use borrow.Author.Tests.{lt-leb, le-leb}
use mir.Val.{bool_byte}
use lib.Dec.{leb, eqb}
use lib.ListN.{get_or}
use Rattle.laws.proofs.Tests.{and_false}
use Rattle.quantities.specs.declared.Output.{Output}
use Rattle.cases.specs.Symbols.{bit, stage}
use Rattle.day.proofs.ConstraintsLaws.{stage_more}

-- a test as a number
pub bit_is : (b : Bool) → bool_byte b ≡ bit b
bit_is true = refl
bit_is false = refl

-- entry i of n, at which output a is held against output b
module _ (i n a b : ℕ) where
  abbrev pub closed : ℕ
  closed = bit (leb 2 i && (leb i n && eqb a b))

  pub closing_early : i < 2 → closed ≡ 0
  closing_early h = ap (λ t. bit (t && (leb i n && eqb a b))) (lt-leb 2 i h)

  pub closing_late : n < i → closed ≡ 0
  closing_late h = ap (λ t. bit (leb 2 i && (t && eqb a b))) (lt-leb i n h) ∙ ap bit (and_false (leb 2 i))

  pub closing_at : 2 ≤ i → i ≤ n → closed ≡ bit (eqb a b)
  closing_at h m =
      ap (λ t. bit (t && (leb i n && eqb a b))) (le-leb 2 i h) ∙ ap (λ t. bit (t && eqb a b)) (le-leb i n m)

-- entry i of a trajectory, by its place
pub entry_is : (l : List Output) (i : ℕ) → 1 ≤ i → stage l i ≡ (get_or l (i - 1) (record { 0 = 0 })).0
entry_is l i h = ap (stage l) (let e : i ≡ i - 1 + 1 = omega arith in e) ∙ stage_more l (i - 1)
