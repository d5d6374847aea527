-- The derived order of amounts: what its tests say of the numbers, and that the larger of two amounts is what the
-- library's `max` chooses. Assumes nothing.
use mathlib.Core.Path.{◌≡◌, refl, ap, ◌∙◌}
use mathlib.Core.Bool.{Bool, true, false, not, cond}
use lib.IntN.{ℤ}
use lib.Signed.{lt_z}
use Rattle.std.proofs.Common.{rules, Less, Equal, Greater, is_lt, is_gt, is_eq, int_cmp, int_eq}
use Rattle.std.specs.Ordering.{ord_max}
use Rattle.laws.specs.Range.{larger}
use Rattle.laws.proofs.Signed.{linear}
use Rattle.quantities.specs.declared.HalfMills.{HalfMills}
use Rattle.quantities.specs.contracts.HalfMillsOrd as order

-- the test for an amount below another
pub below : (a b : ℤ) → is_lt (int_cmp a b) ≡ lt_z a b
below a b = go (lt_z a b) (lt_z b a)
  where
    go : (s t : Bool) → is_lt (cond s Less (cond t Greater Equal)) ≡ s
    go true t = refl
    go false true = refl
    go false false = refl

-- an amount that is above another, equal to it, or neither
pub above : (a b : ℤ) → is_gt (int_cmp a b) ≡ true → lt_z b a ≡ true
above a b = go (lt_z a b) (lt_z b a)
  where
    go : (s t : Bool) → is_gt (cond s Less (cond t Greater Equal)) ≡ true → t ≡ true
    go true t e = cc
    go false true e = refl
    go false false e = cc

pub same : (a b : ℤ) → int_eq a b ≡ true → (lt_z b a ≡ false) × (lt_z a b ≡ false)
same a b = go (lt_z a b) (lt_z b a)
  where
    go : (s t : Bool) → is_eq (cond s Less (cond t Greater Equal)) ≡ true → (t ≡ false) × (s ≡ false)
    go true t e = cc
    go false true e = cc
    go false false e = (refl, refl)

pub under : (a b : ℤ) → is_gt (int_cmp a b) ≡ false → int_eq a b ≡ false → lt_z a b ≡ true
under a b = go (lt_z a b) (lt_z b a)
  where
    go : (s t : Bool) → is_gt (cond s Less (cond t Greater Equal)) ≡ false
        → is_eq (cond s Less (cond t Greater Equal)) ≡ false → s ≡ true
    go true t e f = refl
    go false true e f = cc
    go false false e f = cc

-- amounts that do not differ
pub alike : (a b : ℤ) → not (int_eq a b) ≡ false → a ≡ b
alike a b e = let (s, t) = same a b (go (int_eq a b) e) in omega (linear, s, t)
  where
    go : (t : Bool) → not t ≡ false → t ≡ true
    go true e = refl
    go false e = cc

-- the larger of two amounts, and the same the other way round
larger_max : (a b : HalfMills) → (ord_max order.TheImpl.cmp-value.it a b).0 ≡ larger a.0 b.0
unfolding larger
larger_max a b = search rules

larger_max_swapped : (a b : HalfMills) → (ord_max order.TheImpl.cmp-value.it a b).0 ≡ larger b.0 a.0
unfolding larger
larger_max_swapped a b = search rules

pub larger_of : (a b : HalfMills) {r : HalfMills} → r ≡ ord_max order.TheImpl.cmp-value.it a b → r.0 ≡ larger a.0 b.0
larger_of a b e = ap (λ (x : HalfMills). x.0) e ∙ larger_max a b

pub larger_swapped : (a b : HalfMills) {r : HalfMills} → r ≡ ord_max order.TheImpl.cmp-value.it a b
    → r.0 ≡ larger b.0 a.0
larger_swapped a b e = ap (λ (x : HalfMills). x.0) e ∙ larger_max_swapped a b
