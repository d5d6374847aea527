-- A worth and the number that stands for it once a line was added with no test for none: none is any number up to the
-- threshold, an amount is itself. The largest of such numbers stands for the best worth, and settled with a line it is
-- the code again. Assumes nothing.
use mathlib.Core.Path.{◌≡◌, refl}
use mathlib.Core.Option.{Option, none, some}
use mathlib.Core.Bool.{Bool, true, false, cond}
use Prim.Native.Nat.{ℕ, zero, suc, ◌+◌, ◌≤◌, ◌<◌}
use native.Mathlib.Omega.{arith}
use lib.IntN.{ℤ, nat_abs, ◌+ℤ◌}
use lib.Signed.{lt_z, ◌≤ℤ◌, ◌<ℤ◌}
use Rattle.laws.specs.Range.{larger, over}
use Rattle.laws.proofs.RangeLaws.{larger_least, larger_of_ge, larger_of_le}
use Rattle.laws.proofs.Signed.{linear, up, down, parts_add}
use Rattle.laws.proofs.Magnitude.{abs_parts, abs_add}
use Rattle.machine.specs.Bounds.{most_worth, most_loaded, most_offer}
use Rattle.machine.specs.Search.{ahead, add, Choice}
use Rattle.machine.specs.Span.{pick, lone, span}
use Rattle.machine.specs.Coded.{missing, coded, Bounded, gone, amount}
use Rattle.machine.proofs.Table.Overs.{lone_worth}
use Rattle.window.specs.Rows.{threshold, settled}

pub data Drifted : Option ℤ → ℤ → Type 0 where
  lost : (z : ℤ) → z ≤ℤ threshold → Drifted none z
  kept : (v : ℤ) → nat_abs v ≤ most_offer → Drifted (some v) v

-- a line's amount is added, less an entry of a table
pub drifted_add : {x : Option ℤ} (g : ℤ) → nat_abs g ≤ most_loaded → Bounded most_worth x → Drifted (add g x)
    (g +ℤ coded x)
unfolding up down
drifted_add g h gone = lost (g +ℤ missing) (omega (linear, parts_add g missing, abs_parts g))
drifted_add g h (amount {v} w) = kept (g +ℤ v) (omega (arith, abs_add g v))

-- amounts are above the threshold
above : (v : ℤ) → nat_abs v ≤ most_offer → threshold <ℤ v
unfolding up down
above v h = omega (linear, abs_parts v)

-- the better of two
drifted_better : {x y : Option ℤ} {a b : ℤ} → Drifted x a → Drifted y b → Drifted (cond (ahead x y) y x) (larger a b)
unfolding larger
drifted_better (lost a p) (lost b q) = lost (larger a b) ((larger_least a b).least p q)
drifted_better (lost a p) (kept w k) = rw (larger_of_le {a = a} {b = w} (omega (linear, above w k))) (kept w k)
drifted_better (kept v h) (lost b q) = rw (larger_of_ge {a = v} {b = b} (omega (linear, above v h))) (kept v h)
drifted_better (kept v h) (kept w k) = go (lt_z v w)
  where
    go : (t : Bool) → Drifted (cond t (some w) (some v)) (cond t w v)
    go true = kept w k
    go false = kept v h

pick_worth : (c d : Choice) → (pick c d).worth ≡ cond (ahead c.worth d.worth) d.worth c.worth
unfolding pick
pick_worth c d = go (ahead c.worth d.worth)
  where
    go : (t : Bool) → (cond t d c).worth ≡ cond t d.worth c.worth
    go true = refl
    go false = refl

-- the best of a range of outputs, and the largest of as many numbers
pub drifted_span : (f : ℕ → Option ℤ) (v : ℕ → ℤ) (a b m : ℕ) → ((j : ℕ) → j < m → Drifted (f (a + j)) (v (b + j)))
    → Drifted (span f a m).worth (over larger missing v b m)
unfolding span over
drifted_span f v a b zero h = lost missing (record { le = tt })
drifted_span f v a b (suc m) h =
    let last : Drifted (lone (a + m) (f (a + m))).worth (v (b + m)) =
    rw (lone_worth (a + m) (f (a + m))) (h m (omega arith)) in
    rw (pick_worth (span f a m) (lone (a + m) (f (a + m))))
    (drifted_better (drifted_span f v a b m (λ j p. h j (omega arith))) last)

-- the code again
pub drifted_settled : {x : Option ℤ} {z : ℤ} (g : ℤ) → Drifted x z → settled g z ≡ coded (add g x)
unfolding settled up down
drifted_settled g (lost z p) = let low : lt_z threshold z ≡ false = omega (linear, p) in simp low refl
drifted_settled g (kept v h) = let high : lt_z threshold v ≡ true = omega (linear, abs_parts v) in simp high refl
