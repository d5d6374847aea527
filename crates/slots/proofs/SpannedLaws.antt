-- Layers of hours in a row: from a later hour on, and one more in front. Assumes nothing.
use mathlib.Core.Path.{◌≡◌, ◌∙◌, subst}
use mathlib.Core.List.{List}
use mathlib.Core.Logic.{◌⊎◌, inl, inr}
use Prim.Native.Nat.{ℕ, suc, ◌-◌, ◌*◌, ◌≤◌, ◌<◌}
use native.Mathlib.Nat.{eq-or-lt_of_le}
use native.Mathlib.Omega.{arith}
use lib.IntN.{ℤ}
use Rattle.machine.specs.Lengths.{row_length, place_length}
use Rattle.machine.specs.declared.Unit.{Unit}
use Rattle.machine.specs.Moves.{Tariff, worth}
use Rattle.cells.specs.Table.{cells_of}
use Rattle.slots.specs.Saved.{SavedAt, Kept}
use Rattle.slots.specs.Spanned.{Spanned}
use Rattle.slots.proofs.Slots.{saved_at_same}

module _ (u : Unit) (day : ℕ → Tariff) where
  pub spanned_from : {a c : ℕ} (k : ℕ) {xs : List ℤ} → a ≤ k → Spanned u day a c xs → Spanned u day k c xs
  spanned_from k h r = record { long = r.long; at = λ m a l. r.at m (omega arith) l }

  pub spanned_step : (h c : ℕ) {xs ys : List ℤ} → h < c → cells_of u ≤ row_length
      → Kept u (worth u day h) ((c - h - 1) * place_length) xs ys → Spanned u day (suc h) c xs → Spanned u day h c ys
  spanned_step h c {xs} {ys} below few p s =
      record { long = p.long ∙ s.long; at = λ k a l. go k l (eq-or-lt_of_le a) }
    where
      go : (k : ℕ) → k < c → (h ≡ k) ⊎ (h < k) → SavedAt u (worth u day k) ((c - k - 1) * place_length) ys
      go k l (inl q) = subst (λ m. SavedAt u (worth u day m) ((c - m - 1) * place_length) ys) q p.saved
      go k l (inr q) = saved_at_same u (worth u day k) ((c - k - 1) * place_length)
          (λ i a b. p.below i (omega arith)) (s.at k q l)
