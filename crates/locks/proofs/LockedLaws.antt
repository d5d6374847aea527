-- Kept rows of a lock. Assumes nothing.
use mathlib.Core.Path.{◌≡◌, refl, sym, ◌∙◌, subst}
use mathlib.Core.Bool.{Bool, true, false}
use mathlib.Core.List.{List}
use mathlib.Core.Logic.{◌⊎◌, inl, inr}
use Prim.Native.Nat.{ℕ, suc, ◌+◌, ◌-◌, ◌*◌, ◌≤◌, ◌<◌}
use native.Mathlib.Nat.{eq-or-lt_of_le}
use native.Mathlib.Omega.{arith}
use borrow.Author.Tests.{leb-true, leb-false}
use lib.Dec.{leb}
use lib.ListN.{length, get_or}
use lib.IntN.{ℤ, pos}
use Rattle.laws.specs.Placed.{Part}
use Rattle.machine.specs.Lengths.{place_length, kept_length}
use Rattle.machine.specs.declared.Unit.{Unit}
use Rattle.machine.specs.Moves.{Tariff}
use Rattle.machine.specs.Moves.{worth, Worths}
use Rattle.cells.specs.Table.{Row, cells_of}
use Rattle.cells.proofs.Ends.{row_to, row_over, row_at}
use Rattle.slots.specs.Saved.{RowAt}
use Rattle.locks.specs.Locked.{Locked, lock_end}

pub row_few : {u : Unit} {w : Worths} {j m n : ℕ} {xs : List ℤ} → m ≡ n → Row u w j m xs → Row u w j n xs
row_few {u} {w} {j} {m} {n} {xs} e r = subst (λ i. Row u w j i xs) e r

module _ (u : Unit) (day : ℕ → Tariff) where
  -- where a lock ends there are no hours to go, or any where the day ends
  pub lock_start : (b j : ℕ) {n : ℕ} {xs : List ℤ} → b ≡ lock_end u b j → Row u (worth u day b) 0 n xs
      → Row u (worth u day b) j n xs
  lock_start b j {n} {xs} e r = go (leb u.hours.0 b) refl
    where
      go : (t : Bool) → leb u.hours.0 b ≡ t → Row u (worth u day b) j n xs
      go true l =
          let x : b ≡ u.hours.0 = omega (arith, leb-true u.hours.0 b l) in
          row_at u day (sym x) refl (row_over u day 0 j (row_at u day x refl r))
      go false l = row_to (omega (arith, leb-false u.hours.0 b l)) r

  pub locked_start : (c b : ℕ) {xs : List ℤ} → length xs ≡ kept_length → Locked u day c c b xs
  locked_start c b e = record { long = e; at = λ h j a l d. absurd (omega arith) }

  pub locked_from : {a c b : ℕ} (k : ℕ) {xs : List ℤ} → a ≤ k → Locked u day a c b xs → Locked u day k c b xs
  locked_from k h r = record { long = r.long; at = λ m j a l d. r.at m j (omega arith) l d }

  pub locked_step : (h c b : ℕ) {row xs ys : List ℤ} → h < c → cells_of u ≤ place_length
      → ((j : ℕ) → b ≡ lock_end u h j → Row u (worth u day h) j (cells_of u) row)
      → Part (pos 0) xs ys ((c - h - 1) * place_length) 0 (cells_of u) (λ i. get_or row i (pos 0))
      → Locked u day (suc h) c b xs → Locked u day h c b ys
  locked_step h c b {row} {xs} {ys} below few made p s =
      record { long = p.long ∙ s.long; at = λ k j a l e. go k j l e (eq-or-lt_of_le a) }
    where
      go : (k j : ℕ) → k < c → b ≡ lock_end u k j → (h ≡ k) ⊎ (h < k)
          → RowAt u (worth u day k) j ((c - k - 1) * place_length) ys
      go k j l e (inl q) =
          subst (λ m. RowAt u (worth u day m) j ((c - m - 1) * place_length) ys) q
          (record { at = λ i d. p.done i (omega arith) d ∙ (made j (rw (← q) at e)).at i d })
      go k j l e (inr q) =
          record {
            at = λ i d. p.other ((c - k - 1) * place_length + i) (λ m x y z. omega arith) ∙ (s.at k j q l e).at i d;
          }
