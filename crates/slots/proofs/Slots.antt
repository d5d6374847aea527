-- Layers in their slots. Assumes nothing.
use mathlib.Core.Path.{◌≡◌, refl, sym, ap, ◌∙◌, subst}
use mathlib.Core.List.{List}
use mathlib.Core.Logic.{◌⊎◌, inl, inr}
use Prim.Native.Nat.{ℕ, suc, ◌+◌, ◌-◌, ◌*◌, ◌/◌, ◌≤◌, ◌<◌}
use native.Mathlib.Nat.{eq-or-lt_of_le, div-add-mod', mod-lt, mul-div_cancel, mul-le-mul_right, suc-mul}
use native.Mathlib.Nat.{lt_of_mul-lt-mul_right}
use native.Mathlib.Omega.{arith}
use lib.ListN.{length, get_or}
use lib.IntN.{ℤ, pos}
use Rattle.laws.specs.Placed.{Part}
use Rattle.machine.specs.declared.Unit.{Unit}
use Rattle.machine.specs.Moves.{Tariff, worth, Worths}
use Rattle.machine.specs.Fit.{Fit}
use Rattle.window.specs.Rows.{Written}
use Rattle.window.proofs.RowLaws.{written_in}
use Rattle.cells.specs.Table.{Side, SideCell, Layer, cells_of}
use Rattle.machine.specs.Lengths.{side_length, rises_at, falls_at}
use Rattle.slots.specs.Saved.{SavedAt, Kept, Slotted, Saved, slot_from}

module _ {u : Unit} (w : Worths) where
  -- a side is its cells
  side_cells : {ys : List ℤ} → Side u w ys → (c : ℕ) → SideCell u w c (get_or ys c (pos 0))
  side_cells {ys} s c =
      record {
        off = λ a b. s.offs c a b;
        rise = λ i e l. ap (λ n. get_or ys n (pos 0)) e ∙ s.rises i l;
        fall = λ i e l. ap (λ n. get_or ys n (pos 0)) e ∙ s.falls i l;
      }

  pub cells_side : Fit u → {ys : List ℤ} → length ys ≡ side_length →
      ((c : ℕ) → c < side_length → SideCell u w c (get_or ys c (pos 0)))
      → Side u w ys
  cells_side fit l f =
      record {
        long = l;
        offs = λ d a b. (f d (omega (arith, fit.mindown_le))).off a b;
        rises = λ i a. (f (rises_at + i) (omega (arith, fit.rises_le))).rise i refl a;
        falls = λ i a. (f (falls_at + i) (omega (arith, fit.falls_le))).fall i refl a;
      }

  -- a row and a side put one after the other
  pub kept_of : {xs ys zs ps qs : List ℤ} (off : ℕ) → Layer u w ps qs
      → Part (pos 0) xs ys off 0 (cells_of u) (λ i. get_or ps i (pos 0))
      → Part (pos 0) ys zs (off + cells_of u) 0 side_length (λ i. get_or qs i (pos 0)) → Kept u w off xs zs
  kept_of off l p q =
      record {
        long = q.long ∙ p.long;
        saved = record {
          row = record {
            at = λ i h. q.other (off + i) (λ j a b e. omega arith) ∙ p.done i (omega arith) (omega arith) ∙
                l.row.at i h;
          };
          side = λ c h. subst (SideCell u w c) (sym (q.done c (omega arith) h)) (side_cells l.side c);
        };
        below = λ i h. q.other i (λ j a b e. omega arith) ∙ p.other i (λ j a b e. omega arith);
        above = λ i h. q.other i (λ j a b e. omega arith) ∙ p.other i (λ j a b e. omega arith);
      }

  pub layer_of : Fit u → {xs ps qs cs ds : List ℤ} (off : ℕ) → cells_of u ≤ length ps → length cs ≡ side_length
      → SavedAt u w off xs
      → Written ps qs 0 (cells_of u) (λ i. get_or xs (off + i) (pos 0))
      → Written cs ds 0 side_length (λ i. get_or xs (off + cells_of u + i) (pos 0)) → Layer u w qs ds
  layer_of fit off la lc s p q =
      record {
        row = record {
          few = omega arith;
          long = omega (arith, p.long);
          at = λ i h. written_in p i (omega arith) h ∙ s.row.at i h;
        };
        side = cells_side fit (q.long ∙ lc)
            (λ c h. subst (SideCell u w c) (sym (written_in q c (omega arith) h)) (s.side c h));
      }

-- ---- kept layers
pub saved_at_same : (u : Unit) (w : Worths) (off : ℕ) {xs zs : List ℤ}
    → ((i : ℕ) → off ≤ i → i < off + (cells_of u + side_length) → get_or zs i (pos 0) ≡ get_or xs i (pos 0))
    → SavedAt u w off xs → SavedAt u w off zs
saved_at_same u w off h s =
    record {
      row = record { at = λ i l. h (off + i) (omega arith) (omega arith) ∙ s.row.at i l };
      side = λ c l. subst (SideCell u w c) (sym (h (off + cells_of u + c) (omega arith) (omega arith))) (s.side c l);
    }

-- the slot after slot a begins where a's ends
slot_after : (a t w : ℕ) → a < t → a * w + w ≤ t * w
slot_after a t w h = let e : suc a * w ≤ t * w = mul-le-mul_right w h in omega (arith, suc-mul a w)

-- an hour has one slot
slot_same : (l s t : ℕ) → 1 ≤ l → s * l ≡ t * l → s ≡ t
slot_same l s t h e = sym (mul-div_cancel s h) ∙ ap (λ x. x / l) e ∙ mul-div_cancel t h

-- the first slot that is not before hour k
module _ (l k : ℕ) (some : 1 ≤ l) where
  pub slot_from_is : k ≤ slot_from l k * l
  slot_from_is = omega (arith, div-add-mod' (k + l - 1) l, mod-lt (k + l - 1) some)

  slot_near : slot_from l k * l ≤ k + l - 1
  slot_near = omega (arith, div-add-mod' (k + l - 1) l)

  -- it is hour k's own, if that has one
  slot_own : (t : ℕ) → k ≡ t * l → slot_from l k * l ≡ k
  slot_own t e =
      let below : t * l < suc (slot_from l k) * l = omega (arith, slot_from_is, suc-mul (slot_from l k) l) in
      let above : slot_from l k * l < suc t * l = omega (arith, slot_near, suc-mul t l) in
      let a : t < suc (slot_from l k) = lt_of_mul-lt-mul_right l below in
      let b : slot_from l k < suc t = lt_of_mul-lt-mul_right l above in
      let same : slot_from l k ≡ t = omega arith in
      ap (λ s. s * l) same ∙ sym e

module _ (u : Unit) (l n : ℕ) {m : ℕ} (slots : Slotted u l n m) (day : ℕ → Tariff) where
  pub saved_start : {xs : List ℤ} → Saved u day l n u.hours.0 xs
  saved_start = record { at = λ s a b. absurd (omega arith) }

  -- the layer of an hour that has a slot
  pub saved_at : (k s : ℕ) {xs : List ℤ} → s * l ≡ k → k < u.hours.0 → Saved u day l n 0 xs
      → SavedAt u (worth u day k) (s * n) xs
  saved_at k s {xs} e h saved =
      subst (λ m. SavedAt u (worth u day m) (s * n) xs) e (saved.at s (omega arith) (omega arith))

  -- an hour that has no slot
  pub saved_skip : (k : ℕ) {xs : List ℤ} → (slot_from l k * l ≡ k → ⊥) → Saved u day l n (suc k) xs
      → Saved u day l n k xs
  saved_skip k {xs} out s = record { at = λ t a b. go t b (eq-or-lt_of_le a) }
    where
      go : (t : ℕ) → t * l < u.hours.0 → (k ≡ t * l) ⊎ (k < t * l) → SavedAt u (worth u day (t * l)) (t * n) xs
      go t b (inl e) = absurd (out (slot_own l k slots.stride_pos t e))
      go t b (inr a) = s.at t a b

  -- an hour whose slot is filled
  pub saved_step : (k s : ℕ) {xs zs : List ℤ} → s * l ≡ k → Kept u (worth u day k) (s * n) xs zs
      → Saved u day l n (suc k) xs → Saved u day l n k zs
  saved_step k s {xs} {zs} e p saved =
      record { at = λ t a b. go t b (eq-or-lt_of_le a) }
    where
      go : (t : ℕ) → t * l < u.hours.0 → (k ≡ t * l) ⊎ (k < t * l) → SavedAt u (worth u day (t * l)) (t * n) zs
      go t b (inl q) =
          subst (λ m. SavedAt u (worth u day m) (t * n) zs) q
          (subst (λ m. SavedAt u (worth u day k) (m * n) zs) (slot_same l s t slots.stride_pos (e ∙ q)) p.saved)
      go t b (inr a) =
          let d : s < t = lt_of_mul-lt-mul_right l (omega (arith, e)) in
          saved_at_same u (worth u day (t * l)) (t * n)
          (λ i x y. p.above i (omega (arith, slot_after s t n d, slots.width)))
          (saved.at t a b)
