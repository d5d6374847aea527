-- The table of a kind: its entries by energy, their size, and how it bends; and that a kind and its record have one
-- table. Assumes nothing.
use mathlib.Core.Path.{◌≡◌, refl, ap}
use mathlib.Core.Bool.{Bool, true, false}
use Prim.Native.Nat.{ℕ, ◌+◌, ◌≤◌, ◌<◌}
use native.Mathlib.Omega.{arith}
use borrow.Author.Tests.{leb-true, leb-false}
use lib.Dec.{leb}
use lib.IntN.{ℤ, pos, nat_abs, ◌+ℤ◌}
use lib.Signed.{◌≤ℤ◌}
use lib.ListN.{length, get_or, get_or-eq_default}
use Rattle.laws.proofs.Signed.{linear, parts_add, parts_pos}
use Rattle.curve.specs.declared.Kind.{Kind}
use Rattle.curve.specs.Cost.{most_energy, costs_length, most_cost, record_of, curved_of, Usable, entry_of, table_of}
use Rattle.curve.proofs.CostLaws.{good, cost_fits, entry_most}
use Rattle.curve.proofs.FirstsLaws.{firsts_length, firsts_at, firsts_same}
use Rattle.curve.proofs.RecordLaws.{record_entry}
use Rattle.curve.proofs.BendLaws.{entries_bend}

module _ (k : Kind) where
  pub table_length : length (table_of k) ≡ costs_length
  unfolding table_of
  table_length = firsts_length costs_length (entry_of k)

  -- the entry of an energy, and 0 past the table
  pub table_at : (n : ℕ) → n ≤ most_energy → get_or (table_of k) n (pos 0) ≡ pos (entry_of k n)
  unfolding table_of
  table_at n h = firsts_at costs_length n (entry_of k) (omega arith)

  pub table_past : (n : ℕ) → most_energy < n → get_or (table_of k) n (pos 0) ≡ pos 0
  table_past n h = get_or-eq_default (table_of k) (pos 0) (omega (arith, table_length))

-- the same for a kind that refusal 16 lets pass
module _ {k : Kind} (u : Usable k) where
  -- the size of an entry, and of the 0 past the table
  pub table_most : (n : ℕ) → nat_abs (get_or (table_of k) n (pos 0)) ≤ most_cost
  table_most n = go (leb n most_energy) refl
    where
      go : (t : Bool) → leb n most_energy ≡ t → nat_abs (get_or (table_of k) n (pos 0)) ≤ most_cost
      go true e =
          let h = leb-true n most_energy e in
          let m = entry_most k n (cost_fits k n u.floats) (good k u.passes) h in
          omega (arith, m, ap nat_abs (table_at k n h))
      go false e = omega (arith, ap nat_abs (table_past k n (leb-false n most_energy e)))

  -- the table bends upwards, but for 2 half-mills
  pub table_bends : (x s t : ℕ) → x + s + t ≤ most_energy
      → (get_or (table_of k) (x + s) (pos 0) +ℤ get_or (table_of k) (x + t) (pos 0)) ≤ℤ
      (get_or (table_of k) x (pos 0) +ℤ get_or (table_of k) (x + s + t) (pos 0) +ℤ pos 2)
  table_bends x s t h =
      let b = entries_bend k x s t u h in
      go (table_at k x (omega arith)) (table_at k (x + s) (omega arith)) (table_at k (x + t) (omega arith))
      (table_at k (x + s + t) h) b
    where
      go : {a b c d : ℤ} {i j l m : ℕ} → a ≡ pos i → b ≡ pos j → c ≡ pos l → d ≡ pos m → j + l ≤ i + m + 2
          → (b +ℤ c) ≤ℤ (a +ℤ d +ℤ pos 2)
      go {a} {b} {c} {d} {i} {j} {l} {m} e f g h n =
          omega (
            linear,
            parts_add b c,
            parts_add a d,
            parts_add (a +ℤ d) (pos 2),
            parts_pos i,
            parts_pos j,
            parts_pos l,
            parts_pos m,
            parts_pos 2,
          )

  -- the record has the kind's table
  pub record_table : table_of (curved_of (record_of k)) ≡ table_of k
  unfolding table_of
  record_table =
      firsts_same costs_length (entry_of (curved_of (record_of k))) (entry_of k) (λ i l. record_entry k i u (omega arith))
