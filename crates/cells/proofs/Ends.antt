-- The row when the day is over, rows of equal worths, and rows hour by hour. Assumes nothing.
use mathlib.Core.Path.{◌≡◌, sym, ap, ◌∙◌, subst}
use mathlib.Core.List.{List}
use Prim.Native.Nat.{ℕ, suc, ◌+◌, ◌*◌, ◌≤◌, ◌<◌, min}
use native.Mathlib.Nat.{add-zero, suc-mul}
use native.Mathlib.Omega.{arith}
use lib.ListN.{get_or, replicate, length-replicate, get_or-replicate}
use lib.IntN.{ℤ, pos}
use Rattle.machine.specs.Lengths.{row_length}
use Rattle.machine.specs.Coded.{coded}
use Rattle.machine.proofs.Search.Values.{worth_end}
use Rattle.machine.proofs.Table.Choices.{worth_earlier}
use Rattle.machine.proofs.Table.Sizes.{worth_size}
use Rattle.machine.specs.declared.Unit.{Unit}
use Rattle.machine.specs.Moves.{Tariff}
use Rattle.machine.specs.declared.State.{State}
use Rattle.machine.specs.Moves.{running, worth, earlier, machine, closing, Worths}
use Rattle.machine.specs.Fit.{Fit, Fair}
use Rattle.cells.specs.Table.{Sized, Row, Across, entry, cells_of}

-- a row of the same worths, fewer cells, other hours to go
pub row_same : {u : Unit} {v w : Worths} {j n : ℕ} {xs : List ℤ} → ((s : State) → v s ≡ w s) → Row u v j n xs
    → Row u w j n xs
row_same {u} {v} {w} {j} e r =
    record {
      few = r.few;
      long = r.long;
      at = λ i h. r.at i h ∙ ap coded (e (running (u.minimum.0 + i) j));
    }

pub row_fewer : {u : Unit} {w : Worths} {j n : ℕ} {xs : List ℤ} (m : ℕ) → m ≤ n → Row u w j n xs → Row u w j m xs
row_fewer m h r = record { few = omega (arith, r.few); long = r.long; at = λ i l. r.at i (omega arith) }

pub row_to : {u : Unit} {w : Worths} {i j n : ℕ} {xs : List ℤ} → i ≡ j → Row u w i n xs → Row u w j n xs
row_to {u} {w} {i} {j} {n} {xs} e r = subst (λ m. Row u w m n xs) e r

module _ (u : Unit) (day : ℕ → Tariff) where
  pub ends : (s : State) → coded (worth u day u.hours.0 s) ≡ coded (closing s)
  ends s = ap coded (worth_end (machine u day) s)

  pub zero_row : (fit : Fit u) (j : ℕ) → Row u (worth u day u.hours.0) j (cells_of u) (replicate row_length (pos 0))
  zero_row fit j =
      record {
        few = omega arith;
        long = omega (arith, length-replicate row_length (pos 0), fit.capacity_le, fit.minimum_pos);
        at = λ i h. get_or-replicate row_length i (pos 0) (pos 0) (omega (arith, fit.capacity_le, fit.minimum_pos)) ∙
            sym (ends (running (u.minimum.0 + i) j));
      }

  -- when the day is over the hours to go do not matter
  pub row_over : (i j : ℕ) {n : ℕ} {xs : List ℤ} → Row u (worth u day u.hours.0) i n xs
      → Row u (worth u day u.hours.0) j n xs
  row_over i j r =
      record {
        few = r.few;
        long = r.long;
        at = λ p h. r.at p h ∙ ends (running (u.minimum.0 + p) i) ∙ sym (ends (running (u.minimum.0 + p) j));
      }

  pub row_at : {k l i j n : ℕ} {xs : List ℤ} → k ≡ l → i ≡ j → Row u (worth u day k) i n xs
      → Row u (worth u day l) j n xs
  row_at {k} {l} {i} {j} {n} {xs} e d r = subst (λ m. Row u (worth u day m) j n xs) e (row_to d r)

  -- the worths of an hour are those before it, by its terms
  pub row_hour : (k j : ℕ) → k < u.hours.0 → {n : ℕ} {xs : List ℤ}
      → Row u (earlier u (day k) (worth u day (suc k))) j n xs → Row u (worth u day k) j n xs
  row_hour k j h r = row_same (λ s. sym (worth_earlier u day k h s)) r

  module _ (fit : Fit u) (fair : (k : ℕ) → Fair (day k)) where
    pub sized_at : (k : ℕ) → Sized (worth u day k)
    sized_at k = record { size = worth_size u fit day fair k }

    pub across_at : (k j : ℕ) {n : ℕ} {xs : List ℤ} → Row u (worth u day k) j n xs
        → Across u (worth u day k) (suc j) n xs
    across_at k j r = record { sized = sized_at k; row = row_to (omega arith) r }

  -- the cell of the minimum output is the entry
  pub entry_at : (k : ℕ) {n : ℕ} {xs : List ℤ} → 1 ≤ n → Row u (worth u day k) u.lock.0 n xs
      → get_or xs 0 (pos 0) ≡ entry u (worth u day k)
  unfolding entry
  entry_at k h r =
      r.at 0 h ∙ ap (λ p. coded (worth u day k (running p u.lock.0))) (add-zero u.minimum.0)

-- ---- the cells that are come to
-- in an hour more by so many more
pub reach_step : (u : Unit) (m d : ℕ) → min (min (m + d * u.rampup.0) (cells_of u) + u.rampup.0) (cells_of u)
    ≤ min (m + suc d * u.rampup.0) (cells_of u)
reach_step u m d = omega (arith, suc-mul d u.rampup.0)
