-- A sum that a loop adds up term by term, and the sum of a trajectory where no hour is marked. Assumes nothing.
use mathlib.Core.Path.{◌≡◌, sym, ap, ◌∙◌}
use Prim.Native.Nat.{ℕ, ◌+◌, ◌*◌, ◌≤◌, ◌<◌}
use native.Mathlib.Omega.{arith}
use native.Mathlib.Nat.{mul-add, mul-one, mul-zero}
use Rattle.cases.specs.Symbols.{sum}
use Rattle.cases.proofs.SymbolsLaws.{sum_zeros, term_le_sum}
use Rattle.day.proofs.ConstraintsLaws.{sum_zero, sum_more}

-- i of n terms, each at most m, are added up
pub record Summed (f : ℕ → ℕ) (m n i total : ℕ) : Type 0 where
  pub is : total ≡ sum f i
  pub most : total ≤ m * i
  pub part : i ≤ n

module _ {f : ℕ → ℕ} {m n : ℕ} where
  pub summed_start : Summed f m n 0 0
  summed_start = record { is = sym (sum_zero f); most = omega arith; part = omega arith }

  pub summed_step : {i total : ℕ} (x : ℕ) → Summed f m n i total → i < n → x ≡ f (i + 1) → x ≤ m
      → Summed f m n (i + 1) (total + x)
  summed_step {i} {total} x s l e h =
      record {
        is = (let so = s.is in cc (sum_more f i));
        most = omega (arith, mul-add m i 1, mul-one m);
        part = omega arith;
      }

  pub summed_end : {i total : ℕ} → Summed f m n i total → n ≤ i → total ≡ sum f n
  summed_end {i} {total} s l = s.is ∙ ap (sum f) (omega arith)

-- no hour is marked
pub sum_unmarked : (g f : ℕ → ℕ) (n : ℕ) → sum f n ≡ 0 → sum (λ i. g i * f i) n ≡ 0
sum_unmarked g f n e =
    sum_zeros (λ i. g i * f i) n
    (λ i a b. ap (λ x. g i * x) (let z : f i ≡ 0 = omega (arith, term_le_sum f n i a b) in z) ∙ mul-zero (g i))
