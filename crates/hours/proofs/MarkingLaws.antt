-- A loop that counts the marks of the hours, one after the other. Assumes nothing.
use mathlib.Core.Path.{◌≡◌}
use mathlib.Core.List.{List}
use Prim.Native.Nat.{ℕ, ◌+◌, ◌≤◌, ◌<◌}
use native.Mathlib.Omega.{arith}
use lib.ListN.{set, replicate}
use Rattle.hours.specs.Counted.{counts_length, last_count, Running}
use Rattle.hours.proofs.CountLaws.{Counting, counting_start, counting_step, counting_end}

-- the hours up to hour k − 1 are counted, x marks of f
pub record Marking (f : ℕ → ℕ) (k x : ℕ) (xs : List ℕ) : Type 0 where
  pub some : 1 ≤ k
  pub most : k ≤ last_count
  pub counting : Counting f k x xs

module _ {f : ℕ → ℕ} where
  pub marking_start : {xs : List ℕ} → xs ≡ replicate counts_length 0 → f 0 ≡ 0 → ((k : ℕ) → f k ≤ 1) → Marking f 1 0 xs
  marking_start e o u = record { some = omega arith; most = omega arith; counting = counting_start e o u }

  pub marking_step : {k x : ℕ} {xs : List ℕ} (m : ℕ) → Marking f k x xs → k < last_count → m ≡ f k
      → Marking f (k + 1) (x + m) (set xs (k + 1) (x + m))
  marking_step m h less e =
      record { some = omega arith; most = omega arith; counting = counting_step h.counting m less e }

  pub marking_end : {k x : ℕ} {xs : List ℕ} → Marking f k x xs → last_count ≤ k → Running f last_count xs
  marking_end {k} h m = counting_end h.counting (let e : k ≡ last_count = omega (arith, h.most) in e)
