-- Laws of the pairs of a file, and of the test that they follow one another. Assumes nothing.
use mathlib.Core.Path.{◌≡◌, refl, ap}
use mathlib.Core.Bool.{true, not, ◌&&◌}
use mathlib.Core.List.{List}
use Prim.Native.Nat.{ℕ, ◌+◌, ◌*◌, ◌-◌, ◌≤◌, ◌<◌}
use native.Mathlib.Omega.{arith}
use lib.Dec.{eqb}
use lib.ListN.{length, take, drop}
use borrow.Author.Tests.{lt-leb, le-leb}
use Rattle.cases.specs.Symbols.{before, every}
use Rattle.cases.specs.Layout.{number_at, offset_at, length_at, end_at, section_at, form_of}
use Rattle.cases.specs.Refusals.{refusal1}
use Rattle.cases.proofs.SymbolsLaws.{before_is}

module _ (file : List ℕ) (i : ℕ) where
  pub offset_at_word : number_at file (4 * i) 2 ≡ offset_at file i
  unfolding offset_at
  offset_at_word = refl

  pub length_at_word : number_at file (4 * i + 2) 2 ≡ length_at file i
  unfolding length_at
  length_at_word = refl

  pub end_at_sum : end_at file i ≡ offset_at file i + length_at file i
  unfolding end_at
  end_at_sum = refl

  pub section_at_part : take (end_at file i - offset_at file i) (drop (offset_at file i) file) ≡ section_at file i
  unfolding section_at
  section_at_part =
      ap (λ n. take n (drop (offset_at file i) file))
      (let e : end_at file i - offset_at file i ≡ length_at file i = omega (arith, end_at_sum) in e)

-- ---- refusal 1
-- a file too short for the pairs of its form
pub refusal1_short : (file : List ℕ) → length file < 4 * length (form_of file) → refusal1 file ≡ true
unfolding refusal1
refusal1_short file h = rw (lt-leb (4 * length (form_of file)) (length file) h)

-- one with room for its n pairs
pub refusal1_pairs : (file : List ℕ) (n : ℕ) → n ≡ length (form_of file) → 4 * n ≤ length file
    → not (eqb (offset_at file 0) (4 * n)
    && (every (λ i. eqb (offset_at file i) (end_at file (before i))) (n - 1) && eqb (end_at file (n - 1)) (length file)))
    ≡ refusal1 file
unfolding refusal1
refusal1_pairs file n e h = rw (← e, le-leb (4 * n) (length file) h, before_is n)
