-- The file of a case in a form: its length, and its pairs, sections and numbers as they are read back. One argument for
-- every form. Assumes nothing.
use mathlib.Core.Path.{◌≡◌, refl, ap, ◌∙◌}
use mathlib.Core.List.{List, [], ◌++◌}
use Prim.Native.Nat.{ℕ, zero, suc, ◌+◌, ◌*◌, ◌/◌, ◌^◌, ◌≤◌, ◌<◌}
use native.Mathlib.Nat.{mul-div_cancel_left}
use native.Mathlib.Omega.{arith}
use lib.ListN.{length, get_or, take, drop, length-append, length-drop}
use lib.Seq.{drop-append-add, take-append-le, drop-append-le}
use Rattle.cases.specs.declared.Case.{Case}
use Rattle.quantities.specs.Widths.{words}
use Rattle.cases.specs.Forms.{Form, entry_length, pairs_length}
use Rattle.cases.specs.Layout.{number_at, offset_at, length_at, joined, bytes, field_bytes, counts_of}
use Rattle.cases.specs.Layout.{numbers_of, section_bytes, section_length, section_from, pair_bytes, file_of, section_at}
use Rattle.cases.specs.Layout.{entries_at, entry_at}
use Rattle.cases.proofs.LayoutLaws.{number_bytes, length_joined, joined_at, joined_room}
use Rattle.cases.proofs.LayoutLaws.{joined_part, number_at_part}
use Rattle.cases.proofs.FieldsLaws.{length_field_bytes, field_at_entry}

-- two 16-bit numbers, read off their bytes
abbrev pair : ℕ → ℕ → List ℕ
pair a b = bytes 2 a ++ bytes 2 b

pair_first : (a b : ℕ) → a < words → number_at (pair a b) 0 2 ≡ a
unfolding number_at bytes
pair_first a b h = number_bytes 2 a h

pair_second : (a b : ℕ) → b < words → number_at (pair a b) 2 2 ≡ b
unfolding number_at bytes
pair_second a b h = number_bytes 2 b h

module _ (c : Case) (f : ℕ × Form) where
  -- ---- lengths
  pub length_section_bytes : (i : ℕ) → length (section_bytes c f i) ≡ section_length c f i
  unfolding section_bytes section_length
  length_section_bytes i =
      length_joined (entry_length f.1 i) (λ k. field_bytes (get_or f.1 i []) (get_or (numbers_of c f.0 k) i []))
      (λ k. length_field_bytes (get_or f.1 i []) (get_or (numbers_of c f.0 k) i [])) (get_or (counts_of c) i 0)

  pub length_pair : (i : ℕ) → length (pair (section_from c f i) (section_length c f i)) ≡ 4
  unfolding bytes
  length_pair i = refl

  pub length_pair_bytes : length (pair_bytes c f) ≡ pairs_length f.1
  unfolding pair_bytes
  length_pair_bytes = length_joined 4 (λ i. pair (section_from c f i) (section_length c f i)) length_pair (length f.1)

  pub sections_from : (n : ℕ) → pairs_length f.1 + length (joined (section_bytes c f) n) ≡ section_from c f n
  unfolding joined section_from
  sections_from zero = omega arith
  sections_from (suc n) =
      omega (
        arith,
        length-append (joined (section_bytes c f) n) (section_bytes c f n),
        sections_from n,
        length_section_bytes n,
      )

  pub length_file_of : length (file_of c f) ≡ section_from c f (length f.1)
  unfolding file_of
  length_file_of =
      omega (
        arith,
        length-append (pair_bytes c f) (joined (section_bytes c f) (length f.1)),
        length_pair_bytes,
        sections_from (length f.1),
      )

  -- ---- pairs
  -- where section i ends is no later than where any after it begins
  from_le : (n i : ℕ) → i < n → section_from c f i + section_length c f i ≤ section_from c f n
  from_le n i h =
      omega (
        arith,
        joined_room (section_bytes c f) n i h,
        sections_from n,
        sections_from i,
        length_section_bytes i,
      )

  pair_written : (i : ℕ) → i < length f.1
      → take 4 (drop (4 * i) (file_of c f)) ≡ pair (section_from c f i) (section_length c f i)
  unfolding file_of pair_bytes
  pair_written i h =
      let pairs = pair_bytes c f in
      let rest = joined (section_bytes c f) (length f.1) in
      ap (take 4) (drop-append-le (4 * i) pairs rest (omega (arith, length_pair_bytes)))
      ∙ take-append-le 4 (drop (4 * i) pairs) rest (omega (arith, length_pair_bytes, length-drop (4 * i) pairs))
      ∙ joined_part 4 (λ i. pair (section_from c f i) (section_length c f i)) length_pair (length f.1) i h

  module _ (small : section_from c f (length f.1) < words) where
    pub offset_written : (i : ℕ) → i < length f.1 → offset_at (file_of c f) i ≡ section_from c f i
    unfolding offset_at
    offset_written i h =
        ap (λ k. number_at (file_of c f) k 2) (let e : 4 * i ≡ 4 * i + 0 = omega arith in e)
        ∙ number_at_part (file_of c f) (4 * i) 4 0 2 (omega arith)
        ∙ ap (λ s. number_at s 0 2) (pair_written i h)
        ∙ pair_first (section_from c f i) (section_length c f i) (omega (arith, from_le (length f.1) i h))

    pub length_written : (i : ℕ) → i < length f.1 → length_at (file_of c f) i ≡ section_length c f i
    unfolding length_at
    length_written i h =
        number_at_part (file_of c f) (4 * i) 4 2 2 (omega arith)
        ∙ ap (λ s. number_at s 2 2) (pair_written i h)
        ∙ pair_second (section_from c f i) (section_length c f i) (omega (arith, from_le (length f.1) i h))

    -- ---- sections
    pub section_written : (i : ℕ) → i < length f.1 → section_at (file_of c f) i ≡ section_bytes c f i
    unfolding section_at file_of
    section_written i h =
        let pairs = pair_bytes c f in
        let all = joined (section_bytes c f) (length f.1) in
        let before = length (joined (section_bytes c f) i) in
        let e : section_from c f i ≡ length pairs + before = omega (arith, length_pair_bytes, sections_from i) in
        rw (length_written i h, offset_written i h, e, ← length_section_bytes i)
        (ap (take (length (section_bytes c f i))) (drop-append-add pairs all before)
        ∙ joined_at (section_bytes c f) (length f.1) i h)

    -- ---- numbers
    pub entries_written : (i : ℕ) → i < length f.1 → 0 < entry_length f.1 i
        → entries_at f.1 (file_of c f) i ≡ get_or (counts_of c) i 0
    unfolding entries_at section_length
    entries_written i h wide =
        ap (λ n. n / entry_length f.1 i) (length_written i h) ∙ mul-div_cancel_left (get_or (counts_of c) i 0) wide

    pub entry_written : (i k j : ℕ) → i < length f.1 → k < get_or (counts_of c) i 0 → j < length (get_or f.1 i [])
        → j < length (get_or (numbers_of c f.0 k) i [])
        → get_or (get_or (numbers_of c f.0 k) i []) j 0 < 256 ^ get_or (get_or f.1 i []) j 0
        → entry_at f.1 (file_of c f) i k j ≡ get_or (get_or (numbers_of c f.0 k) i []) j 0
    unfolding entry_at section_bytes
    entry_written i k j h few a b fits =
        rw (section_written i h)
        (field_at_entry (get_or f.1 i []) (λ k. get_or (numbers_of c f.0 k) i []) (get_or (counts_of c) i 0) k j few a b
        fits)
