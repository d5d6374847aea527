-- The case of a file is the case of its sections, which are as long as their form says; the order byte is the last of
-- an hour. Assumes nothing.
use mathlib.Core.Path.{◌≡◌, refl, sym, ap, ◌∙◌}
use mathlib.Core.List.{List, []}
use Prim.Native.Nat.{ℕ, ◌+◌, ◌*◌, ◌-◌, ◌≤◌, ◌<◌}
use native.Mathlib.Nat.{mul-one, mul-le-mul_left}
use native.Mathlib.Omega.{arith}
use lib.ListN.{length, get_or, get_or-eq_default}
use Rattle.cases.specs.Limits.{most_stages, most_hours}
use Rattle.cases.specs.Forms.{Form as Table, unit_widths, width, most_entries, entry_length}
use Rattle.cases.specs.Layout.{end_at, section_at, field_at, entries_at, entry_at, case_in}
use Rattle.cases.proofs.AcceptedLaws.{Whole, ends, length_section}
use Rattle.cases.proofs.NumbersLaws.{number_at_one}
use Rattle.reader.specs.declared.forms.Form.{Form}
use Rattle.reader.specs.declared.forms.Form.TheVariants.{Old, Two, Three}
use Rattle.reader.specs.Sections.{trajectory_of, day_of, assembled}
use Rattle.reader.specs.Tables.{table_of}
use Rattle.reader.proofs.TablesLaws.{sections_four, unit_some, entry_stage, stages_most}

-- the bytes of section i: as many as its form allows at the most, and those of the entry where there is one
module _ {f : Table} {file : List ℕ} (w : Whole f file) (i : ℕ) (h : i < length f) where
  pub section_le : length (section_at file i) ≤ entry_length f i * get_or most_entries i 0
  section_le =
      omega (
        arith,
        length_section w i h,
        w.whole_entries i h,
        mul-le-mul_left (entry_length f i) (w.entries_in i h).1,
      )

  pub section_one : get_or most_entries i 0 ≡ 1 → length (section_at file i) ≡ entry_length f i
  section_one e =
      let n : entries_at f file i ≡ 1 = omega (arith, w.entries_in i h) in
      length_section w i h ∙ sym (w.whole_entries i h) ∙ ap (λ k. entry_length f i * k) n ∙ mul-one (entry_length f i)

-- in a form of a file: where the sections lie, and how long the first ones are
module _ (f : Form) {file : List ℕ} (w : Whole (table_of f) file) where
  here : (i : ℕ) → i < 4 → i < length (table_of f)
  here i h = omega (arith, sections_four f)

  pub section_room : (i : ℕ) → i < 4 → (4 * i + 4 ≤ length file) × (end_at file i ≤ length file)
  section_room i h = (omega (arith, w.linked.long, here i h), ends w i (here i h))

  -- a trajectory has two bytes for an output
  pub stages_room : (i : ℕ) → (i ≡ 0 → ⊥) → i < 3 → length (section_at file i) ≤ 2 * most_stages
  stages_room i n h =
      omega (
        arith,
        section_le w i (here i (omega arith)),
        ap (λ k. entry_length (table_of f) i * k) (stages_most i n h),
        entry_stage f i n h,
      )

  pub day_room : length (section_at file 3) ≤ entry_length (table_of f) 3 * most_hours
  day_room = section_le w 3 (here 3 (omega arith))

  pub unit_room : width unit_widths ≤ length (section_at file 0)
  unit_room = omega (arith, section_one w 0 (here 0 (omega arith)) refl, unit_some f)

module _ (file : List ℕ) where
  pub case_in_sections : (f : Form) → Whole (table_of f) file
      → assembled (section_at file 0) (trajectory_of (section_at file 1)) (trajectory_of (section_at file 2))
      (day_of (table_of f) (section_at file 3))
      ≡ case_in (table_of f) file
  unfolding assembled trajectory_of day_of case_in entries_at entry_at field_at
  case_in_sections Old w =
      rw (
        length_section w 1 (omega arith),
        length_section w 2 (omega arith),
        length_section w 3 (omega arith),
        get_or-eq_default (section_at file 0) 0 {n = 32} (omega (arith, section_one w 0 (omega arith) refl)),
        get_or-eq_default (section_at file 0) 0 {n = 33} (omega (arith, section_one w 0 (omega arith) refl)),
      )
  case_in_sections Two w =
      rw (
        length_section w 1 (omega arith),
        length_section w 2 (omega arith),
        length_section w 3 (omega arith),
        get_or-eq_default (section_at file 0) 0 {n = 32} (omega (arith, section_one w 0 (omega arith) refl)),
        get_or-eq_default (section_at file 0) 0 {n = 33} (omega (arith, section_one w 0 (omega arith) refl)),
      )
  case_in_sections Three w =
      rw (
        length_section w 1 (omega arith),
        length_section w 2 (omega arith),
        length_section w 3 (omega arith),
        number_at_one (section_at file 0) 32,
        number_at_one (section_at file 0) 33,
      )

-- the order byte is the last of an hour
pub order_last : (f : Form) (part : List ℕ) (at : ℕ)
    → get_or part (at + (entry_length (table_of f) 3 - 1)) 0 ≡ field_at (get_or (table_of f) 3 []) part at 1
unfolding field_at
order_last Old part at = sym (number_at_one part (at + 2))
order_last Two part at = sym (number_at_one part (at + 4))
order_last Three part at = sym (number_at_one part (at + 4))
