-- The file of a case within the limits, in a form that has room for its prices, is read as that case, with the entries
-- past its counts zero. Assumes nothing.
use mathlib.Core.Path.{◌≡◌, refl, sym, ap, ◌∙◌, subst}
use mathlib.Core.Bool.{false, true}
use mathlib.Core.List.{List, [], ◌∷◌, ◌++◌}
use Prim.Native.Nat.{ℕ, zero, suc, ◌+◌, ◌*◌, ◌^◌, ◌≤◌, ◌<◌}
use native.Mathlib.Omega.{arith}
use borrow.Author.Tests.{eq-eqb, le-leb}
use lib.Dec.{eqb}
use lib.IntN.{nat_abs}
use lib.ListN.{length, get_or}
use Rattle.cases.specs.declared.Case.{Case}
use Rattle.quantities.specs.declared.Output.{Output}
use Rattle.quantities.specs.declared.Mills.{Mills}
use Rattle.cases.specs.Limits.{most_stages, most_hours, half_longs}
use Rattle.quantities.specs.Widths.{words}
use Rattle.cases.specs.Symbols.{before, stage, hourly, priced}
use Rattle.cases.specs.Forms.{Form, unit_widths, stage_widths, number_section, form_with, old_form, form2, newest}
use Rattle.cases.specs.Forms.{numbered, unknown, entry_length}
use Rattle.cases.specs.Forms.{most_entries, width}
use Rattle.cases.specs.Layout.{offset_at, length_at, end_at, padded, no_output, no_mills, signed, unsigned}
use Rattle.cases.specs.Layout.{zeroed, counts_of, numbers_of, section_length, section_from, section_bytes, file_of}
use Rattle.cases.specs.Layout.{section_at, field_at, form_number_at, form_of, entries_at, entry_at, case_in, case_of}
use Rattle.cases.specs.Refusals.{fits, refusal1, refusal2_file, refusal12, first_of, file_tests, refusal_of}
use Rattle.cases.specs.Reads.{reading_of, read_of}
use Rattle.cases.proofs.RefusalsLaws.{fits_times, refusal12_old, refusal12_late}
use Rattle.cases.proofs.LimitsLaws.{Limits, Amount, Between, all_every, limits_of_refusal_of}
use Rattle.cases.proofs.SymbolsLaws.{before_is}
use Rattle.cases.proofs.StagesLaws.{rise_le, fall_le, initial_le, stages_le}
use Rattle.cases.proofs.LayoutLaws.{padded_same}
use Rattle.cases.proofs.ZeroedLaws.{tests_zeroed}
use Rattle.cases.proofs.FormsLaws.{old_front, front, Known, four_sections}
use Rattle.cases.proofs.FormsLaws.{five_sections, wide, known, form_of_old, form_of_two, form_of_new, unsigned_lt}
use Rattle.cases.proofs.FormsLaws.{signed_unsigned}
use Rattle.cases.proofs.FieldsLaws.{field_at_entry, field_at_past}
use Rattle.cases.proofs.WrittenLaws.{sections_from, length_file_of, offset_written, length_written}
use Rattle.cases.proofs.WrittenLaws.{section_written, entries_written, entry_written}
use Rattle.cases.specs.Reads.{Accepted}

abbrev output : ℕ → Output
output n = record { 0 = n }

abbrev mills : ℕ → Mills
mills n = record { 0 = signed n }

-- ---- a form with these stages, prices of w bytes and this number
module _ (c : Case) (lim : Limits c) (n : ℕ) (stages : List ℕ) (w : ℕ) (more : Form)
    (small : section_from c (n, form_with stages w more) (length (form_with stages w more)) < words)
    (roomy : (k : ℕ) → k < c.hours → unsigned (get_or c.prices k no_mills).0 < 256 ^ w) where
  abbrev form : ℕ × Form
  form = (n, form_with stages w more)

  abbrev file : List ℕ
  file = file_of c form

  abbrev unit : List ℕ
  unit = get_or (numbers_of c n 0) 0 []

  -- field j of the unit
  unit_reread : (j : ℕ) → j < length (unit_widths ++ stages) → j < length unit
      → get_or unit j 0 < 256 ^ get_or (unit_widths ++ stages) j 0 → entry_at form.1 file 0 0 j ≡ get_or unit j 0
  unit_reread j h k b = entry_written c form small 0 0 j (omega arith) (omega arith) h k b

  cost_reread : (j most : ℕ) → j < 12 → (z : Mills) → Amount most z.0 → most < half_longs
      → get_or unit j 0 ≡ unsigned z.0 → get_or (unit_widths ++ stages) j 0 ≡ 4
      → mills (entry_at form.1 file 0 0 j) ≡ z
  cost_reread j most h z a b e four =
      let fit : nat_abs z.0 < half_longs = omega (arith, a.le) in
      let low : get_or unit j 0 < 256 ^ get_or (unit_widths ++ stages) j 0 = rw (e, four) (unsigned_lt z.0 fit) in
      λ i. record {
        0 = (ap signed (unit_reread j (omega arith) (omega arith) low ∙ e) ∙ signed_unsigned z.0 fit) i;
      }

  -- the counts
  rises_reread : entries_at form.1 file 1 ≡ c.rises
  rises_reread = entries_written c form small 1 (omega arith) (omega arith)

  falls_reread : entries_at form.1 file 2 ≡ c.falls
  falls_reread = entries_written c form small 2 (omega arith) (omega arith)

  hours_reread : entries_at form.1 file 3 ≡ c.hours
  hours_reread = entries_written c form small 3 (omega arith) (omega arith)

  -- the arrays
  rise_reread : padded no_output (λ k. output (entry_at form.1 file 1 k 0)) (entries_at form.1 file 1) most_stages
      ≡ padded no_output (λ k. get_or c.rise k no_output) c.rises most_stages
  unfolding stage
  rise_reread =
      rw rises_reread
      (padded_same no_output _ _ c.rises most_stages
      (λ k h. ap output
      (entry_written c form small 1 k 0 (omega arith) h (omega arith) (omega arith)
      (omega (arith, rise_le c lim (suc k) h, lim.capacity_le)))))

  fall_reread : padded no_output (λ k. output (entry_at form.1 file 2 k 0)) (entries_at form.1 file 2) most_stages
      ≡ padded no_output (λ k. get_or c.fall k no_output) c.falls most_stages
  unfolding stage
  fall_reread =
      rw falls_reread
      (padded_same no_output _ _ c.falls most_stages
      (λ k h. ap output
      (entry_written c form small 2 k 0 (omega arith) h (omega arith) (omega arith)
      (omega (arith, fall_le c lim (suc k) h, lim.minimum_le, lim.capacity_le)))))

  price_reread : (k : ℕ) → k < c.hours → mills (entry_at form.1 file 3 k 0) ≡ get_or c.prices k no_mills
  unfolding priced
  price_reread k h =
      let z = (get_or c.prices k no_mills).0 in
      let e = entry_written c form small 3 k 0 (omega arith) h (omega arith) (omega arith) (roomy k h) in
      let fit : nat_abs z < half_longs = omega (arith, lim.price_le (suc k) (omega arith) h) in
      λ i. record { 0 = (ap signed e ∙ signed_unsigned z fit) i }

  order_reread : (k : ℕ) → k < c.hours → entry_at form.1 file 3 k 1 ≡ get_or c.orders k 0
  unfolding hourly
  order_reread k h =
      entry_written c form small 3 k 1 (omega arith) h (omega arith) (omega arith)
      (omega (arith, lim.order_le (suc k) (omega arith) h))

  prices_reread : padded no_mills (λ k. mills (entry_at form.1 file 3 k 0)) (entries_at form.1 file 3) most_hours
      ≡ padded no_mills (λ k. get_or c.prices k no_mills) c.hours most_hours
  prices_reread = rw hours_reread (padded_same no_mills _ _ c.hours most_hours price_reread)

  orders_reread : padded 0 (λ k. entry_at form.1 file 3 k 1) (entries_at form.1 file 3) most_hours
      ≡ padded 0 (λ k. get_or c.orders k 0) c.hours most_hours
  orders_reread = rw hours_reread (padded_same 0 _ _ c.hours most_hours order_reread)

  -- the case, if its stages are read back
  pub case_in_file_of : entry_at form.1 file 0 0 12 ≡ c.upstage → entry_at form.1 file 0 0 13 ≡ c.downstage
      → case_in form.1 file ≡ zeroed c
  unfolding case_in zeroed
  case_in_file_of upstage downstage =
      let capacity = unit_reread 0 (omega arith) (omega arith) (omega (arith, lim.capacity_le)) in
      let minimum = unit_reread 1 (omega arith) (omega arith) (omega (arith, lim.minimum_le, lim.capacity_le)) in
      let rampup = unit_reread 2 (omega arith) (omega arith) (omega (arith, lim.rampup_le)) in
      let rampdown = unit_reread 3 (omega arith) (omega arith) (omega (arith, lim.rampdown_le)) in
      let minup = unit_reread 4 (omega arith) (omega arith) (omega (arith, lim.minup_le)) in
      let mindown = unit_reread 5 (omega arith) (omega arith) (omega (arith, lim.mindown_le)) in
      let variable = cost_reread 6 _ (omega arith) c.variable lim.variable_in (omega arith) refl refl in
      let fixed = cost_reread 7 _ (omega arith) c.fixed lim.fixed_in (omega arith) refl refl in
      let startcost = cost_reread 8 _ (omega arith) c.startcost lim.startcost_in (omega arith) refl refl in
      let stopcost = cost_reread 9 _ (omega arith) c.stopcost lim.stopcost_in (omega arith) refl refl in
      let initial = unit_reread 10 (omega arith) (omega arith) (omega (arith, initial_le c lim, lim.capacity_le)) in
      let elapsed = unit_reread 11 (omega arith) (omega arith) (omega (arith, lim.elapsed_le)) in
      λ i. record {
        capacity = output (capacity i);
        minimum = output (minimum i);
        rampup = output (rampup i);
        rampdown = output (rampdown i);
        minup = record { 0 = minup i };
        mindown = record { 0 = mindown i };
        variable = variable i;
        fixed = fixed i;
        startcost = startcost i;
        stopcost = stopcost i;
        initial = output (initial i);
        elapsed = record { 0 = elapsed i };
        upstage = upstage i;
        downstage = downstage i;
        rise = rise_reread i;
        fall = fall_reread i;
        prices = prices_reread i;
        orders = orders_reread i;
        rises = rises_reread i;
        falls = falls_reread i;
        hours = hours_reread i;
      }

-- ---- the refusals of a file
-- the entries of each section are as many as the form allows
module _ (c : Case) (lim : Limits c) where
  entries_in : (i : ℕ) → i < 5 → Between 1 (get_or most_entries i 0) (get_or (counts_of c) i 0)
  entries_in zero h = omega arith
  entries_in (suc zero) h = (lim.rises_pos, lim.rises_le)
  entries_in (suc (suc zero)) h = (lim.falls_pos, lim.falls_le)
  entries_in (suc (suc (suc zero))) h = (lim.hours_pos, lim.hours_le)
  entries_in (suc (suc (suc (suc zero)))) h = omega arith
  entries_in (suc (suc (suc (suc (suc i))))) h = absurd (omega arith)

-- where the file of a numbered form ends
pub numbered_length : (c : Case) (n : ℕ) (stages : List ℕ) → section_from c (n, form_with stages 4 number_section) 5
    ≡ front + width (unit_widths ++ stages) + 2 + 2 * c.rises + 2 * c.falls + 5 * c.hours
unfolding section_from section_length
numbered_length c n stages = omega arith

module _ (c : Case) (lim : Limits c) (f : ℕ × Form) (small : section_from c f (length f.1) < words)
    (is : form_of (file_of c f) ≡ f.1) where
  shown : Known (file_of c f) f.1
  shown = subst (Known (file_of c f)) is (known (file_of c f))

  end_written : (i : ℕ) → i < length f.1 → end_at (file_of c f) i ≡ section_from c f (suc i)
  unfolding end_at section_from
  end_written i h = rw (offset_written c f small i h, length_written c f small i h)

  chained : (i : ℕ) → 1 ≤ i → i ≤ before (length f.1)
      → eqb (offset_at (file_of c f) i) (end_at (file_of c f) (before i)) ≡ true
  chained zero x y = absurd (omega arith)
  chained (suc i) x y =
      let later : suc i < length f.1 = omega (arith, before_is (length f.1)) in
      eq-eqb (offset_at (file_of c f) (suc i)) (end_at (file_of c f) i)
      (offset_written c f small (suc i) later ∙ sym (end_written i (omega arith)))

  refusal1_file_of : refusal1 (file_of c f) ≡ false
  unfolding refusal1 section_from
  refusal1_file_of =
      let b = file_of c f in
      let n = length f.1 in
      let some = four_sections shown in
      let long : 4 * n ≤ length b = omega (arith, length_file_of c f, sections_from c f n) in
      let last : suc (before n) ≡ n = omega (arith, before_is n) in
      let end : end_at b (before n) ≡ length b =
      end_written (before n) (omega arith) ∙ ap (section_from c f) last ∙ sym (length_file_of c f) in
      rw (
        is,
        le-leb (4 * n) (length b) long,
        eq-eqb (offset_at b 0) (4 * n) (offset_written c f small 0 (omega arith)),
        all_every (λ i. eqb (offset_at b i) (end_at b (before i))) (before n) chained,
        eq-eqb (end_at b (before n)) (length b) end,
      )

  fitting : (i : ℕ) → 1 ≤ i → i ≤ length f.1
      → fits (entry_length f.1 (before i)) (get_or most_entries (before i) 0) (length_at (file_of c f) (before i)) ≡ true
  unfolding section_length
  fitting zero x y = absurd (omega arith)
  fitting (suc i) x y =
      ap (fits (entry_length f.1 i) (get_or most_entries i 0)) (length_written c f small i y)
      ∙ fits_times (entry_length f.1 i) (get_or most_entries i 0) (get_or (counts_of c) i 0) (wide shown i y)
      (entries_in c lim i (omega (arith, five_sections shown)))

  refusal2_file_of : refusal2_file (file_of c f) ≡ false
  unfolding refusal2_file
  refusal2_file_of = rw (is, all_every _ (length f.1) fitting)

  -- a file that 12 does not refuse and that gives back its case is read as that case
  pub file_of_reads : refusal12 (file_of c f) ≡ false → case_of (file_of c f) ≡ zeroed c → refusal_of c ≡ 0
      → read_of (file_of c f) ≡ record { outcome = Accepted; case = zeroed c }
  unfolding read_of reading_of first_of file_tests refusal_of
  file_of_reads known_number same e =
      rw (refusal1_file_of, refusal2_file_of, known_number, same, tests_zeroed c [], e)

-- ---- the three forms
module _ (c : Case) (e : refusal_of c ≡ 0) where
  lim : Limits c
  lim = limits_of_refusal_of c e

  -- the forms with a number have room for every price
  roomy : (k : ℕ) → k < c.hours → unsigned (get_or c.prices k no_mills).0 < 256 ^ 4
  unfolding priced
  roomy k h = unsigned_lt (get_or c.prices k no_mills).0 (omega (arith, lim.price_le (suc k) (omega arith) h))

  module _ (n : ℕ) (stages : List ℕ) (narrow : n < words) (short : width stages ≤ 2) where
    abbrev numbered_form : ℕ × Form
    numbered_form = (n, form_with stages 4 number_section)

    numbered_small : section_from c numbered_form 5 < words
    numbered_small = omega (arith, numbered_length c n stages, lim.rises_le, lim.falls_le, lim.hours_le)

    numbered_first : offset_at (file_of c numbered_form) 0 ≡ front
    unfolding section_from
    numbered_first = offset_written c numbered_form numbered_small 0 (omega arith)

    numbered_past : offset_at (file_of c numbered_form) 0 ≡ old_front → ⊥
    numbered_past z = omega (arith, numbered_first)

    numbered_number : form_number_at (file_of c numbered_form) ≡ n
    unfolding form_number_at section_bytes field_at
    numbered_number =
        rw (section_written c numbered_form numbered_small 4 (omega arith))
        (field_at_entry (2 ∷ []) (λ k. n ∷ []) 1 0 0 (omega arith) (omega arith) (omega arith) narrow)

    numbered_twelve : unknown numbered n ≡ false → refusal12 (file_of c numbered_form) ≡ false
    numbered_twelve h =
        refusal12_late (file_of c numbered_form) numbered_past ∙ ap (unknown numbered) numbered_number ∙ h

    numbered_reads : unknown numbered n ≡ false → form_of (file_of c numbered_form) ≡ numbered_form.1
        → case_in numbered_form.1 (file_of c numbered_form) ≡ zeroed c
        → read_of (file_of c numbered_form) ≡ record { outcome = Accepted; case = zeroed c }
    unfolding case_of
    numbered_reads h is same =
        file_of_reads c lim numbered_form numbered_small is (numbered_twelve h) (rw is same) e

  -- the newest has room for the stages
  pub new_first : offset_at (file_of c newest) 0 ≡ front
  new_first = numbered_first newest.0 stage_widths (omega arith) (omega arith)

  pub new_number : form_number_at (file_of c newest) ≡ newest.0
  new_number = numbered_number newest.0 stage_widths (omega arith) (omega arith)

  new_form : form_of (file_of c newest) ≡ newest.1
  new_form = form_of_new (file_of c newest) (λ z. omega (arith, new_first)) (λ z. omega (arith, new_number))

  new_case_in : case_in newest.1 (file_of c newest) ≡ zeroed c
  new_case_in =
      let n = newest.0 in
      let small = numbered_small n stage_widths (omega arith) (omega arith) in
      let field = unit_reread c lim n stage_widths 4 number_section small roomy in
      let (up, down) = stages_le c lim in
      case_in_file_of c lim n stage_widths 4 number_section small roomy
      (field 12 (omega arith) (omega arith) (omega (arith, lim.rises_le)))
      (field 13 (omega arith) (omega arith) (omega (arith, lim.falls_le)))

  pub new_case : case_of (file_of c newest) ≡ zeroed c
  unfolding case_of
  new_case = rw new_form new_case_in

  pub new_reads : read_of (file_of c newest) ≡ record { outcome = Accepted; case = zeroed c }
  unfolding unknown
  new_reads = numbered_reads newest.0 stage_widths (omega arith) (omega arith) refl new_form new_case_in

  -- a case without stages
  module _ (no_up : c.upstage ≡ 0) (no_down : c.downstage ≡ 0) where
    stageless : (n w : ℕ) (more : Form)
        → (small : section_from c (n, form_with [] w more) (length (form_with [] w more)) < words)
        → ((k : ℕ) → k < c.hours → unsigned (get_or c.prices k no_mills).0 < 256 ^ w)
        → case_in (form_with [] w more) (file_of c (n, form_with [] w more)) ≡ zeroed c
    unfolding entry_at
    stageless n w more small roomy =
        let part = section_at (file_of c (n, form_with [] w more)) 0 in
        case_in_file_of c lim n [] w more small roomy
        (field_at_past unit_widths part _ 12 (omega arith) ∙ sym no_up)
        (field_at_past unit_widths part _ 13 (omega arith) ∙ sym no_down)

    two_form : form_of (file_of c form2) ≡ form2.1
    two_form =
        form_of_two (file_of c form2) (numbered_past form2.0 [] (omega arith) (omega arith))
        (numbered_number form2.0 [] (omega arith) (omega arith))

    pub two_reads : read_of (file_of c form2) ≡ record { outcome = Accepted; case = zeroed c }
    unfolding unknown
    two_reads =
        numbered_reads form2.0 [] (omega arith) (omega arith) refl two_form
        (stageless form2.0 4 number_section (numbered_small form2.0 [] (omega arith) (omega arith)) roomy)

    -- the old form has room for prices of 16 bits
    module _ (low : (k : ℕ) → k < c.hours → unsigned (get_or c.prices k no_mills).0 < 256 ^ 2) where
      old_small : section_from c old_form 4 < words
      unfolding section_from section_length
      old_small = omega (arith, lim.rises_le, lim.falls_le, lim.hours_le)

      old_first : offset_at (file_of c old_form) 0 ≡ old_front
      unfolding section_from
      old_first = offset_written c old_form old_small 0 (omega arith)

      old_form_read : form_of (file_of c old_form) ≡ old_form.1
      old_form_read = form_of_old (file_of c old_form) old_first

      old_twelve : refusal12 (file_of c old_form) ≡ false
      old_twelve = refusal12_old (file_of c old_form) old_first

      pub old_reads : read_of (file_of c old_form) ≡ record { outcome = Accepted; case = zeroed c }
      unfolding case_of
      old_reads =
          file_of_reads c lim old_form old_small old_form_read old_twelve
          (rw old_form_read (stageless old_form.0 2 [] old_small low)) e
