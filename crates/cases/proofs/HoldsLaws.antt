-- The numbers of a file by its bytes: those of its sections stand at their offsets, so a whole file holds its record,
-- and the file of a record within the limits holds that record. Assumes nothing.
use mathlib.Core.Path.{◌≡◌, refl, sym, ap, ◌∙◌, subst}
use mathlib.Core.Logic.{inl, inr}
use mathlib.Core.List.{List, [], ◌++◌}
use Prim.Native.Nat.{ℕ, ◌+◌, ◌*◌, ◌≤◌, ◌<◌}
use native.Mathlib.Nat.{mul-zero, mul-suc, mul-le-mul_left}
use native.Mathlib.Omega.{arith}
use lib.IntN.{ℤ}
use lib.ListN.{get_or}
use Rattle.cases.specs.declared.Case.{Case}
use Rattle.quantities.specs.declared.Output.{Output}
use Rattle.cases.specs.Limits.{most_stages}
use Rattle.cases.specs.Forms.{Form, unit_widths, stage_widths, number_section, form_with, old_form, newest, width}
use Rattle.cases.specs.Forms.{entry_length}
use Rattle.cases.specs.Layout.{number_at, offset_at, length_at, padded, no_output, no_mills, signed, zeroed, bytes_of}
use Rattle.cases.specs.Layout.{section_at, field_at, form_of, entries_at, entry_at, case_in, case_of}
use Rattle.cases.specs.Refusals.{refusal_of}
use Rattle.cases.specs.Reads.{read_of, outcome_number}
use Rattle.cases.specs.Published.{word, long, Signed, Stageless, old, Chained, Measured, Holds}
use Rattle.cases.proofs.LayoutLaws.{number_at_part, get_d_padded_in}
use Rattle.cases.proofs.NumbersLaws.{number_at_one}
use Rattle.cases.proofs.FormsLaws.{old_front, front, Known, is_old, is_two, is_new, known}
use Rattle.cases.proofs.PublishedLaws.{number_at_word, number_at_long, offset_word, length_word, end_word}
use Rattle.cases.proofs.PublishedLaws.{signed_of, two_stageless, new_staged}
use Rattle.cases.proofs.RereadLaws.{new_case, new_reads}
use Rattle.cases.proofs.AcceptedLaws.{Linked, Whole, read_accepted}
use Rattle.cases.proofs.CutLaws.{zeroed_case_of, read_of_accepted}

-- two padded arrays that are the same, of one count, have the same entries below it
padded_entry : {X : Type 0} (rest : X) (f g : ℕ → X) {n m size : ℕ} → padded rest f n size ≡ padded rest g m size
    → n ≡ m → n ≤ size → (i : ℕ) → i < m → f i ≡ g i
padded_entry rest f g {n} {m} {size} e same room i h =
    sym (get_d_padded_in rest f n size rest i (omega arith) (omega arith))
    ∙ ap (λ l. get_or l i rest) e
    ∙ get_d_padded_in rest g m size rest i h (omega arith)

-- the stages of a record, and the length of the unit that holds them or does not
record Staged (s : List ℕ) (c : Case) : Type 0 where
  old_unit : Stageless s → word s 2 ≡ width unit_widths
  unit : (Stageless s → ⊥) → word s 2 ≡ entry_length newest.1 0
  no_stages : Stageless s → (c.upstage ≡ 0) × (c.downstage ≡ 0)
  upstage : (Stageless s → ⊥) → get_or s (word s 0 + width unit_widths) 0 ≡ c.upstage
  downstage : (Stageless s → ⊥) → get_or s (word s 0 + (width unit_widths + 1)) 0 ≡ c.downstage

-- ---- a record whose entries below its counts are those of the file, in a form with these stages and prices of w bytes
module _ (stages : List ℕ) (w : ℕ) (more : Form) (file : List ℕ) (whole : Whole (form_with stages w more) file)
    (c : Case) (e : case_in (form_with stages w more) file ≡ zeroed c) where
  abbrev form : Form
  form = form_with stages w more

  -- a number of section i, at its place in the file
  section_number : (i k size : ℕ) → k + size ≤ length_at file i
      → number_at file (word file (4 * i) + k) size ≡ number_at (section_at file i) k size
  unfolding section_at
  section_number i k size h =
      ap (λ at. number_at file (at + k) size) (sym (offset_word file i))
      ∙ number_at_part file (offset_at file i) (length_at file i) k size h

  section_word : (i k : ℕ) → k + 2 ≤ length_at file i
      → word file (word file (4 * i) + k) ≡ number_at (section_at file i) k 2
  section_word i k h = sym (number_at_word file (word file (4 * i) + k)) ∙ section_number i k 2 h

  -- the lengths
  unit_length : length_at file 0 ≡ width (unit_widths ++ stages)
  unit_length =
      let one : entries_at form file 0 ≡ 1 = omega (arith, whole.entries_in 0 (omega arith)) in
      omega (arith, whole.whole_entries 0 (omega arith), ap (λ n. entry_length form 0 * n) one)

  rise_length : length_at file 1 ≡ 2 * c.rises
  unfolding case_in zeroed
  rise_length = sym (whole.whole_entries 1 (omega arith)) ∙ ap (λ d. 2 * d.rises) e

  fall_length : length_at file 2 ≡ 2 * c.falls
  unfolding case_in zeroed
  fall_length = sym (whole.whole_entries 2 (omega arith)) ∙ ap (λ d. 2 * d.falls) e

  hours_length : length_at file 3 ≡ entry_length form 3 * c.hours
  unfolding case_in zeroed
  hours_length = sym (whole.whole_entries 3 (omega arith)) ∙ ap (λ d. entry_length form 3 * d.hours) e

  -- the unit: field j begins at byte k
  unit_field : (j : ℕ) → entry_at form file 0 0 j ≡ field_at (unit_widths ++ stages) (section_at file 0) 0 j
  unfolding entry_at
  unit_field j = rw (mul-zero (entry_length form 0))

  unit_word : (j k : ℕ) → k + 2 ≤ width unit_widths
      → field_at (unit_widths ++ stages) (section_at file 0) 0 j ≡ number_at (section_at file 0) k 2
      → word file (word file 0 + k) ≡ entry_at form file 0 0 j
  unit_word j k h d = section_word 0 k (omega (arith, unit_length)) ∙ sym (unit_field j ∙ d)

  unit_cost : (j k : ℕ) {z : ℤ} → k + 4 ≤ width unit_widths
      → field_at (unit_widths ++ stages) (section_at file 0) 0 j ≡ number_at (section_at file 0) k 4
      → signed (entry_at form file 0 0 j) ≡ z → Signed (long file (word file 0 + k)) z
  unit_cost j k h d =
      signed_of
      (sym (number_at_long file (word file 0 + k)) ∙ section_number 0 k 4 (omega (arith, unit_length))
      ∙ sym (unit_field j ∙ d))

  -- the trajectories
  stage_word : (i n : ℕ) (l : List Output) → length_at file i ≡ 2 * n → entries_at form file i ≡ n
      → entries_at form file i ≤ most_stages
      → padded no_output (λ k. record { 0 = number_at (section_at file i) (2 * k) 2 }) (entries_at form file i) most_stages
      ≡ padded no_output (λ k. get_or l k no_output) n most_stages
      → (k : ℕ) → k < n → word file (word file (4 * i) + 2 * k) ≡ (get_or l k no_output).0
  stage_word i n l long same room d k h =
      section_word i (2 * k) (omega arith) ∙ ap (λ x. x.0) (padded_entry no_output _ _ d same room k h)

  rise_word : (k : ℕ) → k < c.rises → word file (word file 4 + 2 * k) ≡ (get_or c.rise k no_output).0
  unfolding case_in zeroed entry_at field_at
  rise_word =
      stage_word 1 c.rises c.rise rise_length (ap (λ d. d.rises) e) (whole.entries_in 1 (omega arith)).1
      (ap (λ d. d.rise) e)

  fall_word : (k : ℕ) → k < c.falls → word file (word file 8 + 2 * k) ≡ (get_or c.fall k no_output).0
  unfolding case_in zeroed entry_at field_at
  fall_word =
      stage_word 2 c.falls c.fall fall_length (ap (λ d. d.falls) e) (whole.entries_in 2 (omega arith)).1
      (ap (λ d. d.fall) e)

  -- the hours
  hour_room : (k : ℕ) → k < c.hours → entry_length form 3 * k + entry_length form 3 ≤ length_at file 3
  hour_room k h =
      let n = entry_length form 3 in
      omega (arith, hours_length, mul-le-mul_left n h, mul-suc n k)

  price_number : (k : ℕ) → k < c.hours
      → Signed (number_at file (word file 12 + entry_length form 3 * k) w) (get_or c.prices k no_mills).0
  unfolding case_in zeroed entry_at field_at
  price_number k h =
      signed_of (section_number 3 (entry_length form 3 * k) w (omega (arith, hour_room k h)))
      (ap (λ m. m.0)
      (padded_entry no_mills _ _ (ap (λ d. d.prices) e) (ap (λ d. d.hours) e)
      (whole.entries_in 3 (omega arith)).1 k h))

  order_byte : (k : ℕ) → k < c.hours
      → get_or file (word file 12 + (entry_length form 3 * k + w)) 0 ≡ get_or c.orders k 0
  unfolding case_in zeroed entry_at field_at
  order_byte k h =
      let at = entry_length form 3 * k + w in
      sym (number_at_one file (word file 12 + at))
      ∙ section_number 3 at 1 (omega (arith, hour_room k h))
      ∙ padded_entry 0 _ _ (ap (λ d. d.orders) e) (ap (λ d. d.hours) e) (whole.entries_in 3 (omega arith)).1 k h

  -- what every form holds alike
  module _ (chained : Chained file) (measured : Measured file c) (stages_held : Staged file c)
      (old_prices : word file 0 ≡ old_front → (i : ℕ) → i < c.hours
      → Signed (word file (word file 12 + 3 * i)) (get_or c.prices i no_mills).0)
      (old_orders : word file 0 ≡ old_front → (i : ℕ) → i < c.hours
      → get_or file (word file 12 + 3 * i + 2) 0 ≡ get_or c.orders i 0)
      (prices : word file 0 ≡ front → (i : ℕ) → i < c.hours
      → Signed (long file (word file 12 + 5 * i)) (get_or c.prices i no_mills).0)
      (orders : word file 0 ≡ front → (i : ℕ) → i < c.hours
      → get_or file (word file 12 + 5 * i + 4) 0 ≡ get_or c.orders i 0) where
    holds_unit : Holds file c
    unfolding case_in zeroed field_at
    holds_unit =
        record {
          chained = chained;
          measured = measured;
          capacity = ap (word file) (let z : word file 0 ≡ word file 0 + 0 = omega arith in z)
              ∙ unit_word 0 0 (omega arith) refl ∙ ap (λ d. d.capacity.0) e;
          minimum = unit_word 1 2 (omega arith) refl ∙ ap (λ d. d.minimum.0) e;
          rampup = unit_word 2 4 (omega arith) refl ∙ ap (λ d. d.rampup.0) e;
          rampdown = unit_word 3 6 (omega arith) refl ∙ ap (λ d. d.rampdown.0) e;
          minup = unit_word 4 8 (omega arith) refl ∙ ap (λ d. d.minup.0) e;
          mindown = unit_word 5 10 (omega arith) refl ∙ ap (λ d. d.mindown.0) e;
          variable = unit_cost 6 12 (omega arith) refl (ap (λ d. d.variable.0) e);
          fixed = unit_cost 7 16 (omega arith) refl (ap (λ d. d.fixed.0) e);
          startcost = unit_cost 8 20 (omega arith) refl (ap (λ d. d.startcost.0) e);
          stopcost = unit_cost 9 24 (omega arith) refl (ap (λ d. d.stopcost.0) e);
          initial = unit_word 10 28 (omega arith) refl ∙ ap (λ d. d.initial.0) e;
          elapsed = unit_word 11 30 (omega arith) refl ∙ ap (λ d. d.elapsed.0) e;
          no_stages = stages_held.no_stages;
          upstage = stages_held.upstage;
          downstage = stages_held.downstage;
          rise = rise_word;
          fall = fall_word;
          old_prices = old_prices;
          old_orders = old_orders;
          prices = prices;
          orders = orders;
        }

-- ---- the stages, in a form without them and in one with them
module _ (w : ℕ) (more : Form) (file : List ℕ) (c : Case) where
  without_stages : (whole : Whole (form_with [] w more) file) → case_in (form_with [] w more) file ≡ zeroed c
      → Stageless file → Staged file c
  unfolding case_in zeroed entry_at field_at
  without_stages whole e s =
      record {
        old_unit = λ x. sym (length_word file 0) ∙ unit_length [] w more file whole c e;
        unit = λ h. absurd (h s);
        no_stages = λ x. (sym (ap (λ d. d.upstage) e), sym (ap (λ d. d.downstage) e));
        upstage = λ h. absurd (h s);
        downstage = λ h. absurd (h s);
      }

  with_stages : (whole : Whole (form_with stage_widths w more) file)
      → case_in (form_with stage_widths w more) file ≡ zeroed c → (Stageless file → ⊥) → Staged file c
  unfolding case_in zeroed entry_at field_at
  with_stages whole e h =
      let long = unit_length stage_widths w more file whole c e in
      let part = section_at file 0 in
      let byte : (k : ℕ) → k + 1 ≤ entry_length newest.1 0 → get_or file (word file 0 + k) 0 ≡ number_at part k 1 =
      λ k room. sym (number_at_one file (word file 0 + k))
      ∙ section_number stage_widths w more file whole c e 0 k 1 (omega arith) in
      record {
        old_unit = λ s. absurd (h s);
        unit = λ x. sym (length_word file 0) ∙ long;
        no_stages = λ s. absurd (h s);
        upstage = λ x. byte (width unit_widths) (omega arith) ∙ ap (λ d. d.upstage) e;
        downstage = λ x. byte (width unit_widths + 1) (omega arith) ∙ ap (λ d. d.downstage) e;
      }

-- ---- the old form
module _ (file : List ℕ) (l : Linked old_form.1 file) where
  old_first : word file 0 ≡ old_front
  old_first = sym (offset_word file 0) ∙ l.first

  old_chained : Chained file
  old_chained =
      record {
        forms = inl old_first;
        pairs = omega (arith, old_first, l.long);
        rise = sym (offset_word file 1) ∙ l.chain 0 (omega arith) ∙ end_word file 0;
        fall = sym (offset_word file 2) ∙ l.chain 1 (omega arith) ∙ end_word file 1;
        hours = sym (offset_word file 3) ∙ l.chain 2 (omega arith) ∙ end_word file 2;
        old_end = λ z. sym l.end ∙ end_word file 3;
        form = λ z. absurd (omega (arith, old_first));
        end = λ z. absurd (omega (arith, old_first));
      }

module _ (file : List ℕ) (whole : Whole old_form.1 file) (c : Case) (e : case_in old_form.1 file ≡ zeroed c) where
  abbrev old_start : word file 0 ≡ old_front
  old_start = old_first file whole.linked

  old_stages : Staged file c
  old_stages = without_stages 2 [] file c whole e (old old_start)

  old_measured : Measured file c
  old_measured =
      record {
        old_unit = old_stages.old_unit;
        unit = old_stages.unit;
        rise = sym (length_word file 1) ∙ rise_length [] 2 [] file whole c e;
        fall = sym (length_word file 2) ∙ fall_length [] 2 [] file whole c e;
        old_hours = λ z. sym (length_word file 3) ∙ hours_length [] 2 [] file whole c e;
        hours = λ z. absurd (omega (arith, old_start));
        form = λ z. absurd (omega (arith, old_start));
      }

  old_holds : Holds file c
  old_holds =
      holds_unit [] 2 [] file whole c e (old_chained file whole.linked) old_measured old_stages
      (λ z i h. subst (λ n. Signed n (get_or c.prices i no_mills).0) (number_at_word file (word file 12 + 3 * i))
      (price_number [] 2 [] file whole c e i h))
      (λ z i h.
      ap (λ at. get_or file at 0) (let q : word file 12 + 3 * i + 2 ≡ word file 12 + (3 * i + 2) = omega arith in q)
      ∙ order_byte [] 2 [] file whole c e i h)
      (λ z. absurd (omega (arith, old_start))) (λ z. absurd (omega (arith, old_start)))

-- ---- the forms that hold their number
-- they have sections that follow one another alike
module _ (stages file : List ℕ) (l : Linked (form_with stages 4 number_section) file) where
  new_first : word file 0 ≡ front
  new_first = sym (offset_word file 0) ∙ l.first

  new_chained : Chained file
  new_chained =
      record {
        forms = inr new_first;
        pairs = omega (arith, new_first, l.long);
        rise = sym (offset_word file 1) ∙ l.chain 0 (omega arith) ∙ end_word file 0;
        fall = sym (offset_word file 2) ∙ l.chain 1 (omega arith) ∙ end_word file 1;
        hours = sym (offset_word file 3) ∙ l.chain 2 (omega arith) ∙ end_word file 2;
        old_end = λ z. absurd (omega (arith, new_first));
        form = λ z. sym (offset_word file 4) ∙ l.chain 3 (omega arith) ∙ end_word file 3;
        end = λ z. sym l.end ∙ end_word file 4;
      }

module _ (stages file : List ℕ) (whole : Whole (form_with stages 4 number_section) file) (c : Case)
    (e : case_in (form_with stages 4 number_section) file ≡ zeroed c) where
  abbrev new_start : word file 0 ≡ front
  new_start = new_first stages file whole.linked

  form_length : length_at file 4 ≡ 2
  form_length = omega (arith, whole.whole_entries 4 (omega arith), whole.entries_in 4 (omega arith))

  pub form_word : word file 18 ≡ 2
  form_word = sym (length_word file 4) ∙ form_length

  new_measured : Staged file c → Measured file c
  new_measured s =
      record {
        old_unit = s.old_unit;
        unit = s.unit;
        rise = sym (length_word file 1) ∙ rise_length stages 4 number_section file whole c e;
        fall = sym (length_word file 2) ∙ fall_length stages 4 number_section file whole c e;
        old_hours = λ z. absurd (omega (arith, new_start));
        hours = λ z. sym (length_word file 3) ∙ hours_length stages 4 number_section file whole c e;
        form = λ z. form_word;
      }

  new_holds : Staged file c → Holds file c
  new_holds s =
      holds_unit stages 4 number_section file whole c e (new_chained stages file whole.linked) (new_measured s) s
      (λ z. absurd (omega (arith, new_start))) (λ z. absurd (omega (arith, new_start)))
      (λ z i h. subst (λ n. Signed n (get_or c.prices i no_mills).0) (number_at_long file (word file 12 + 5 * i))
      (price_number stages 4 number_section file whole c e i h))
      (λ z i h.
      ap (λ at. get_or file at 0) (let q : word file 12 + 5 * i + 4 ≡ word file 12 + (5 * i + 4) = omega arith in q)
      ∙ order_byte stages 4 number_section file whole c e i h)

-- ---- whatever the form
pub chained_of : (file : List ℕ) → Linked (form_of file) file → Chained file
chained_of file l = go (known file) l
  where
    go : {f : Form} → Known file f → Linked f file → Chained file
    go (is_old d) l = old_chained file l
    go (is_two d n) l = new_chained [] file l
    go (is_new d n) l = new_chained stage_widths file l

holds_of_case_of : (file : List ℕ) → Whole (form_of file) file → (c : Case) → case_of file ≡ zeroed c → Holds file c
unfolding case_of
holds_of_case_of file whole c e = go (known file) whole e
  where
    chained : Chained file
    chained = chained_of file whole.linked

    go : {f : Form} → Known file f → Whole f file → case_in f file ≡ zeroed c → Holds file c
    go (is_old d) whole e = old_holds file whole c e
    go (is_two d n) whole e =
        new_holds [] file whole c e
        (without_stages 4 number_section file c whole e
        (two_stageless file chained (λ z. form_word [] file whole c e) d n))
    go (is_new d n) whole e =
        new_holds stage_widths file whole c e
        (with_stages 4 number_section file c whole e
        (new_staged file chained (λ z. form_word stage_widths file whole c e) d n))

pub holds_bytes_of : (c : Case) → refusal_of c ≡ 0 → Holds (bytes_of c) c
holds_bytes_of c e =
    holds_of_case_of (bytes_of c) (read_accepted (bytes_of c) (ap (λ r. r.outcome) (new_reads c e))).whole_file c
    (new_case c e)

pub holds_case_of : (file : List ℕ) → Whole (form_of file) file → Holds file (case_of file)
holds_case_of file whole = holds_of_case_of file whole (case_of file) (sym (zeroed_case_of file whole))

pub read_holds : (s : List ℕ) → outcome_number (read_of s).outcome ≡ 0 → Holds s (read_of s).case
read_holds s e = let r = read_accepted s (read_of_accepted s e) in rw r.record_is (holds_case_of s r.whole_file)
