-- `reader::pairs::form_of` meets its contract, by the outcomes of its tests. Assumes nothing.
use Rattle.std.proofs.Common.{◌≡◌, sym, ◌∙◌}
use Rattle.cases.specs.Layout.{offset_at}
use Rattle.cases.proofs.FormsLaws.{old_front, four_old, more_late, form_of_old, form_of_two}
use Rattle.cases.proofs.FormsLaws.{form_of_new, length_numbered}
use Rattle.reader.proofs.PairsLaws.{pair_room}
use Rattle.reader.proofs.pairs.form_of.Goals as goal
use Rattle.reader.proofs.pairs.form_of.Goals.{Else-sections_of-eq-OLD_SECTIONS}

pub sections_of-requires : goal.sections_of-requires
sections_of-requires c = pair_room c.args.file.now c.requires

pub returns-then-sections_of-eq-OLD_SECTIONS : goal.returns-then-sections_of-eq-OLD_SECTIONS
returns-then-sections_of-eq-OLD_SECTIONS c =
    let file = c.args.file.now in
    sym (form_of_old file (four_old file (sym c.sections_of.ensures ∙ c.if-sections_of-eq-OLD_SECTIONS.true)))

-- more sections than the old form has
late : (c : Else-sections_of-eq-OLD_SECTIONS) → offset_at c.args.file.now 0 ≡ old_front → ⊥
late c = more_late _ (λ e. c.if-sections_of-eq-OLD_SECTIONS.false (c.sections_of.ensures ∙ e))

pub form_number-requires-clause-file_len : goal.form_number-requires-clause-file_len
form_number-requires-clause-file_len c =
    length_numbered _ (late (goal.at.form_number-requires-clause-file_len c).Else-sections_of-eq-OLD_SECTIONS)

pub returns-then-form_number-eq-FORM_TWO : goal.returns-then-form_number-eq-FORM_TWO
returns-then-form_number-eq-FORM_TWO c =
    sym
    (form_of_two _ (late (goal.at.returns-then-form_number-eq-FORM_TWO c).Else-sections_of-eq-OLD_SECTIONS)
    (sym c.form_number.ensures ∙ c.if-form_number-eq-FORM_TWO.true))

pub returns : goal.returns
returns c =
    sym
    (form_of_new _ (late (goal.at.returns c).Else-sections_of-eq-OLD_SECTIONS)
    (λ e. c.if-form_number-eq-FORM_TWO.false (c.form_number.ensures ∙ e)))
