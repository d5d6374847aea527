-- `reader::pairs::refusal12` meets its contract, by the sections that the file has. Assumes nothing.
use Rattle.std.proofs.Common.{◌≡◌, sym, ap, ◌∙◌}
use Rattle.cases.specs.Forms.{numbered, unknown}
use Rattle.cases.specs.Layout.{offset_at}
use Rattle.cases.proofs.FormsLaws.{old_front, four_old, more_late, length_numbered, unknown_is}
use Rattle.cases.proofs.RefusalsLaws.{refusal12_old, refusal12_late}
use Rattle.reader.proofs.PairsLaws.{pair_room}
use Rattle.reader.proofs.pairs.refusal12.Goals as goal
use Rattle.reader.proofs.pairs.refusal12.Goals.{Else-sections_of-eq-OLD_SECTIONS}

pub sections_of-requires : goal.sections_of-requires
sections_of-requires c = pair_room c.args.file.now c.requires

pub returns-then-sections_of-eq-OLD_SECTIONS : goal.returns-then-sections_of-eq-OLD_SECTIONS
returns-then-sections_of-eq-OLD_SECTIONS c =
    let file = c.args.file.now in
    sym (refusal12_old file (four_old file (sym c.sections_of.ensures ∙ c.if-sections_of-eq-OLD_SECTIONS.true)))

-- more sections than the old form has
late : (c : Else-sections_of-eq-OLD_SECTIONS) → offset_at c.args.file.now 0 ≡ old_front → ⊥
late c = more_late _ (λ e. c.if-sections_of-eq-OLD_SECTIONS.false (c.sections_of.ensures ∙ e))

pub form_number-number-requires-clause-file_len : goal.form_number-number-requires-clause-file_len
form_number-number-requires-clause-file_len c =
    length_numbered _ (late (goal.at.form_number-number-requires-clause-file_len c).Else-sections_of-eq-OLD_SECTIONS)

pub returns : goal.returns
returns c =
    sym
    (refusal12_late _ (late (goal.at.returns c).Else-sections_of-eq-OLD_SECTIONS)
    ∙ ap (unknown numbered) (sym c.form_number-number.ensures)
    ∙ unknown_is c.form_number-number.result)
