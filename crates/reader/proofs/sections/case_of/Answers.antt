-- `reader::sections::case_of` meets its contract. The sections lie within the file and have lengths that fit; the case
-- of a file is the case of its sections. Assumes nothing.
use Rattle.std.proofs.Common.{sym, ap, ◌∙◌, length, arith}
use mathlib.Core.Path.{subst}
use Rattle.cases.specs.Layout.{case_in, case_of}
use Rattle.cases.proofs.AcceptedLaws.{Whole, whole}
use Rattle.reader.specs.Sections.{trajectory_of, day_of, assembled}
use Rattle.reader.specs.Tables.{table_of}
use Rattle.reader.proofs.SectionsLaws.{case_in_sections, section_room, stages_room, day_room, unit_room}
use Rattle.reader.proofs.sections.case_of.Goals as goal
use Rattle.reader.proofs.sections.case_of.Goals.{After-form_of-form}

-- the sections of the file in its form
all : (c : After-form_of-form) → Whole (table_of c.form_of-form.result) c.args.file.now
all c =
    let file = c.args.file.now in
    let known = whole file c.requires.file_value c.requires.file_value_2 in
    subst (λ f. Whole f file) (sym c.form_of-form.ensures) known

pub section-requires : goal.section-requires
section-requires c = section_room _ (all (goal.at.section-requires c).After-form_of-form) 1 (omega arith)

pub read_trajectory-rise-requires : goal.read_trajectory-rise-requires
read_trajectory-rise-requires c =
    omega (
      arith,
      ap length c.section.ensures,
      stages_room _ (all (goal.at.read_trajectory-rise-requires c).After-form_of-form) 1 (λ z. omega arith) (omega arith),
    )

pub section-requires-2 : goal.section-requires-2
section-requires-2 c = section_room _ (all (goal.at.section-requires-2 c).After-form_of-form) 2 (omega arith)

pub read_trajectory-fall-requires : goal.read_trajectory-fall-requires
read_trajectory-fall-requires c =
    omega (
      arith,
      ap length c.section-2.ensures,
      stages_room _ (all (goal.at.read_trajectory-fall-requires c).After-form_of-form) 2 (λ z. omega arith) (omega arith),
    )

pub section-requires-3 : goal.section-requires-3
section-requires-3 c = section_room _ (all (goal.at.section-requires-3 c).After-form_of-form) 3 (omega arith)

pub read_day-day-requires : goal.read_day-day-requires
read_day-day-requires c =
    omega (arith, ap length c.section-3.ensures, day_room _ (all (goal.at.read_day-day-requires c).After-form_of-form))

pub section-requires-4 : goal.section-requires-4
section-requires-4 c = section_room _ (all (goal.at.section-requires-4 c).After-form_of-form) 0 (omega arith)

pub read_unit-requires : goal.read_unit-requires
read_unit-requires c =
    omega (arith, ap length c.section-4.ensures, unit_room _ (all (goal.at.read_unit-requires c).After-form_of-form))

pub returns : goal.returns
unfolding case_of
returns c =
    let file = c.args.file.now in
    let form = c.form_of-form.result in
    let unit = c.section-4.ensures in
    let day = c.read_day-day.ensures ∙ ap (day_of (table_of form)) c.section-3.ensures in
    let fall = c.read_trajectory-fall.ensures ∙ ap trajectory_of c.section-2.ensures in
    let rise = c.read_trajectory-rise.ensures ∙ ap trajectory_of c.section.ensures in
    c.read_unit.ensures
    ∙ (λ j. assembled (unit j) (rise j) (fall j) (day j))
    ∙ case_in_sections file form (all (goal.at.returns c).After-form_of-form)
    ∙ ap (λ f. case_in f file) c.form_of-form.ensures
