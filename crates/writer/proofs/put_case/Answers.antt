-- `writer::put_case` meets its contract. Each section stands where the one before ends, and the file has room.
-- Assumes nothing.
use Rattle.std.proofs.Common.{◌∙◌, ap, List, ℕ, ◌≤◌, length, arith, rules}
use Rattle.std.proofs.lemmas.List.Edits.{sets}
use Rattle.cases.specs.declared.Case.{Case}
use Rattle.cases.specs.Layout.{bytes_of}
use Rattle.cases.proofs.LimitsLaws.{limits_of_refusal_of}
use Rattle.cases.proofs.SetsLaws.{case_written}
use Rattle.cases.proofs.TripLaws.{file_length, length_bytes_of}
use Rattle.writer.proofs.SectionsLaws.{rise_section, fall_section, form_section}
use Rattle.writer.proofs.put_case.Goals as goal

-- the bytes lent have room for the file
room : (case : Case) (out : List ℕ) → length (bytes_of case) ≤ length out → file_length case ≤ length out
room case out long = omega (arith, length_bytes_of case)

pub overflow_mul-falls_at : goal.overflow_mul-falls_at
overflow_mul-falls_at c = let r = room _ _ c.requires in omega (arith, r)

pub overflow_add-falls_at : goal.overflow_add-falls_at
overflow_add-falls_at c = let r = room _ _ c.requires in omega (arith, r)

pub overflow_mul-hours_at : goal.overflow_mul-hours_at
overflow_mul-hours_at c = let r = room _ _ c.requires in omega (arith, r)

pub overflow_add-hours_at : goal.overflow_add-hours_at
overflow_add-hours_at c = let r = room _ _ c.requires in omega (arith, r)

pub overflow_mul-form_at : goal.overflow_mul-form_at
overflow_mul-form_at c = let r = room _ _ c.requires in omega (arith, r)

pub overflow_add-form_at : goal.overflow_add-form_at
overflow_add-form_at c = let r = room _ _ c.requires in omega (arith, r)

pub put_pairs-requires : goal.put_pairs-requires
put_pairs-requires c = let r = room _ _ c.requires in search rules

pub put_unit-requires : goal.put_unit-requires
put_unit-requires c = let r = room _ _ c.requires in search rules

pub put_stages-requires : goal.put_stages-requires
put_stages-requires c =
    let r = room _ _ c.requires in
    let n = (limits_of_refusal_of _ c.args.admitted.now.within).rises_le in
    search rules

pub put_stages-requires-2 : goal.put_stages-requires-2
put_stages-requires-2 c =
    let r = room _ _ c.requires in
    let n = (limits_of_refusal_of _ c.args.admitted.now.within).falls_le in
    search rules

pub put_hours-requires : goal.put_hours-requires
put_hours-requires c = let r = room _ _ c.requires in search rules

pub put_word-requires : goal.put_word-requires
put_word-requires c = let r = room _ _ c.requires in search rules

pub returns : goal.returns
returns c =
    let case = c.args.admitted.now.case in
    case_written case c.args.out.now c.put_pairs.ensures c.put_unit.ensures
    (c.put_stages.ensures ∙ ap (sets _ _) (rise_section case))
    (c.put_stages-2.ensures ∙ ap (sets _ _) (fall_section case))
    c.put_hours.ensures
    (c.put_word.ensures ∙ ap (sets _ _) (form_section case))
