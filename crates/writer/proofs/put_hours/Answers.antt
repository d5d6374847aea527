-- `writer::put_hours` meets its contract. Assumes nothing.
use Rattle.std.proofs.Common.{◌∙◌, ap, ℕ, [], ◌∷◌, get_or, arith}
use Rattle.std.proofs.lemmas.List.Edits.{sets}
use Rattle.cases.specs.Layout.{no_mills, unsigned}
use Rattle.cases.proofs.LimitsLaws.{limits_of_refusal_of}
use Rattle.cases.proofs.FieldsLaws.{length_field_bytes}
use Rattle.cases.proofs.SetsLaws.{sets_start, sets_step, sets_end}
use Rattle.writer.proofs.SectionsLaws.{hours_section}
use Rattle.writer.proofs.put_hours.Goals as goal

pub loop-i-init : goal.loop-i-init
loop-i-init c = sets_start _ c.args.out.now c.args.at

pub bounds-case-i : goal.bounds-case-i
bounds-case-i c = omega (arith, (limits_of_refusal_of _ c.args.admitted.now.within).hours_le)

pub bounds-case-i-in-loop-i : goal.bounds-case-i-in-loop-i
bounds-case-i-in-loop-i c = omega (arith, (limits_of_refusal_of _ c.args.admitted.now.within).hours_le)

pub loop-i-preserved : goal.loop-i-preserved
loop-i-preserved c =
    let case = c.args.admitted.now.case in
    let price : ℕ → ℕ = λ k. unsigned (get_or case.prices k no_mills).0 in
    let order : ℕ → ℕ = λ k. get_or case.orders k 0 in
    sets_step 5 _ (λ k. length_field_bytes (4 ∷ 1 ∷ []) (price k ∷ order k ∷ [])) c.args.out.now c.args.at
    c.loop-i.i c.loop-i.invariant c.put_hour.ensures

pub returns : goal.returns
returns c =
    let case = c.args.admitted.now.case in
    sets_end _ c.args.out.now c.args.at c.loop-i.i case.hours c.loop-i.invariant (omega arith)
    ∙ ap (sets c.args.out.now c.args.at) (hours_section case)
