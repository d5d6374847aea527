-- `writer::put_stages` meets its contract. Assumes nothing.
use Rattle.std.proofs.Common.{◌∙◌, ap, [], ◌∷◌, get_or, arith}
use Rattle.std.proofs.lemmas.List.Edits.{sets}
use Rattle.cases.specs.Layout.{no_output}
use Rattle.cases.proofs.FieldsLaws.{length_field_bytes}
use Rattle.cases.proofs.SetsLaws.{sets_start, sets_step, sets_end, one_field}
use Rattle.writer.proofs.put_stages.Goals as goal

pub loop-i-init : goal.loop-i-init
loop-i-init c = sets_start _ c.args.out.now c.args.at

pub loop-i-preserved : goal.loop-i-preserved
loop-i-preserved c =
    let outputs = c.args.outputs.now in
    sets_step 2 _ (λ k. length_field_bytes (2 ∷ []) ((get_or outputs k no_output).0 ∷ [])) c.args.out.now c.args.at
    c.loop-i.i c.loop-i.invariant
    (c.put_word.ensures ∙ ap (sets _ _) (one_field 2 (get_or outputs c.loop-i.i no_output).0))

pub returns : goal.returns
returns c = sets_end _ c.args.out.now c.args.at c.loop-i.i c.args.n c.loop-i.invariant (omega arith)
