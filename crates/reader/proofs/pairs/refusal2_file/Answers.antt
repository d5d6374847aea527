-- `reader::pairs::refusal2_file` meets its contract. Assumes nothing.
use Rattle.std.proofs.Common.{◌≡◌, ◌∙◌, ap, length, arith}
use mathlib.Core.Bool.{not}
use Rattle.cases.specs.Symbols.{every, before}
use Rattle.cases.specs.Layout.{form_of}
use Rattle.cases.specs.Refusals.{fits, fitting, refusal2_file}
use Rattle.cases.proofs.RefusalsLaws.{every_none, every_more}
use Rattle.cases.proofs.AcceptedLaws.{linked}
use Rattle.reader.proofs.pairs.refusal2_file.Goals as goal

pub loop-i-init : goal.loop-i-init
loop-i-init c = every_none _

pub length_at-requires : goal.length_at-requires
length_at-requires c =
    omega (arith, (linked c.args.file.now c.requires).long, c.sections-i-end.ensures, ap length c.form_of-form.ensures)

pub loop-i-preserved : goal.loop-i-preserved
loop-i-preserved c =
    let same = c.fits-so.ensures
    ∙ (λ j. fits (c.entry_bytes.ensures j) (c.most_entries.ensures j) (c.length_at.ensures.0 j)) in
    every_more _ c.loop-i.i c.loop-i.invariant same

pub returns : goal.returns
unfolding refusal2_file
returns c =
    let file = c.args.file.now in
    let table = c.form_of-form.ensures in
    let e : c.loop-i.i ≡ length (form_of file) = omega (arith, c.sections-i-end.ensures, ap length table) in
    ap not (c.loop-i.invariant ∙ (λ j. every (λ i. fitting file (table j) (before i)) (e j)))
