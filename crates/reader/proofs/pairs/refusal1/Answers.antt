-- `reader::pairs::refusal1` meets its contract. A file that is long enough has its pairs; the test is then the
-- definition's own. Assumes nothing.
use Rattle.std.proofs.Common.{◌*◌, length, eqb, sym, ◌∙◌, arith}
use mathlib.Core.Bool.{not, ◌&&◌}
use Rattle.cases.proofs.PartedLaws.{refusal1_short, refusal1_pairs}
use Rattle.reader.proofs.PairsLaws.{sections_between}
use Rattle.reader.proofs.pairs.refusal1.Goals as goal

pub returns-then-file : goal.returns-then-file
returns-then-file c =
    let file = c.args.file.now in
    sym (refusal1_short file (omega (arith, (sections_between file).0)))

pub overflow_mul-sections : goal.overflow_mul-sections
overflow_mul-sections c = omega (arith, (sections_between c.args.file.now).1)

pub returns-then-file-sections : goal.returns-then-file-sections
returns-then-file-sections c = sym (refusal1_short c.args.file.now (omega arith))

pub linked-requires : goal.linked-requires
linked-requires c = omega (arith, (sections_between c.args.file.now).0)

pub overflow_sub-sections : goal.overflow_sub-sections
overflow_sub-sections c = omega (arith, (sections_between c.args.file.now).0)

pub returns : goal.returns
returns c =
    let file = c.args.file.now in
    let n = c.sections_of-sections.result in
    (λ j. not (eqb (c.offset_at.ensures.0 j) (4 * n) && (c.linked.ensures j && eqb (c.end_at.ensures j) (length file))))
    ∙ refusal1_pairs file n c.sections_of-sections.ensures (omega arith)
