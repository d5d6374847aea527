-- `hours::counts::start_at` meets its contract: below hour 1 by the stage, in the day by the outputs at the ends of the
-- hour. Assumes nothing.
use Rattle.std.proofs.Common.{arith, sym, ap, ◌-◌, ◌∙◌}
use Rattle.cases.specs.Limits.{most_stages}
use Rattle.day.specs.Marks.{p}
use Rattle.hours.proofs.ClosingLaws.{bit_is}
use Rattle.hours.proofs.MarkLaws.{marks_at_is}
use Rattle.hours.proofs.StartsLaws.{start_below, start_later, start_past}
use Rattle.hours.proofs.counts.start_at.Goals as goal

pub returns-then-n-le-STAGES : goal.returns-then-n-le-STAGES
returns-then-n-le-STAGES c =
    let a = c.args in
    rw (c.from-then-n-le-STAGES.ensures, c.from.ensures)
    (bit_is _ ∙ sym (start_below a.case.now.case a.list.now a.n (omega arith)))

pub returns-then-case-n : goal.returns-then-case-n
returns-then-case-n c = sym (start_past c.args.case.now.case c.args.list.now c.args.n (omega arith))

pub returns : goal.returns
returns c =
    let a = c.args in
    let k = a.n - most_stages in
    let earlier = c.output_at-was.ensures ∙ ap (p a.case.now.case a.list.now) c.less.ensures in
    let at = marks_at_is a.case.now.case a.list.now k (omega arith) earlier c.output_at.ensures c.marks_of.ensures in
    ap (λ m. m.start) at ∙ sym (start_later a.case.now.case a.list.now a.n (omega arith))
