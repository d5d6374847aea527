-- `limits::work_of` meets its contract, by the outcomes of its tests. Assumes nothing.
use Rattle.std.proofs.Common.{sym, arith}
use Rattle.cases.proofs.WorkLaws.{work_short, work_up, work_down}
use Rattle.limits.proofs.work_of.Goals as goal

pub returns-then-case-gt-SHORT_TIME : goal.returns-then-case-gt-SHORT_TIME
returns-then-case-gt-SHORT_TIME c = sym (work_up c.args.case (omega (arith, c.if-case-gt-SHORT_TIME.true)))

pub returns-then-case-gt-SHORT_TIME-2 : goal.returns-then-case-gt-SHORT_TIME-2
returns-then-case-gt-SHORT_TIME-2 c = sym (work_down c.args.case (omega (arith, c.if-case-gt-SHORT_TIME-2.true)))

pub returns : goal.returns
returns c =
    sym (work_short c.args.case (omega (arith, c.if-case-gt-SHORT_TIME.false))
    (omega (arith, c.if-case-gt-SHORT_TIME-2.false)))
