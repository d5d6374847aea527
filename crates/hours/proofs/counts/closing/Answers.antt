-- `hours::counts::closing` meets its contract: an entry from the second to the last, whose output is compared. Assumes
-- nothing.
use Rattle.std.proofs.Common.{arith, sym, ◌∙◌}
use Rattle.cases.specs.Symbols.{stage}
use Rattle.cases.proofs.LimitsLaws.{limits_of_refusal_of}
use Rattle.hours.proofs.ClosingLaws.{bit_is, closing_early, closing_late, closing_at, entry_is}
use Rattle.hours.proofs.counts.closing.Goals as goal

pub offset_bounds-case-i : goal.offset_bounds-case-i
offset_bounds-case-i c =
    let a = c.args.case.now in
    omega (arith, (limits_of_refusal_of a.case a.within).falls_le)

pub bounds-case-i : goal.bounds-case-i
bounds-case-i c =
    let a = c.args.case.now in
    omega (arith, (limits_of_refusal_of a.case a.within).falls_le)

pub returns-then-i-lt2 : goal.returns-then-i-lt2
returns-then-i-lt2 c =
    let case = c.args.case.now.case in
    sym (closing_early c.args.i case.falls c.args.end.0 (stage case.fall c.args.i) (omega arith))

pub returns-then-case-i : goal.returns-then-case-i
returns-then-case-i c =
    let case = c.args.case.now.case in
    sym (closing_late c.args.i case.falls c.args.end.0 (stage case.fall c.args.i) (omega arith))

pub returns : goal.returns
returns c =
    let case = c.args.case.now.case in
    let i = c.args.i in
    let here = entry_is case.fall i (omega arith) in
    rw (c.from.ensures, c.eq.ensures, ← here)
    (bit_is _ ∙ sym (closing_at i case.falls c.args.end.0 (stage case.fall i) (omega arith) (omega arith)))
