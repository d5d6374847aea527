-- `hours::counts::count_starts` meets its contract: each hour adds its mark. Assumes nothing.
use Rattle.std.proofs.Common.{arith, suc}
use Rattle.cases.specs.Limits.{most_stages}
use Rattle.cases.proofs.LimitsLaws.{limits_of_refusal_of}
use Rattle.day.proofs.TimesLaws.{y_back_le}
use Rattle.hours.proofs.CountLaws.{counting_few}
use Rattle.hours.proofs.StartsLaws.{start_zero}
use Rattle.hours.proofs.MarkingLaws.{marking_start, marking_step, marking_end}
use Rattle.hours.proofs.counts.count_starts.Goals as goal

pub loop-n-init : goal.loop-n-init
loop-n-init c =
    let a = c.args.case.now in
    let l = c.args.list.now in
    marking_start c.requires (start_zero a.case l (limits_of_refusal_of a.case a.within))
    (λ k. y_back_le a.case l k (suc most_stages))

pub overflow_add-marks : goal.overflow_add-marks
overflow_add-marks c =
    let few = counting_few c.loop-n.invariant.counting in
    omega (arith, y_back_le c.args.case.now.case c.args.list.now c.loop-n.n (suc most_stages))

pub loop-n-preserved : goal.loop-n-preserved
loop-n-preserved c = marking_step c.start_at-marks.result c.loop-n.invariant (omega arith) c.start_at-marks.ensures

pub returns : goal.returns
returns c = marking_end c.loop-n.invariant (omega arith)
