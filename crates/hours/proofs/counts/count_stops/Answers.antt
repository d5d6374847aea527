-- `hours::counts::count_stops` meets its contract: each hour adds its mark. Assumes nothing.
use Rattle.std.proofs.Common.{arith}
use Rattle.day.proofs.MarksLaws.{z_zero}
use Rattle.day.proofs.TimesLaws.{z_le}
use Rattle.hours.proofs.CountLaws.{counting_few}
use Rattle.hours.proofs.MarkingLaws.{marking_start, marking_step, marking_end}
use Rattle.hours.proofs.counts.count_stops.Goals as goal

pub loop-k-init : goal.loop-k-init
loop-k-init c =
    let case = c.args.case.now.case in
    let l = c.args.list.now in
    marking_start c.requires.stops_value (z_zero case l) (z_le case l)

pub overflow_add-marks : goal.overflow_add-marks
overflow_add-marks c =
    let few = counting_few c.loop-k.invariant.counting in
    omega (arith, z_le c.args.case.now.case c.args.list.now c.loop-k.k)

pub loop-k-preserved : goal.loop-k-preserved
loop-k-preserved c = marking_step c.stop_at-marks.result c.loop-k.invariant (omega arith) c.stop_at-marks.ensures

pub returns : goal.returns
returns c = marking_end c.loop-k.invariant (omega arith)
