-- `search::walk` meets its contract: the first hour, and a loop that keeps `Walked` from there. Assumes nothing.
use Rattle.std.proofs.Common.{arith, ap, ◌+◌, length-set}
use Rattle.cells.specs.Ahead.{tariffs}
use Rattle.cells.specs.declared.Pick.{Pick}
use Rattle.locks.proofs.HeldLaws.{holds_from}
use Rattle.search.proofs.Walked.{walked_start, walked_first, walked_step, walked_on, walked_end}
use Rattle.search.proofs.walk.Goals as goal

pub loop-k-init : goal.loop-k-init
loop-k-init c =
    let p = c.args.passed.now in
    let u = p.day.unit in
    let ys = c.args.outputs.now in
    let q = c.args.first.0 in
    let (proper, room) = c.requires.proper in
    let w = walked_first u (tariffs p.day) p.day.fit c.args.s ys room c.follow-at.result q proper c.requires.fact
    c.follow-at.ensures in
    record {
      walked = walked_start u (tariffs p.day) p.day.fit 1 c.follow-at.result _ (omega (arith, room, length-set ys 0 q))
          p.day.fit.hours_pos w.proper w.live;
      holds = c.requires.holds;
    }

pub loop-k-preserved : goal.loop-k-preserved
loop-k-preserved c =
    let p = c.args.passed.now in
    let l = c.loop-k in
    let best = c.choose-best in
    let room = length-set c.args.outputs.now 0 c.args.first.0 in
    record {
      walked = walked_step p.day.unit (tariffs p.day) p.day.fit 1 c.follow-at.result _
          (omega (arith, room, c.requires.proper.1)) l.outputs l.k l.at c.follow-at-in-loop-k.result best.result.at.0
          l.invariant.walked c.loop-k-test.true (ap (λ (p : Pick). p.at.0) best.ensures) c.follow-at-in-loop-k.ensures;
      holds = holds_from p.day.unit (tariffs p.day) (l.k + 1) (omega arith) c.keep.ensures.1;
    }

pub returns : goal.returns
returns c =
    let p = c.args.passed.now in
    let u = p.day.unit in
    let s = c.args.s in
    let ys = c.args.outputs.now in
    let l = c.loop-k in
    let (proper, room) = c.requires.proper in
    let first = walked_first u (tariffs p.day) p.day.fit s ys room c.follow-at.result c.args.first.0 proper
    c.requires.fact c.follow-at.ensures in
    walked_end u (tariffs p.day) p.day.fit 0 s ys room l.outputs l.k l.at
    (walked_on u (tariffs p.day) p.day.fit 0 s ys room _ l.outputs 1 l.k c.follow-at.result l.at first
    l.invariant.walked)
    c.loop-k-test.false
