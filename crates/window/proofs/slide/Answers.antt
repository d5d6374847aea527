-- Each part goes on where the one before it ended.
use Rattle.window.proofs.SlideLaws.{carried_on}
use Rattle.window.proofs.slide.Goals as goal

pub loop-reach-preserved : goal.loop-reach-preserved
loop-reach-preserved c = record {
  within = c.pass-reach.ensures.at_lt_at.1;
  carried = carried_on c.loop-reach.invariant.carried c.pass-reach.ensures.carried;
}
