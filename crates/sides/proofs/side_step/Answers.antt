-- The side is written kind by kind. Assumes nothing.
use Rattle.sides.proofs.SideLaws.{side_of}
use Rattle.sides.proofs.side_step.Goals as goal

pub returns : goal.returns
returns c =
    λ w b e. side_of c.args.hour.now.fit _ b.side.long (c.step_offs.ensures w b e) (c.step_rises.ensures w b e)
    (c.step_falls.ensures w b)
