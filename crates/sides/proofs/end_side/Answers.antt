-- The side when the day is over is one of zeros. Assumes nothing.
use Rattle.sides.proofs.SideLaws.{end_side_is}
use Rattle.sides.proofs.end_side.Goals as goal

pub returns : goal.returns
returns c = λ day. rw (c.fill.ensures.after (λ y e. e), c.told-side) (end_side_is c.requires day)
