-- The row when the day is over is one of zeros. Assumes nothing.
use Rattle.cells.proofs.Ends.{zero_row}
use Rattle.rows.proofs.end_row.Goals as goal

pub returns : goal.returns
returns c = λ day j. rw (c.fill.ensures.after (λ y e. e), c.told-row) (zero_row c.args.u day c.requires j)
