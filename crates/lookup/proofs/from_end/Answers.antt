-- `lookup::from_end` meets its contract: at the end of the day nothing more is earned. Assumes nothing.
use Rattle.std.proofs.Common.{◌-◌}
use Rattle.cells.specs.Table.{lock_of}
use Rattle.lookup.proofs.AheadLaws.{ahead_end}
use Rattle.lookup.proofs.from_end.Goals as goal

pub from_layer-requires-clause-ahead : goal.from_layer-requires-clause-ahead
from_layer-requires-clause-ahead c =
    let hour = c.args.hour.now in
    let j = lock_of c.args.s in
    let (day, fair, e) = c.requires.by_index in
    (_, ahead_end hour.unit day hour.fit fair j (c.end_row.ensures day (j - 1)) (c.end_side.ensures day), e)

pub returns : goal.returns
returns c =
    let hour = c.args.hour.now in
    let j = lock_of c.args.s in
    λ day fair e. c.from_layer.ensures _
    (ahead_end hour.unit day hour.fit fair j (c.end_row.ensures day (j - 1)) (c.end_side.ensures day)) e
