-- The row of an hour in which no stop may begin is the one before a stop is thought of. Assumes nothing.
use Rattle.std.proofs.Common.{suc, arith}
use Rattle.machine.specs.Moves.{worth}
use Rattle.cells.specs.Ahead.{tariffs}
use Rattle.cells.proofs.Ends.{row_hour, across_at}
use Rattle.rows.proofs.Stops.{row_stay}
use Rattle.rows.proofs.lock_hour.Goals as goal

pub open_row-requires : goal.open_row-requires
open_row-requires c =
    let day = c.args.day.now in
    let k = c.args.k.0 in
    let (j, r) = c.requires.k_lt_hours.1 in
    record {
      by_index = (
        worth day.unit (tariffs day) (suc k),
        suc j,
        rw c.at-hour.ensures.unit (across_at day.unit (tariffs day) day.fit day.day.fair (suc k) j r),
      );
    }

pub returns : goal.returns
returns c =
    let day = c.args.day.now in
    let u = day.unit in
    let k = c.args.k.0 in
    let after = worth u (tariffs day) (suc k) in
    let hour = c.at-hour.ensures in
    λ j m few seen r.
    let x = across_at u (tariffs day) day.fit day.day.fair (suc k) j r in
    let made = (rw (hour.unit, hour.terms, hour.costs) at c.open_row.ensures) after (suc j) x in
    row_hour u (tariffs day) k (suc j) c.requires.k_lt_hours.0
    (row_stay u day.fit (tariffs day k) after (suc j) _ m c.args.n few seen (λ z. omega arith) made)
