-- The profit's line, and the hours' after it. Assumes nothing.
use Rattle.model.specs.Printed.{profit_line, hour_lines}
use Rattle.lines.proofs.PutsLaws.{puts_then}
use Rattle.lines.proofs.put_day.Goals as goal

pub returns : goal.returns
returns c =
    puts_then (profit_line c.args.profit.0) (hour_lines c.args.case c.args.outputs.now c.args.case.hours)
    c.put_profit-at.ensures c.put_hours.ensures
