-- The answer of the comparison decides the part.
use Rattle.model.specs.Compared.{part_of}
use Rattle.model.proofs.BetterLaws.{better_of_by}
use Rattle.offers.proofs.better.Goals as goal

pub returns-in-Ok-First : goal.returns-in-Ok-First
returns-in-Ok-First c =
    better_of_by c.args.reading.outcome c.args.reading.case (part_of c.args.first) (part_of c.args.second)
    (rw c.in-Ok-First.field-0-is at c.in-Ok-First.ensures)

pub returns-in-Ok-Second : goal.returns-in-Ok-Second
returns-in-Ok-Second c =
    better_of_by c.args.reading.outcome c.args.reading.case (part_of c.args.first) (part_of c.args.second)
    (rw c.in-Ok-Second.field-0-is at c.in-Ok-Second.ensures)

pub returns-in-Ok-Neither : goal.returns-in-Ok-Neither
returns-in-Ok-Neither c =
    better_of_by c.args.reading.outcome c.args.reading.case (part_of c.args.first) (part_of c.args.second)
    (rw c.in-Ok-Neither.field-0-is at c.in-Ok-Neither.ensures)

pub returns-in-Err : goal.returns-in-Err
returns-in-Err c =
    better_of_by c.args.reading.outcome c.args.reading.case (part_of c.args.first) (part_of c.args.second)
    c.in-Err.ensures
