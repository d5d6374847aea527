-- The number's digits, and the bytes after them. Assumes nothing.
use Rattle.model.specs.Printed.{decimal}
use Rattle.lines.proofs.PutsLaws.{puts_then}
use Rattle.lines.proofs.parts.put_field.Goals as goal

pub returns : goal.returns
returns c = puts_then (decimal c.args.n) c.args.after.now c.put_decimal-next.ensures c.put.ensures
