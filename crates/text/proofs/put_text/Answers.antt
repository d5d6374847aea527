-- The text of an input that is too long is a refusal's line, and that of another its case's. Assumes nothing.
use Rattle.std.proofs.Common.{arith}
use Rattle.model.proofs.PrintedLaws.{length_refused_line, printed_of_long, printed_of_read}
use Rattle.text.proofs.put_text.Goals as goal

pub put_refused-requires : goal.put_refused-requires
put_refused-requires c = omega (arith, length_refused_line 1 (omega arith))

pub returns-then-input-gt-MOST-clause-puts : goal.returns-then-input-gt-MOST-clause-puts
returns-then-input-gt-MOST-clause-puts c =
    rw (printed_of_long c.args.input.now (omega (arith, c.if-input-gt-MOST.true))) c.put_refused.ensures

pub returns-then-input-gt-MOST-clause-upper_bound : goal.returns-then-input-gt-MOST-clause-upper_bound
returns-then-input-gt-MOST-clause-upper_bound c =
    omega (arith, c.put_refused.ensures.place, length_refused_line 1 (omega arith))

pub returns-clause-puts : goal.returns-clause-puts
returns-clause-puts c =
    rw (printed_of_read c.args.input.now (omega (arith, c.if-input-gt-MOST.false))) c.put_best.ensures.puts
