-- A kind's record: an unused coefficient's literal is 0. Assumes nothing.
use lib.Ieee.{of_bits, of_int}
use Rattle.curve.proofs.records.CurveFromKind.from.Goals as goal

pub returns-in-Flat : goal.returns-in-Flat
unfolding of_bits of_int
returns-in-Flat c = rw c.in-Flat.is

pub returns-in-Straight : goal.returns-in-Straight
unfolding of_bits of_int
returns-in-Straight c = rw c.in-Straight.is
