-- What a call by a curve tests before it looks at lent memory. Definitions only. Assumes nothing.
use Rattle.std.specs.Prelude.{cond, eqb, Err, Ok}
use Rattle.curve.specs.declared.Curve.{Curve}
use Rattle.curve.specs.Cost.{accepted}
use Rattle.cases.specs.declared.Case.{Case}
use Rattle.cases.specs.Refusals.{refusal_of}
use Rattle.cases.specs.Reads.{Accepted, Outcome, Refused}

-- a reading with the tests of its record
abbrev pub read_of : Outcome → Case → Outcome
read_of (Ok tt) c = cond (eqb (refusal_of c) 0) Accepted (Refused (refusal_of c))
read_of (Err n) c = Err n

-- 16 of the curve, then the refusal of the reading, then that of its record
abbrev pub entered_of : Curve → Outcome → Case → Outcome
entered_of r o c = cond (accepted r) (read_of o c) (Refused 16)
