-- `limits::opens_at` meets its contract. Entries are counted from 1 in the definition. Assumes nothing.
use Rattle.std.proofs.Common.{ap}
use lib.Dec.{eqb}
use Rattle.cases.proofs.RefusalsLaws.{stage_last}
use Rattle.limits.proofs.opens_at.Goals as goal

pub returns : goal.returns
returns c = ap (eqb c.args.initial.0) (stage_last c.args.outputs.now c.args.i c.requires.0)
