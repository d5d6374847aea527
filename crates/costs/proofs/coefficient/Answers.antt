-- `costs::coefficient` meets its contract: its two literals are the ends that `allowed` names. Assumes nothing.
use mathlib.Core.Path.{refl}
use lib.Ieee.{of_bits, of_int}
use Rattle.curve.specs.Cost.{allowed}
use Rattle.costs.proofs.coefficient.Goals as goal

pub returns : goal.returns
unfolding allowed of_bits of_int
returns c = refl
