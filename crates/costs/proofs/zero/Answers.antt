-- `costs::zero` meets its contract: its literal is 0. Assumes nothing.
use mathlib.Core.Path.{refl}
use lib.Ieee.{of_bits, of_int}
use Rattle.costs.proofs.zero.Goals as goal

pub returns : goal.returns
unfolding of_bits of_int
returns c = refl
