-- The choice in a start sequence is worth what its cell should have. Assumes nothing.
use Rattle.std.proofs.Common.{◌-◌, rules}
use Rattle.machine.specs.Coded.{coded}
use Rattle.machine.specs.declared.State.TheVariants.{Rise}
use Rattle.machine.specs.Lengths.{rises_at}
use Rattle.machine.specs.Moves.{earlier}
use Rattle.cells.specs.Ahead.{tariff}
use Rattle.sides.proofs.step_rises.Goals as goal

pub returns : goal.returns
returns c =
    let hour = c.args.hour.now in
    λ w b e. c.store_worths.ensures
    (λ k. coded (earlier hour.unit (tariff hour) w (Rise (k - rises_at)))) (λ k r lo hi p. search rules)
