-- The choice off-line is worth what its cell should have. Assumes nothing.
use Rattle.std.proofs.Common.{rules}
use Rattle.machine.specs.Coded.{coded}
use Rattle.machine.specs.Moves.{idle, earlier}
use Rattle.cells.specs.Ahead.{tariff}
use Rattle.sides.proofs.step_offs.Goals as goal

pub returns : goal.returns
returns c =
    let hour = c.args.hour.now in
    λ w b e. c.store_worths.ensures
    (λ k. coded (earlier hour.unit (tariff hour) w (idle k))) (λ k r lo hi p. search rules)
