-- What the hour brings, by the outcomes of the test: what it earns is of a size that can be added. Assumes nothing.
use Rattle.std.proofs.Common.{arith, sym, ◌∙◌}
use Rattle.cells.specs.Brought.{brought_by}
use Rattle.machine.proofs.Table.Sizes.{earn_abs}
use Rattle.cells.proofs.ahead.HourAhead.offered.Goals as goal

pub more-requires : goal.more-requires
more-requires c = (
  rw c.earned.ensures
      (omega (arith, earn_abs c.args.self.now.fair c.args.q.0 c.args.p.0 (omega (arith, c.requires.p_bound.0)))),
  c.requires.p_bound.1,
)

pub returns-then-allowed : goal.returns-then-allowed
unfolding brought_by
returns-then-allowed c =
    simp (sym (c.allowed.ensures c.args.self.now.costs.now) ∙ c.if-allowed.true)
    (c.more.ensures ∙ simp c.earned.ensures)

pub returns-else-allowed : goal.returns-else-allowed
unfolding brought_by
returns-else-allowed c =
    simp (sym (c.allowed.ensures c.args.self.now.costs.now) ∙ c.if-allowed.false) c.none.ensures
