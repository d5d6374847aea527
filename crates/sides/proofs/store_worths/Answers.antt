-- The loop of `sides::store_worths` stores cell by cell. Assumes nothing.
use Rattle.std.proofs.Common.{arith}
use Rattle.window.proofs.RowLaws.{written_up, written_to}
use Rattle.sides.proofs.store_worths.Goals as goal

pub loop-c-preserved : goal.loop-c-preserved
loop-c-preserved g c =
    λ v h. rw c.store.ensures
    (written_up _ (c.loop-c.invariant v h) (omega arith) (omega (arith, c.requires.b_bound, c.loop-c-test.true))
    (h c.loop-c.c c.worth.result (omega arith) c.loop-c-test.true c.worth.ensures))

pub returns : goal.returns
returns g c = λ v h. written_to (omega arith) (c.loop-c.invariant v h)
