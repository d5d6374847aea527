-- One place more is empty, until the last is.
use Rattle.std.proofs.Common.{arith}
use Rattle.window.proofs.RowLaws.{written_up, written_none}
use Rattle.window.proofs.empty.Goals as goal

pub loop-i-preserved : goal.loop-i-preserved
loop-i-preserved c = record {
  high = omega arith;
  emptied = rw c.store.ensures
      (written_up _ c.loop-i.invariant.emptied (omega arith) (omega arith) c.none.ensures);
}

pub returns : goal.returns
returns c = written_none c.loop-i.invariant.emptied (omega arith) (omega arith)
