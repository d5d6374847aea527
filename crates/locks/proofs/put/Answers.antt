-- `locks::put` meets its contract. Assumes nothing.
use Rattle.std.proofs.Common.{arith}
use Rattle.locks.proofs.PutLaws.{part_put}
use Rattle.locks.proofs.put.Goals as goal

pub returns : goal.returns
returns c =
    part_put _ _ c.args.row.now _ c.args.off c.args.n _ (omega arith) (omega arith) (omega arith)
    c.copy_from_slice.ensures.after
