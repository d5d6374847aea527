-- By whether the windows of the block have places in common.
use Rattle.std.proofs.Common.{arith}
use Rattle.blocks.proofs.CutLaws.{enough_shared, enough_whole}
use Rattle.blocks.proofs.SourceLaws.{sources_ready}
use Rattle.blocks.proofs.Sources.cut_of.Goals as goal

pub returns-then-right-left : goal.returns-then-right-left
returns-then-right-left c = enough_whole

pub returns : goal.returns
returns c =
    let low = c.lowest-low.ensures in
    let high = c.highest-high.ensures in
    let ends = c.ends_near-e.ensures in
    enough_shared (omega arith) (omega arith) (sources_ready c.args.self.now (omega arith) (omega arith))
    c.saturating_sub-left.ensures c.min-right.ensures (omega arith) (omega (arith, low)) (omega (arith, high))
    ends.offers ends.offers_2 low.2 high.2
