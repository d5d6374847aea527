-- An offer less the slack stays within 64 bits.
use Rattle.std.proofs.Common.{arith}
use Rattle.blocks.proofs.SourceLaws.{sources_abs}
use Rattle.blocks.proofs.Sources.lowest.Goals as goal

pub difference-mark-requires : goal.difference-mark-requires
difference-mark-requires c =
    omega (arith, sources_abs c.args.self.now (omega arith) (omega arith) c.requires.offers)
