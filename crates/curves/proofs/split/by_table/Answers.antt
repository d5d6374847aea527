-- `curves::split::by_table` meets its contract. Assumes nothing.
use Rattle.std.proofs.Common.{refl}
use Rattle.curves.proofs.SplitLaws.{shown_pays}
use Rattle.curves.proofs.split.by_table.Goals as goal

pub returns : goal.returns
returns c = (refl, rw c.value_at-holds.ensures (shown_pays c.requires.0))
