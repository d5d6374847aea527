-- The suffixes from i on are written.
use Rattle.window.proofs.SuffixLaws.{Suffixes}
use Rattle.window.proofs.suffix.Given as goal

abbrev pub invariant-loop-i : goal.invariant-loop-i
invariant-loop-i l = Suffixes l.row l.fn.scratch l.scratch l.n l.b l.e l.i l.top.0
