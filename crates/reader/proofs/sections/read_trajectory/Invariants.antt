-- The first i outputs are read, and those past them are zero.
use Rattle.cases.specs.Limits.{most_stages}
use Rattle.cases.specs.Layout.{no_output}
use Rattle.cases.proofs.FilledLaws.{Filled}
use Rattle.reader.specs.Sections.{stage_at}
use Rattle.reader.proofs.sections.read_trajectory.Given as goal

abbrev pub invariant-loop-i : goal.invariant-loop-i
invariant-loop-i l =
    Filled no_output (stage_at l.part) l.count most_stages l.outputs l.i
