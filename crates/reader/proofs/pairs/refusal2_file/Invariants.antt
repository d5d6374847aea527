-- The invariant: `so` is the test of the sections passed.
use Rattle.std.proofs.Common.{◌≡◌}
use Rattle.cases.specs.Symbols.{every, before}
use Rattle.cases.specs.Refusals.{fitting}
use Rattle.reader.specs.Tables.{table_of}
use Rattle.reader.proofs.pairs.refusal2_file.Given as goal

abbrev pub invariant-loop-i : goal.invariant-loop-i
invariant-loop-i l =
    l.so ≡ every (λ i. fitting l.file (table_of l.form) (before i)) l.i
