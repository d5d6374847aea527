-- The numbers of an hour that the rules compare, and the parts of them. Definitions only. Assumes nothing.
use Rattle.std.specs.Prelude.{◌≡◌, List, ℕ, ◌+◌, ◌-◌, ◌*◌}
use Rattle.cases.specs.declared.Case.{Case}
use Rattle.quantities.specs.declared.Output.{Output}
use Rattle.cases.specs.Symbols.{sum, stage, before, UD, DD}
use Rattle.day.specs.Marks.{p, v, y, starting, z}
use Rattle.day.specs.Constraints.{stopping, start_output, stop_output, stops_within}
use Rattle.hours.specs.declared.marks.Marks.{Marks}
use Rattle.hours.specs.declared.stages.Sequence.{Sequence}
use Rattle.hours.specs.declared.Numbers.{Numbers}

-- f marks hours, and the i-th output of a trajectory l of n goes with the mark of hour k − i + 1
abbrev pub sequence_at : (ℕ → ℕ) → List Output → ℕ → ℕ → Sequence
sequence_at f l n k =
    record {
      marks = sum (λ i. f (k + 1 - i)) n;
      output = record { 0 = sum (λ i. stage l i * f (k + 1 - i)) n };
    }

-- of hour k of a list, hour 0 included
abbrev pub marks_at : Case → List ℕ → ℕ → Marks
marks_at c l k = record { online = v c l k; wasonline = v c l (before k); start = y c l k; stop = z c l k }

abbrev pub numbers_at : Case → List ℕ → ℕ → Numbers
numbers_at c l k =
    record {
      output = record { 0 = p c l k };
      earlier = record { 0 = p c l (before k) };
      marks = marks_at c l k;
      startup = record { marks = starting c l k; output = record { 0 = start_output c l k } };
      shutdown = record { marks = stopping c l k; output = record { 0 = stop_output c l k } };
      falling = stops_within c l (DD c) k;
      meeting = stops_within c l (UD c + DD c - 1) k;
    }

-- n are the numbers of hour k
pub record Numbered (c : Case) (l : List ℕ) (k : ℕ) (n : Numbers) : Type 0 where
  pub are : n ≡ numbers_at c l k
