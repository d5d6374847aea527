-- The terms up to an hour are added up.
use Rattle.std.proofs.Common.{◌≡◌, ◌-◌, ◌*◌, ℕ, List}
use Rattle.quantities.specs.declared.Output.{Output}
use Rattle.cases.specs.Symbols.{stage}
use Rattle.cases.specs.Limits.{most_output}
use Rattle.hours.specs.Counted.{last_count, Running}
use Rattle.hours.proofs.SumLaws.{Summed}
use Rattle.hours.proofs.stages.sequence_at.Given as goal

pub record Added (counts : List ℕ) (stages : List Output) (n top hour i total : ℕ) : Type 0 where
  pub at : hour ≡ top - i
  pub added : (f : ℕ → ℕ) → Running f last_count counts
      → Summed (λ j. stage stages j * f (top - j)) most_output n i total

abbrev pub invariant-loop-i : goal.invariant-loop-i
invariant-loop-i l = Added l.counts l.stages l.n l.initial.hour.0 l.hour.0 l.i l.output.0
