-- The invariant: `so` is the test of the steps passed.
use Rattle.std.proofs.Common.{◌≡◌, suc}
use Rattle.cases.specs.Symbols.{every, stage}
use Rattle.limits.specs.Steps.{stepped}
use Rattle.limits.proofs.strict.Given as goal

abbrev pub invariant-loop-i : goal.invariant-loop-i
invariant-loop-i l =
    l.so ≡ every (λ i. stepped l.up (stage l.outputs i) (stage l.outputs (suc i))) l.i
