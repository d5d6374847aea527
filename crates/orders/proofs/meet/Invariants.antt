-- None of the hours passed has both marks.
use Rattle.std.proofs.Common.{◌≡◌, ◌||◌, true, eqb, get_or}
use Rattle.cases.specs.Symbols.{every, before}
use Rattle.orders.proofs.meet.Given as goal

abbrev pub invariant-loop-k : goal.invariant-loop-k
invariant-loop-k l = true ≡ every (λ k. eqb (get_or l.ons (before k) 0) 0 || eqb (get_or l.offs (before k) 0) 0) l.k
