-- The total is what the hours to k earn, and `was` is p(k).
use Rattle.std.proofs.Common.{◌≡◌, ◌*◌, ◌≤◌, ℕ, ℤ, nat_abs}
use Rattle.day.specs.Marks.{p}
use Rattle.day.specs.Profit.{profit_by_to}
use Rattle.machine.specs.Bounds.{most_earned}
use Rattle.machine.specs.Cases.{Pays}
use Rattle.curves.proofs.list.earned.Given as goal

abbrev pub invariant-loop-k : goal.invariant-loop-k
invariant-loop-k l =
    record {
      was : l.was.0 ≡ p l.case.case l.list l.k;
      most : nat_abs l.total.0 ≤ l.k * most_earned;
      is : (cost : ℕ → ℤ) → Pays l.rates l.costs cost → l.total.0 ≡ profit_by_to cost l.case.case l.list l.k;
    }
