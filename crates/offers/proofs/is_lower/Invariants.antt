-- What was yielded is alike, so the lists compare as what is left of them.
use Rattle.std.proofs.Common.{◌≡◌, length}
use Rattle.model.specs.Best.{lower}
use Rattle.offers.proofs.is_lower.Given as goal

abbrev pub invariant-loop-own : goal.invariant-loop-own
invariant-loop-own l =
    record {
      can_next : (goal.iterator-loop-own).can_next l.own-iterator;
      is_finite : (goal.iterator-loop-own).is_finite l.own-iterator;
      even : length l.own-iterator.a.rest.now ≡ length l.own-iterator.b.rest.now;
      onward : lower l.first l.second ≡ lower l.own-iterator.a.rest.now l.own-iterator.b.rest.now;
    }
