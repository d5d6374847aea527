-- Both amounts are offers of places from a to q.
use Rattle.blocks.specs.Cuts.{Offers}
use Rattle.blocks.proofs.Sources.ends_of.Given as goal

abbrev pub invariant-loop-q : goal.invariant-loop-q
invariant-loop-q k = record {
  first : Offers k.self.old.now k.self.costs.now k.l k.a k.q k.first.0;
  last : Offers k.self.old.now k.self.costs.now k.r k.a k.q k.last.0;
}
