-- The most of the places from a to q.
use Rattle.std.proofs.Common.{◌≡◌, ◌≤◌, max}
use Rattle.blocks.specs.Cuts.{most_of}
use Rattle.blocks.proofs.Sources.most.Given as goal

abbrev pub invariant-loop-q : goal.invariant-loop-q
invariant-loop-q l = record {
  high : l.q ≤ max l.a l.b;
  most : l.top.0 ≡ most_of l.self.old.now l.self.costs.now l.at l.a l.q;
}
