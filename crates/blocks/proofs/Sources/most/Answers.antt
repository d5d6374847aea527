-- One place more, until the last is taken.
use Rattle.std.proofs.Common.{sym, ◌∙◌, arith}
use Rattle.laws.proofs.RangeLaws.{largest_empty, largest_next}
use Rattle.machine.specs.Coded.{missing}
use Rattle.money.proofs.OrderLaws.{larger_of}
use Rattle.blocks.specs.Offers.{offered}
use Rattle.blocks.proofs.Sources.most.Goals as goal

pub loop-q-init : goal.loop-q-init
loop-q-init c =
    let s = c.args in
    let f = offered s.self.now.old.now s.self.now.costs.now s.at in
    record {
      high = omega arith;
      most = c.none-top.ensures ∙ sym (largest_empty missing f s.a s.a (omega arith));
    }

pub loop-q-preserved : goal.loop-q-preserved
loop-q-preserved c =
    let s = c.args in
    let l = c.loop-q in
    let f = offered s.self.now.old.now s.self.now.costs.now s.at in
    record {
      high = omega arith;
      most = larger_of l.top c.offer.result c.max-top.ensures
          ∙ cc (c.offer.ensures, l.invariant.most)
          ∙ largest_next missing f s.a l.q (omega arith);
    }
