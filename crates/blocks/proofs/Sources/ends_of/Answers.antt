-- One place more, for both.
use Rattle.std.proofs.Common.{arith}
use Rattle.money.proofs.OrderLaws.{larger_of}
use Rattle.blocks.proofs.TopLaws.{offers_next}
use Rattle.blocks.proofs.Sources.ends_of.Goals as goal

pub loop-q-preserved : goal.loop-q-preserved
loop-q-preserved c =
    let k = c.loop-q in
    record {
      first = offers_next _ (omega arith) k.invariant.first
          (cc (larger_of k.first c.offer.result c.max-first.ensures, c.offer.ensures));
      last = offers_next _ (omega arith) k.invariant.last
          (cc (larger_of k.last c.offer-in-loop-q.result c.max-last.ensures, c.offer-in-loop-q.ensures));
    }
