-- One block more is filled, and the last of them ends the loop.
use Rattle.std.proofs.Common.{◌≡◌, ◌+◌, arith}
use Rattle.window.proofs.RowLaws.{written_to}
use Rattle.blocks.proofs.SweepLaws.{written_join}
use Rattle.blocks.proofs.Sources.fill.Goals as goal

pub loop-s-preserved : goal.loop-s-preserved
loop-s-preserved c =
    let e : c.min-e.result ≡ c.loop-s.s + 16 = omega (arith, c.min-e.ensures) in
    record {
      within = omega arith;
      high = c.cut_of-k.ensures.within;
      filled = written_to e (written_join c.loop-s.invariant.filled c.block.ensures (omega arith));
    }

pub returns-2 : goal.returns-2
returns-2 c =
    let e : c.min-e.result ≡ c.args.self.now.n = omega (arith, c.min-e.ensures) in
    written_to e (written_join c.loop-s.invariant.filled c.block.ensures (omega (arith, c.loop-s-test.true)))
