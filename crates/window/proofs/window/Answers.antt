-- From block to block.
use Rattle.std.proofs.Common.{◌∙◌, arith}
use Rattle.window.proofs.SlideLaws.{slides_start, slides_next, slides_end}
use Rattle.window.proofs.window.Goals as goal

pub loop-reach-init : goal.loop-reach-init
loop-reach-init c = record {
  within = omega arith;
  long = c.suffix.ensures.long;
  slides = slides_start _ c.suffix.ensures;
}

pub loop-reach-preserved : goal.loop-reach-preserved
loop-reach-preserved c =
    let h = c.loop-reach.invariant in
    let w = c.suffix-in-loop-reach.ensures in
    let s = c.slide-reach.ensures in
    record {
      within = omega (arith, c.min-z.ensures, s.at_value);
      long = w.long ∙ h.long;
      slides = slides_next h.slides w c.min-z.ensures c.requires.1 c.none-reach.ensures s.at_value s.carried;
    }

pub returns : goal.returns
returns c = slides_end c.loop-reach.invariant.slides (omega arith)
