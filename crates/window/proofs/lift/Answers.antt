-- A place is read before it is written.
use Rattle.std.proofs.Common.{arith, ◌∙◌}
use Rattle.window.proofs.RowLaws.{written_up, written_past, written_to}
use Rattle.window.proofs.SlopeLaws.{sloped_on, sloped_abs}
use Rattle.window.proofs.lift.Goals as goal

pub sum-requires : goal.sum-requires
sum-requires c =
    let h = c.loop-i.invariant in
    let i = c.loop-i.i in
    let small = c.requires.n_in_bounds.2.small i (omega arith) in
    let g = c.requires.gentle in
    let few = c.requires.n_in_bounds.1 in
    let line = sloped_abs c.args.line.first.0 c.args.line.slope.0 i g.first_le g.slope_le (omega (arith, few)) in
    rw (h.line, c.value_at-v.ensures ∙ written_past h.lifted i (omega arith)) (omega (arith, line, small))

pub after-t-requires : goal.after-t-requires
after-t-requires c =
    let g = c.requires.gentle in
    rw c.loop-i.invariant.line
    (omega (
      arith,
      g.slope_le,
      sloped_abs c.args.line.first.0 c.args.line.slope.0 c.loop-i.i g.first_le g.slope_le
          (omega (arith, c.requires.n_in_bounds)),
    ))

pub loop-i-preserved : goal.loop-i-preserved
loop-i-preserved c =
    let h = c.loop-i.invariant in
    let v = c.value_at-v.ensures ∙ written_past h.lifted c.loop-i.i (omega arith) in
    record {
      line = sloped_on c.args.line.first.0 c.args.line.slope.0 c.loop-i.i h.line c.after-t.ensures;
      lifted = rw c.store.ensures
          (written_up _ h.lifted (omega arith) (omega arith) (cc (v, h.line, c.sum.ensures)));
    }

pub returns : goal.returns
returns c = written_to (omega arith) c.loop-i.invariant.lifted
