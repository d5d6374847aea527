-- `reader::pairs::linked` meets its contract. Assumes nothing.
use Rattle.std.proofs.Common.{◌≡◌, ◌∙◌, ap, add-one, arith, ◌-◌}
use lib.Dec.{eqb}
use Rattle.cases.specs.Symbols.{every}
use Rattle.cases.specs.Layout.{offset_at}
use Rattle.cases.proofs.RefusalsLaws.{every_none, every_more}
use Rattle.reader.proofs.pairs.linked.Goals as goal

pub loop-i-init : goal.loop-i-init
loop-i-init c = every_none _

pub loop-i-preserved : goal.loop-i-preserved
loop-i-preserved c =
    let begins = c.offset_at.ensures.0 ∙ ap (offset_at c.args.file.now) (add-one c.loop-i.i) in
    every_more _ c.loop-i.i c.loop-i.invariant (λ j. eqb (begins j) (c.end_at.ensures j))

pub returns : goal.returns
returns c =
    let e : c.loop-i.i ≡ c.args.n - 1 = omega arith in
    c.loop-i.invariant ∙ ap (every _) e
