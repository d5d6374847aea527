-- `limits::strict` meets its contract. Assumes nothing.
use Rattle.std.proofs.Common.{◌≡◌, ◌∙◌, ap, arith}
use Rattle.cases.specs.Symbols.{every}
use Rattle.cases.proofs.RefusalsLaws.{every_none, every_more, stage_here, stage_next}
use Rattle.limits.specs.Steps.{stepped}
use Rattle.limits.proofs.strict.Goals as goal

pub loop-i-init : goal.loop-i-init
loop-i-init c = every_none _

pub loop-i-preserved : goal.loop-i-preserved
loop-i-preserved c =
    let outputs = c.args.outputs.now in
    let i = c.loop-i.i in
    every_more _ i c.loop-i.invariant
    (c.way-so.ensures ∙ (λ j. stepped c.args.up (stage_here outputs i j) (stage_next outputs i j)))

pub returns : goal.returns
returns c =
    let e : c.loop-i.i ≡ c.args.steps = omega arith in
    c.loop-i.invariant ∙ ap (every _) e
