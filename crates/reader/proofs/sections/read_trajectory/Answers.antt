-- `reader::sections::read_trajectory` meets its contract. Assumes nothing.
use Rattle.std.proofs.Common.{◌∙◌, ap, arith}
use Rattle.quantities.specs.declared.Output.{Output}
use Rattle.cases.specs.Limits.{most_stages}
use Rattle.cases.specs.Layout.{padded, no_output}
use Rattle.cases.proofs.FilledLaws.{filled_start, filled_step, filled_end}
use Rattle.reader.specs.Sections.{stage_at, trajectory_of}
use Rattle.reader.proofs.sections.read_trajectory.Goals as goal

pub loop-i-init : goal.loop-i-init
loop-i-init c = filled_start no_output _ _ most_stages

pub loop-i-preserved : goal.loop-i-preserved
loop-i-preserved c =
    let x : Output = record { 0 = c.word.result } in
    filled_step no_output (stage_at c.args.part.now) c.whole-count.result most_stages x c.loop-i.invariant (omega arith)
    (omega (arith, c.whole-count.ensures)) (λ j. record { 0 = c.word.ensures j })

pub returns : goal.returns
unfolding trajectory_of
returns c =
    let part = c.args.part.now in
    let count = c.whole-count in
    let e = filled_end no_output (stage_at part) count.result most_stages c.loop-i.invariant (omega arith)
    ∙ ap (λ n. padded no_output (stage_at part) n most_stages) count.ensures in
    λ j. record { outputs = e j; count = count.ensures j }
