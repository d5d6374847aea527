-- The answers are carried on to before i.
use Rattle.window.specs.Slides.{Carried}
use Rattle.window.proofs.pass.Given as goal

abbrev pub invariant-loop-i : goal.invariant-loop-i
invariant-loop-i l =
    Carried l.fn.row l.row l.scratch l.n l.rd l.ru l.line.slope.0 l.z l.fn.start.at l.fn.start.top.0 l.fn.start.amount.0
    l.i l.top.0 l.amount.0
