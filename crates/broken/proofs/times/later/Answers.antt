-- `broken::times::later` meets its contract: 1 after a mark, else one more. Assumes nothing.
use Rattle.std.proofs.Common.{arith, sym, ap, ◌+◌, ◌∙◌}
use Rattle.cases.specs.Symbols.{h}
use Rattle.day.proofs.BreachLaws.{since_marked, since_unmarked}
use Rattle.broken.proofs.times.later.Goals as goal

pub returns-then-mark-eq1 : goal.returns-then-mark-eq1
returns-then-mark-eq1 c =
    λ case f k l m e.
    record { is = sym (since_marked (h case) f k l (sym m ∙ c.if-mark-eq1.true)); most = omega arith }

pub returns-else-mark-eq1 : goal.returns-else-mark-eq1
returns-else-mark-eq1 c =
    λ case f k l m e.
    let unmarked = since_unmarked (h case) f k l (λ one. c.if-mark-eq1.false (m ∙ one)) in
    record { is = c.next.ensures ∙ ap (λ n. n + 1) e.is ∙ sym unmarked; most = omega (arith, e.most) }
