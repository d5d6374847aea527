-- `broken::broken_edge` meets its contract: each test is its rule, and the first that fails has its number.
-- Assumes nothing.
use Rattle.std.proofs.Common.{sym, ◌∙◌}
use Rattle.day.proofs.BreachLaws.{broken_of_none}
use Rattle.broken.proofs.FirstLaws.{rest, next, tried}
use Rattle.broken.proofs.NumbersLaws.{rule2_of, rule4_of}
use Rattle.broken.proofs.broken_edge.Goals as goal

pub returns : goal.returns
returns c =
    let h = c.args.hour.now.numbered in
    tried
    (next c.first.ensures (c.above_least.ensures ∙ rule2_of h)
    (next c.first-four.ensures (c.below_most.ensures ∙ rule4_of h) (rest (sym (broken_of_none c.args.hour.now.hour.0)))))
