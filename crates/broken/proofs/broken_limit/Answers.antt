-- `broken::broken_limit` meets its contract: each test is its rule, and the first that fails has its number.
-- Assumes nothing.
use Rattle.std.proofs.Common.{◌∙◌}
use Rattle.broken.proofs.FirstLaws.{rest, next, tried}
use Rattle.broken.proofs.NumbersLaws.{rule1_of, rule2_of, rule3_of, rule4_of}
use Rattle.broken.proofs.broken_limit.Goals as goal

pub returns : goal.returns
returns c =
    let h = c.args.hour.now.numbered in
    λ rs e. tried
    (next c.first.ensures (c.above_least-2.ensures ∙ rule1_of h)
    (next c.first-two.ensures (c.above_least.ensures ∙ rule2_of h)
    (next c.first-three.ensures (c.below_most-2.ensures ∙ rule3_of h)
    (next c.first-four.ensures (c.below_most.ensures ∙ rule4_of h) (rest e)))))
