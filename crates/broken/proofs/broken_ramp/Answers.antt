-- `broken::broken_ramp` meets its contract: each test is its rule, and the first that fails has its number.
-- Assumes nothing.
use Rattle.std.proofs.Common.{◌∙◌}
use Rattle.broken.proofs.FirstLaws.{rest, next, tried}
use Rattle.broken.proofs.NumbersLaws.{rule5_of, rule6_of}
use Rattle.broken.proofs.broken_ramp.Goals as goal

pub returns : goal.returns
returns c =
    let h = c.args.hour.now.numbered in
    λ rs e. tried
    (next c.first-2.ensures (c.within_ramp-up.ensures ∙ rule5_of h)
    (next c.first.ensures (c.within_ramp-down.ensures ∙ rule6_of h) (rest e)))
