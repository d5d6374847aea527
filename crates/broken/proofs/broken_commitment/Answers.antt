-- `broken::broken_commitment` meets its contract: each test is its rule, and the first that fails has its number.
-- Assumes nothing.
use Rattle.broken.proofs.FirstLaws.{rest, next, tried}
use Rattle.broken.proofs.NumbersLaws.{rule7_of, rule8_of, rule9_of}
use Rattle.broken.proofs.broken_commitment.Goals as goal

pub returns : goal.returns
returns c =
    let h = c.args.hour.now.numbered in
    λ rs e. tried
    (next c.first.ensures (rule7_of h c.both-before.ensures c.both.ensures)
    (next c.first-eight.ensures (rule8_of h) (next c.first-nine.ensures (rule9_of h) (rest e))))
