-- `broken::broken_terms` meets its contract: each test is its rule, and the first that fails has its number.
-- Assumes nothing.
use Rattle.std.proofs.Common.{sym, ◌∙◌}
use Rattle.day.proofs.BreachLaws.{broken_of_none}
use Rattle.broken.proofs.FirstLaws.{rest, next, tried}
use Rattle.broken.proofs.NumbersLaws.{rule21_of, rule22_of, rule23_of}
use Rattle.broken.proofs.broken_terms.Goals as goal

pub returns : goal.returns
returns c =
    let h = c.args.hour.now.numbered in
    λ e o. tried
    (next c.first.ensures (c.kept_time-2.ensures ∙ rule21_of h e)
    (next c.first-down.ensures (c.kept_time.ensures ∙ rule22_of h e)
    (next c.first-ordered.ensures (c.kept_order.ensures ∙ rule23_of h o) (rest (sym (broken_of_none c.args.hour.now.hour.0))))))
