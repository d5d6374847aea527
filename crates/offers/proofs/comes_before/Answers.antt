-- `offers::comes_before` meets its contract: by what the two earn, and for equal earners by the lower. Assumes nothing.
use Rattle.std.proofs.Common.{sym, ◌∙◌}
use Rattle.money.proofs.OrderLaws.{above, same, under}
use Rattle.offers.proofs.OrderLaws.{ahead, behind, level}
use Rattle.offers.proofs.comes_before.Goals as goal

pub returns-then-gt : goal.returns-then-gt
returns-then-gt c earns d e =
    let first = above c.args.own.0 c.args.other.0 (sym c.gt.ensures ∙ c.if-gt.true) in
    c.if-gt.true ∙ sym (ahead earns c.args.first.now c.args.second.now d e first)

pub returns-then-eq : goal.returns-then-eq
returns-then-eq c earns d e =
    let (s, t) = same c.args.own.0 c.args.other.0 (sym c.eq.ensures ∙ c.if-eq.true) in
    c.is_lower.ensures ∙ sym (level earns c.args.first.now c.args.second.now d e s t)

pub returns-else-eq : goal.returns-else-eq
returns-else-eq c earns d e =
    let last = under _ c.args.other.0 (sym c.gt.ensures ∙ c.if-gt.false) (sym c.eq.ensures ∙ c.if-eq.false) in
    c.if-eq.false ∙ sym (behind earns c.args.first.now c.args.second.now d e last)
