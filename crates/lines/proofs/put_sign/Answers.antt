-- `lines::put_sign` meets its contract. Assumes nothing.
use Rattle.std.proofs.Common.{arith, sym, ap, ◌∙◌, length}
use lib.IntN.{pos}
use Rattle.model.proofs.PrintedLaws.{sign_below, sign_above}
use Rattle.money.proofs.OrderLaws.{below}
use Rattle.lines.proofs.PutsLaws.{puts_none}
use Rattle.lines.proofs.put_sign.Goals as goal

pub put-requires : goal.put-requires
put-requires c =
    let negative = sign_below c.args.v.0 (sym (below c.args.v.0 (pos 0)) ∙ sym c.lt.ensures ∙ c.if-lt.true) in
    omega (arith, ap length negative)

pub returns-then-lt : goal.returns-then-lt
returns-then-lt c =
    rw (sign_below c.args.v.0 (sym (below c.args.v.0 (pos 0)) ∙ sym c.lt.ensures ∙ c.if-lt.true)) c.put.ensures

pub returns : goal.returns
returns c =
    rw (sign_above c.args.v.0 (sym (below c.args.v.0 (pos 0)) ∙ sym c.lt.ensures ∙ c.if-lt.false))
    (puts_none c.args.out.now c.args.at)
