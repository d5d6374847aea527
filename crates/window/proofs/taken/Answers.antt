-- By whether the row has the place.
use Rattle.std.proofs.Common.{sym}
use Rattle.laws.proofs.RangeLaws.{larger_of_ge}
use Rattle.window.proofs.RowLaws.{amount_at_in, amount_at_past}
use Rattle.money.proofs.OrderLaws.{larger_of}
use Rattle.window.proofs.taken.Goals as goal

pub returns-then-more : goal.returns-then-more
returns-then-more c =
    let s = c.args in
    rw (amount_at_in s.row.now s.n s.at (c.requires.at_lt_n.0 c.if-more.true))
    (cc (larger_of s.top c.value_at.result c.max.ensures, c.value_at.ensures))

pub returns-else-more : goal.returns-else-more
returns-else-more c =
    let s = c.args in
    rw (amount_at_past s.row.now s.n s.at (c.requires.at_lt_n.1 c.if-more.false))
    (sym (larger_of_ge c.requires.n_in_bounds.1))
