-- `lookup::choose` meets its contract, by where it looks. Assumes nothing.
use Rattle.std.proofs.Common.{rules, arith, refl, sym, ◌∙◌, ◌≡◌, ◌<◌, ◌≤◌, suc}
use Rattle.cells.proofs.Ends.{sized_at}
use Rattle.cells.specs.Ahead.{tariff, tariffs}
use Rattle.cells.specs.Table.{lock_of}
use Rattle.locks.proofs.HeldLaws.{free_at}
use Rattle.lookup.proofs.AheadLaws.{row_after, choice_told}
use Rattle.lookup.proofs.choose.Goals as goal

-- the kept row after the hour
pub from_row-requires-clause-sized : goal.from_row-requires-clause-sized
from_row-requires-clause-sized c =
    let p = c.args.passed.now in
    let u = p.day.unit in
    let n = c.next-after.result.0 in
    let after : n ≡ suc c.args.k.0 = omega arith in
    let below : n < c.end_of-b.result.0 = search rules in
    rw c.at-hour.ensures.unit (
      _,
      sized_at u (tariffs p.day) p.day.fit p.day.day.fair n,
      row_after u (tariffs p.day) p.stride.0 c.args.k.0 (lock_of c.args.s) c.args.held.now.to.0 n c.requires.ready after
          (omega (arith, below, c.end_of-b.ensures)),
      c.value_at-e.ensures ∙ p.entered.at n (omega arith) (omega (arith, c.requires.k_lt_hours.0)),
    )

pub returns-then-lt : goal.returns-then-lt
returns-then-lt c =
    let p = c.args.passed.now in
    let u = p.day.unit in
    let hour = c.at-hour.result in
    let same = c.at-hour.ensures in
    let n = c.next-after.result.0 in
    let after : n ≡ suc c.args.k.0 = omega arith in
    let below : n < c.end_of-b.result.0 = search rules in
    let row = row_after u (tariffs p.day) p.stride.0 c.args.k.0 (lock_of c.args.s) c.args.held.now.to.0 n
    c.requires.ready after (omega (arith, below, c.end_of-b.ensures)) in
    let e = c.value_at-e.ensures ∙ p.entered.at n (omega arith) (omega (arith, c.requires.k_lt_hours.0)) in
    let told : tariff hour ≡ tariffs p.day c.args.k.0 = rw (same.terms, same.costs) refl in
    c.from_row.ensures _ (sized_at u (tariffs p.day) p.day.fit p.day.day.fair n) (rw same.unit row) (rw same.unit e)
    ∙ choice_told u hour.unit (tariffs p.day) (tariff hour) c.args.k.0 n c.args.s same.unit told after

-- the layer after the hour, where no lock goes beyond it
pub from_after-requires-clause-by_index : goal.from_after-requires-clause-by_index
from_after-requires-clause-by_index c =
    let p = c.args.passed.now in
    let n = c.next-after.result.0 in
    let after : n ≡ suc c.args.k.0 = omega arith in
    let past : c.end_of-b.result.0 ≤ n = search rules in
    rw c.at-hour.ensures.unit (
      tariffs p.day,
      p.day.day.fair,
      p.saved,
      free_at p.day.unit (tariffs p.day) p.stride.0 _ _ (sym after)
          (c.requires.ready.free (omega (arith, past, c.end_of-b.ensures))),
      c.value_at-e.ensures ∙ p.entered.at n (omega arith) (omega (arith, c.requires.k_lt_hours.0)),
    )

pub returns : goal.returns
returns c =
    let p = c.args.passed.now in
    let u = p.day.unit in
    let same = c.at-hour.ensures in
    let n = c.next-after.result.0 in
    let after : n ≡ suc c.args.k.0 = omega arith in
    let past : c.end_of-b.result.0 ≤ n = search rules in
    let free = free_at u (tariffs p.day) p.stride.0 _ _ (sym after)
    (c.requires.ready.free (omega (arith, past, c.end_of-b.ensures))) in
    let e = c.value_at-e.ensures ∙ p.entered.at n (omega arith) (omega (arith, c.requires.k_lt_hours.0)) in
    (rw (same.unit, same.terms, same.costs) at c.from_after.ensures) (tariffs p.day) p.day.day.fair p.saved free e
    ∙ choice_told u u (tariffs p.day) _ c.args.k.0 n c.args.s refl refl after
