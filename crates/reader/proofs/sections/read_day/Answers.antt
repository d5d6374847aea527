-- `reader::sections::read_day` meets its contract. Assumes nothing.
use Rattle.std.proofs.Common.{◌≡◌, ◌∙◌, [], ◌*◌, ◌/◌, ◌≤◌, ◌<◌, ap, length, get_or, arith}
use Rattle.cases.specs.Limits.{most_hours}
use Rattle.cases.specs.Forms.{entry_length}
use Rattle.cases.specs.Layout.{padded, no_mills, signed, field_at}
use Rattle.cases.proofs.FilledLaws.{filled_start, filled_step, filled_end}
use Rattle.reader.specs.Sections.{price_at, order_at, day_of}
use Rattle.reader.specs.Tables.{table_of}
use Rattle.reader.proofs.TablesLaws.{hour_some, entries_le}
use Rattle.reader.proofs.sections.read_day.Goals as goal

pub loop-i-init : goal.loop-i-init
loop-i-init c = (filled_start no_mills _ _ most_hours, filled_start 0 _ _ most_hours)

pub loop-i-preserved : goal.loop-i-preserved
loop-i-preserved c =
    let table = table_of c.args.form in
    let part = c.args.part.now in
    let size = c.hour-width.result in
    let hours = c.whole-count.result in
    let i = c.loop-i.i in
    let some : 0 < size = omega (arith, c.hour-width.ensures, hour_some c.args.form) in
    let short : length part ≤ size * most_hours = omega (arith, c.hour-width.ensures, c.requires) in
    let few : hours ≤ most_hours =
    omega (arith, c.whole-count.ensures, entries_le size (length part) most_hours some short) in
    let at : size * i ≡ entry_length table 3 * i = ap (λ k. k * i) c.hour-width.ensures in
    let paid = c.price_at.ensures ∙ ap (λ k. signed (field_at (get_or table 3 []) part k 0)) at in (
      filled_step no_mills (price_at table part) hours most_hours c.price_at.result c.loop-i.invariant.0
          c.loop-i-test.true few (λ j. record { 0 = paid j }),
      filled_step 0 (order_at table part) hours most_hours c.order_at.result c.loop-i.invariant.1
          c.loop-i-test.true few
          (c.order_at.ensures ∙ ap (λ k. field_at (get_or table 3 []) part k 1) at),
    )

pub returns : goal.returns
unfolding day_of
returns c =
    let table = table_of c.args.form in
    let part = c.args.part.now in
    let hours = c.whole-count.result in
    let count = c.whole-count.ensures ∙ ap (λ k. length part / k) c.hour-width.ensures in
    let p = filled_end no_mills (price_at table part) hours most_hours c.loop-i.invariant.0 c.loop-i-test.false
    ∙ ap (λ k. padded no_mills (price_at table part) k most_hours) count in
    let o = filled_end 0 (order_at table part) hours most_hours c.loop-i.invariant.1 c.loop-i-test.false
    ∙ ap (λ k. padded 0 (order_at table part) k most_hours) count in
    λ j. record { prices = p j; orders = o j; count = count j }
