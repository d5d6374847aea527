-- Between the two places are the hours that the window holds.
use Rattle.std.proofs.Common.{arith, rules, ◌≡◌, ◌+◌, ◌-◌, min, length, take, drop}
use Rattle.std.proofs.lemmas.List.{length-take, length-drop}
use Rattle.cases.specs.Limits.{most_hours}
use Rattle.orders.proofs.MarkedLaws.{marked_between}
use Rattle.orders.proofs.windows.Window.mark.Goals as goal

pub returns : goal.returns
returns c =
    let day = c.args.day in
    let first = c.args.self.first.0 in
    let n = c.args.self.hours.0 in
    let a = c.from.result in
    let m = c.from-2.result - a in
    let begin : c.min-begin.result.0 ≡ min (first - day.first.0) day.hours.0 = search rules in
    let end : c.min-end.result.0 ≡ min (first + n - day.first.0) day.hours.0 = search rules in
    let long : length c.args.marks.now ≡ most_hours = search rules in
    let places : length (take m (drop a c.args.marks.now)) ≡ m = simp (length-take, length-drop) (omega arith) in
    rw (c.fill.ensures.after (λ y e. e), places) (marked_between day.first.0 day.hours.0 c.args.order first n day.room
    c.args.marks.now long a m (omega arith) (omega arith))
