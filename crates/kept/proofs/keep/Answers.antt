-- `kept::keep` meets its contract where no lock goes beyond the hour. Assumes nothing.
use Rattle.std.proofs.Common.{arith, rules, ◌≡◌, suc, ◌≤◌}
use Rattle.cells.specs.Ahead.{tariffs}
use Rattle.locks.proofs.HeldLaws.{free_at, holds_from}
use Rattle.kept.proofs.keep.Goals as goal

pub returns : goal.returns
returns c =
    let day = c.args.passed.now.day in
    let (free, holds) = c.keep_layers.ensures in
    let after : c.next-after.result.0 ≡ suc c.args.k.0 = omega arith in
    let none : c.end_of-b.result.0 ≤ c.next-after.result.0 = search rules in
    let next = holds_from day.unit (tariffs day) (suc c.args.k.0) (omega arith) holds in (
      record {
        long = next.long;
        few = next.few;
        locked = λ h. absurd (omega arith);
        free = λ h. free_at day.unit (tariffs day) c.args.passed.now.stride.0 _ _ after free;
      },
      next,
    )
