-- The hours before an hour are put, and `before` is the output at its beginning.
use Rattle.std.proofs.Common.{◌≡◌, length}
use Rattle.day.specs.Marks.{p}
use Rattle.model.specs.Printed.{hour_lines}
use Rattle.lines.specs.Puts.{Puts}
use Rattle.lines.proofs.put_hours.Given as goal

abbrev pub invariant-loop-i : goal.invariant-loop-i
invariant-loop-i l =
    record {
      long : length l.out ≡ length l.initial.out;
      before : l.before.0 ≡ p l.fn.case l.outputs l.i;
      puts : Puts l.initial.out l.at (hour_lines l.fn.case l.outputs l.i) l.out l.next;
    }
