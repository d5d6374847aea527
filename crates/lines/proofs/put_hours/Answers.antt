-- `lines::put_hours` meets its contract: hour after hour is put. Assumes nothing.
use Rattle.std.proofs.Common.{arith, refl, sym, ap, subst, ◌≡◌, ◌+◌, ◌∙◌, length, get_or, add-one}
use Rattle.day.specs.Marks.{p}
use Rattle.model.specs.Printed.{hour_line, hour_lines}
use Rattle.day.proofs.MarksLaws.{p_zero, p_suc}
use Rattle.model.proofs.PrintedLaws.{hour_lines_none, hour_lines_more, length_hour_lines_le}
use Rattle.lines.specs.Puts.{Puts}
use Rattle.lines.proofs.PutsLaws.{puts_none, puts_then, room_then}
use Rattle.lines.proofs.put_hours.Goals as goal

pub loop-i-init : goal.loop-i-init
loop-i-init c =
    let case = c.args.case in
    let outputs = c.args.outputs.now in
    record {
      long = refl;
      before = sym (p_zero case outputs);
      puts = rw (hour_lines_none case outputs) (puts_none c.args.out.now c.args.at);
    }

pub put_hour-next-requires : goal.put_hour-next-requires
put_hour-next-requires c =
    let l = c.loop-i in
    let case = c.args.case in
    let outputs = c.args.outputs.now in
    let output = get_or outputs l.i 0 in
    let longer = length_hour_lines_le case outputs (l.i + 1) case.hours (omega arith) in
    room_then (hour_lines case outputs l.i) (hour_line (l.i + 1) output (output + l.before.0)) l.invariant.puts
    (omega (arith, longer, ap length (hour_lines_more case outputs l.i l.invariant.before)))

pub loop-i-preserved : goal.loop-i-preserved
loop-i-preserved c =
    let l = c.loop-i in
    let case = c.args.case in
    let outputs = c.args.outputs.now in
    let output = get_or outputs l.i 0 in
    record {
      long = c.put_hour-next.auto.out ∙ l.invariant.long;
      before = sym (ap (p case outputs) (add-one l.i) ∙ p_suc case outputs l.i);
      puts = rw (hour_lines_more case outputs l.i l.invariant.before)
          (puts_then (hour_lines case outputs l.i) (hour_line (l.i + 1) output (output + l.before.0)) l.invariant.puts
          c.put_hour-next.ensures);
    }

pub returns : goal.returns
returns c =
    let l = c.loop-i in
    let all : l.i ≡ c.args.case.hours = omega arith in
    subst (λ k. Puts c.args.out.now c.args.at (hour_lines c.args.case c.args.outputs.now k) l.out l.next) all
    l.invariant.puts
