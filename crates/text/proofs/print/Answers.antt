-- The text is lent only where it has room: what `put_text` leaves has the text in front. Assumes nothing.
use Rattle.std.proofs.Common.{arith, ap, ◌∙◌, ◌≡◌, ◌≤◌, ◌<◌, Ok, length}
use lib.Seq.{sets}
use Rattle.model.specs.Printed.{printed_of}
use Rattle.model.proofs.PrintedLaws.{printing_of_short, printing_of_done}
use Rattle.lines.proofs.PutsLaws.{puts_front}
use Rattle.text.proofs.print.Goals as goal

pub returns-then-text-n-clause-value : goal.returns-then-text-n-clause-value
returns-then-text-n-clause-value c =
    let lack : length c.args.text.now < length (printed_of c.args.input.now) = omega arith in
    ap (λ w. w.answer) (printing_of_short c.args.input.now c.args.text.now lack)

pub returns-then-text-n-clause-text_after : goal.returns-then-text-n-clause-text_after
returns-then-text-n-clause-text_after c =
    let lack : length c.args.text.now < length (printed_of c.args.input.now) = omega arith in
    ap (λ w. w.lent) (printing_of_short c.args.input.now c.args.text.now lack)

pub returns-clause-value : goal.returns-clause-value
returns-clause-value c =
    let size : c.put_text-n.result ≡ length (printed_of c.args.input.now) = omega arith in
    let room : length (printed_of c.args.input.now) ≤ length c.args.text.now = omega arith in
    ap Ok size ∙ ap (λ w. w.answer) (printing_of_done c.args.input.now c.args.text.now room)

pub returns-clause-text_after : goal.returns-clause-text_after
returns-clause-text_after c =
    let text = printed_of c.args.input.now in
    let room : length text ≤ length c.args.text.now = omega arith in
    let front = puts_front text c.put_text-n.ensures.puts (omega arith) in
    c.put.ensures.bytes ∙ ap (sets c.args.text.now 0) front
    ∙ ap (λ w. w.lent) (printing_of_done c.args.input.now c.args.text.now room)
