-- The line is a word and a field. Assumes nothing.
use Rattle.std.proofs.Common.{arith, ap, [], ◌∷◌, ◌++◌, length}
use Rattle.model.specs.Printed.{decimal}
use Rattle.model.proofs.PrintedLaws.{refused_word, refused_line_is}
use Rattle.lines.proofs.PutsLaws.{puts_then, room_then}
use Rattle.lines.proofs.put_refused.Goals as goal

pub put-at-requires : goal.put-at-requires
put-at-requires c = omega (arith, c.requires, ap length (refused_line_is c.args.number))

pub put_field-requires : goal.put_field-requires
put_field-requires c =
    let number = c.args.number in
    rw c.from.ensures
    (room_then refused_word (decimal number ++ 10 ∷ []) c.put-at.ensures
    (omega (arith, c.requires, ap length (refused_line_is number))))

pub returns : goal.returns
returns c =
    let number = c.args.number in
    rw (refused_line_is number)
    (puts_then refused_word (decimal number ++ 10 ∷ []) c.put-at.ensures (rw c.from.ensures at c.put_field.ensures))
