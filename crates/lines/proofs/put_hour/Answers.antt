-- The line is three fields: the hour, the output at its end, and the sum of the outputs at its two ends. Assumes
-- nothing.
use Rattle.std.proofs.Common.{arith, ap, List, ℕ, [], ◌∷◌, ◌++◌, ◌+◌, ◌≤◌, length}
use Rattle.model.specs.Printed.{decimal, hour_line}
use Rattle.model.proofs.PrintedLaws.{hour_line_is}
use Rattle.lines.proofs.PutsLaws.{puts_then, room_first, room_then}
use Rattle.lines.proofs.put_hour.Goals as goal

-- a number, and the byte after it
abbrev field : ℕ → ℕ → List ℕ
field n after = decimal n ++ after ∷ []

-- the fields have room
room : (at k output halves : ℕ) {n : ℕ} → at + length (hour_line k output halves) ≤ n
    → at + length (field k 32 ++ (field output 32 ++ field halves 10)) ≤ n
room at k output halves h = omega (arith, ap length (hour_line_is k output halves))

pub put_field-first-requires : goal.put_field-first-requires
put_field-first-requires c =
    let a = c.args in
    rw c.from.ensures
    (room_first (field a.hour.0 32) (field a.output.0 32 ++ field (a.output.0 + a.before.0) 10) a.at
    (length a.out.now) (room a.at a.hour.0 a.output.0 (a.output.0 + a.before.0) c.requires))

pub put_field-second-requires : goal.put_field-second-requires
put_field-second-requires c =
    let a = c.args in
    let rest = field (a.output.0 + a.before.0) 10 in
    rw c.from-2.ensures
    (room_first (field a.output.0 32) rest c.put_field-first.result (length c.put_field-first.new.out)
    (room_then (field a.hour.0 32) (field a.output.0 32 ++ rest) (rw c.from.ensures at c.put_field-first.ensures)
    (room a.at a.hour.0 a.output.0 (a.output.0 + a.before.0) c.requires)))

pub put_field-requires : goal.put_field-requires
put_field-requires c =
    let a = c.args in
    let rest = field (a.output.0 + a.before.0) 10 in
    rw (c.from-3.ensures, c.from-4.ensures)
    (room_then (field a.output.0 32) rest (rw c.from-2.ensures at c.put_field-second.ensures)
    (room_then (field a.hour.0 32) (field a.output.0 32 ++ rest) (rw c.from.ensures at c.put_field-first.ensures)
    (room a.at a.hour.0 a.output.0 (a.output.0 + a.before.0) c.requires)))

pub returns : goal.returns
returns c =
    let a = c.args in
    let rest = field (a.output.0 + a.before.0) 10 in
    rw (hour_line_is a.hour.0 a.output.0 (a.output.0 + a.before.0))
    (puts_then (field a.hour.0 32) (field a.output.0 32 ++ rest) (rw c.from.ensures at c.put_field-first.ensures)
    (puts_then (field a.output.0 32) rest (rw c.from-2.ensures at c.put_field-second.ensures)
    (rw (c.from-3.ensures, c.from-4.ensures) at c.put_field.ensures)))
