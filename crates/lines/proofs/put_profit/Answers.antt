-- The line is a word, a sign and a field. Assumes nothing.
use Rattle.std.proofs.Common.{arith, refl, ap, ℕ, [], ◌∷◌, ◌++◌, ◌+◌, ◌≤◌, ◌≡◌, length, ℤ}
use lib.IntN.{nat_abs}
use Rattle.model.specs.Printed.{decimal, sign, profit_line}
use Rattle.model.proofs.PrintedLaws.{profit_word, profit_line_is}
use Rattle.lines.proofs.PutsLaws.{puts_then, room_first, room_then}
use Rattle.lines.proofs.put_profit.Goals as goal

-- the word, the sign and the field have room
room : (v : ℤ) (m : ℕ) {n : ℕ} → m ≡ nat_abs v → length (profit_line v) ≤ n
    → 0 + length (profit_word ++ (sign v ++ (decimal m ++ 10 ∷ []))) ≤ n
room v m e h = omega (arith, ap length (profit_line_is v m e))

pub put-word-requires : goal.put-word-requires
put-word-requires c = omega (arith, room c.args.v.0 (nat_abs c.args.v.0) refl c.requires)

pub put_sign-at-requires : goal.put_sign-at-requires
put_sign-at-requires c =
    let v = c.args.v.0 in
    let rest = decimal (nat_abs v) ++ 10 ∷ [] in
    room_first (sign v) rest c.put-word.result (length c.put-word.new.out)
    (room_then profit_word (sign v ++ rest) c.put-word.ensures (room v (nat_abs v) refl c.requires))

pub put_field-requires : goal.put_field-requires
put_field-requires c =
    let v = c.args.v.0 in
    let m = c.magnitude in
    let rest = decimal m.result ++ 10 ∷ [] in
    room_then (sign v) rest c.put_sign-at.ensures
    (room_then profit_word (sign v ++ rest) c.put-word.ensures (room v m.result m.ensures c.requires))

pub returns : goal.returns
returns c =
    let v = c.args.v.0 in
    let m = c.magnitude in
    let rest = decimal m.result ++ 10 ∷ [] in
    rw (profit_line_is v m.result m.ensures)
    (puts_then profit_word (sign v ++ rest) c.put-word.ensures
    (puts_then (sign v) rest c.put_sign-at.ensures c.put_field.ensures))
