-- The digits of a number are those of its tenth, and its last digit. Assumes nothing.
use mathlib.Core.Path.{ap}
use mathlib.Core.List.{[], ◌∷◌}
use Prim.Native.Nat.{◌/◌, ◌%◌, ◌≤◌, ◌<◌}
use native.Mathlib.Omega.{arith}
use lib.ListN.{length, length-append}
use Rattle.model.specs.Printed.{glyph, decimal}
use Rattle.model.proofs.DecimalLaws.{decimal_one, decimal_more}
use Rattle.lines.proofs.PutsLaws.{puts_then, room_then}
use Rattle.lines.proofs.parts.+put_decimal.Goals as goal

pub put_digit-requires : goal.put_digit-requires
put_digit-requires t c =
    let small : c.args.n < 10 = c.if-n-lt10.true in
    (small, omega (arith, c.requires, ap length (decimal_one c.args.n small)))

pub returns-then-n-lt10 : goal.returns-then-n-lt10
returns-then-n-lt10 t c = rw (decimal_one c.args.n c.if-n-lt10.true) c.put_digit.ensures

pub put_decimal-next-requires : goal.put_decimal-next-requires
put_decimal-next-requires t c =
    let n = c.args.n in
    let large : 10 ≤ n = omega (arith, c.if-n-lt10.false) in (
      omega (arith, c.decreases),
      omega (
        arith,
        c.requires,
        ap length (decimal_more n large),
        length-append (decimal (n / 10)) (glyph (n % 10) ∷ []),
      ),
    )

pub put_digit-requires-2 : goal.put_digit-requires-2
put_digit-requires-2 t c =
    let n = c.args.n in
    let large : 10 ≤ n = omega (arith, c.if-n-lt10.false) in
    let tail = glyph (n % 10) ∷ [] in (
      omega arith,
      omega (
        arith,
        room_then (decimal (n / 10)) tail c.put_decimal-next.ensures (rw (← decimal_more n large) c.requires),
      ),
    )

pub returns : goal.returns
returns t c =
    let n = c.args.n in
    rw (decimal_more n (omega (arith, c.if-n-lt10.false)))
    (puts_then (decimal (n / 10)) (glyph (n % 10) ∷ []) c.put_decimal-next.ensures c.put_digit-2.ensures)
