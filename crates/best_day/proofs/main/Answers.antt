-- The text has room in the bytes that `best_day::main` lends. Assumes nothing.
use mathlib.Core.Path.{◌≡◌, refl, ap}
use mathlib.Core.Bool.{Bool, true, false}
use mathlib.Core.List.{List}
use Prim.Native.Nat.{ℕ, ◌≤◌}
use native.Mathlib.Omega.{arith}
use borrow.Author.Tests.{ltb-true, ltb-false}
use lib.Dec.{ltb}
use lib.ListN.{length, length-take}
use Rattle.model.specs.Printed.{printed_of, printing_of}
use Rattle.model.proofs.PrintedLaws.{printing_of_short, printing_of_done}
use Rattle.best_day.proofs.main.Goals as goal
use Rattle.std.specs.Prelude.{Result, Ok}
use Rattle.quantities.specs.declared.Refusal.{Refusal}

-- bytes that were written are those of the text, and have room in the bytes that were lent
written_le : (input lent : List ℕ) {w : Result ℕ Refusal} {n : ℕ} → w ≡ (printing_of input lent).answer → w ≡ Ok n
    → n ≤ length lent
written_le input lent {w} {n} a b = go (ltb (length lent) (length (printed_of input))) refl
  where
    size : ℕ
    size = length (printed_of input)

    go : (t : Bool) → ltb (length lent) size ≡ t → n ≤ length lent
    go true e =
        let d = ap (λ x. x.answer) (printing_of_short input lent (ltb-true (length lent) size e)) in
        let u : ◌≡◌ {A = ℕ} 0 1 = cc in
        absurd (omega arith)
    go false e =
        let d = ap (λ x. x.answer) (printing_of_done input lent (ltb-false (length lent) size e)) in
        let s : n ≡ size = cc in
        omega (arith, s, ltb-false (length lent) size e)

pub slice_bounds-text-end : goal.slice_bounds-text-end
slice_bounds-text-end c =
    omega (arith, written_le _ _ c.print.ensures.value c.in-Ok.is, c.print.auto.text)

pub slice_bounds-write_all-end : goal.slice_bounds-write_all-end
slice_bounds-write_all-end c =
    let n = c.in-Ok.length in
    let left = c.print.new.text in
    omega (
      arith,
      length-take n left,
      written_le _ _ c.print.ensures.value c.in-Ok.is,
      c.print.auto.text,
    )
