-- `curves::split::split_of` meets its contract: where the entries lie on a line that a case's own costs could be, rates
-- say what they say. Assumes nothing.
use Rattle.std.proofs.Common.{arith, sym, ◌≡◌, ◌≤◌, ◌∙◌, Bool, false, ℤ, nat_abs, is_lt, int_cmp}
use lib.IntN.{pos}
use mir.Syntax.{w64}
use mir.Val.{SFits}
use mir.Facts.{to_z-of_z}
use Rattle.laws.proofs.Signed.{linear, parts_pos}
use Rattle.laws.proofs.Magnitude.{abs_bound, fits_of_abs}
use Rattle.cases.specs.Limits.{most_variable}
use Rattle.money.proofs.OrderLaws.{below}
use Rattle.curves.proofs.SplitLaws.{even_pays, whole_shown, fits_32}
use Rattle.curves.proofs.split.split_of.Goals as goal

-- the step is a cost that a case may have
small : (x : ℤ) {s t : Bool} → s ≡ is_lt (int_cmp x (pos 0)) → t ≡ is_lt (int_cmp (pos most_variable) x) → s ≡ false
    → t ≡ false → nat_abs x ≤ most_variable
small x e f s t =
    let low = sym (below x (pos 0)) ∙ sym e ∙ s in
    let high = sym (below (pos most_variable) x) ∙ sym f ∙ t in
    abs_bound x most_variable (omega (linear, low, high, parts_pos most_variable))
    (omega (linear, low, high, parts_pos 0))

pub returns-then-lt : goal.returns-then-lt
returns-then-lt c = whole_shown c.requires.1 c.by_table.ensures

pub returns-then-lt-2 : goal.returns-then-lt-2
returns-then-lt-2 c = whole_shown c.requires.1 c.by_table-then-lt-2.ensures

pub overflow_cast-variable : goal.overflow_cast-variable
overflow_cast-variable c =
    let x = c.step_at-step.result.0 in
    let le = small x c.lt.ensures c.lt-2.ensures c.if-lt.false c.if-lt-2.false in
    let long : SFits w64 x = fits_of_abs _ (omega arith) in
    rw (to_z-of_z long) (fits_32 x le)

pub returns-then-even : goal.returns-then-even
returns-then-even c =
    let x = c.step_at-step.result.0 in
    let le = small x c.lt.ensures c.lt-2.ensures c.if-lt.false c.if-lt-2.false in
    let long : SFits w64 x = fits_of_abs _ (omega arith) in (
      omega arith,
      rw (to_z-of_z long, to_z-of_z (fits_32 x le), c.value_at-holds.ensures)
          (even_pays x c.requires.0 le (c.even.ensures c.if-even.true)),
    )

pub returns : goal.returns
returns c = whole_shown c.requires.1 c.by_table-2.ensures
