-- Of the loop of `sides::store_worths`: the cells before c have what they should. Assumes nothing.
use Rattle.std.proofs.Common.{◌≡◌, ℕ, ◌≤◌, ◌<◌, ℤ}
use Rattle.quantities.specs.declared.HalfMills.{HalfMills}
use Rattle.window.specs.Rows.{Written}
use Rattle.sides.proofs.store_worths.Given as goal

abbrev pub invariant-loop-c : goal.invariant-loop-c
invariant-loop-c g l =
    (v : ℕ → ℤ)
    → ((c : ℕ) (r : HalfMills) → l.fn.a ≤ c → c < l.fn.b → goal.F-post g l.worth c r → r.0 ≡ v c)
    → Written l.initial.to l.to l.fn.a l.c v
