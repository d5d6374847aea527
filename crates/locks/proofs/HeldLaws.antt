-- What is kept from a later hour on. Assumes nothing.
use mathlib.Core.Path.{◌≡◌, subst}
use mathlib.Core.List.{List}
use Prim.Native.Nat.{ℕ, ◌≤◌}
use native.Mathlib.Omega.{arith}
use lib.IntN.{ℤ}
use Rattle.machine.specs.declared.Unit.{Unit}
use Rattle.machine.specs.Moves.{Tariff}
use Rattle.slots.proofs.SpannedLaws.{spanned_from}
use Rattle.locks.proofs.LockedLaws.{locked_from}
use Rattle.locks.specs.Held.{Holds, Free}

module _ (u : Unit) (day : ℕ → Tariff) where
  pub free_at : {a b : ℕ} (l c : ℕ) (xs : List ℤ) → a ≡ b → Free u day l a c xs → Free u day l b c xs
  free_at l c xs e f = subst (λ n. Free u day l n c xs) e f

  pub holds_from : {a b c : ℕ} (k : ℕ) {xs : List ℤ} → a ≤ k → Holds u day a b c xs → Holds u day k b c xs
  holds_from k h r =
      record {
        long = r.long;
        few = omega (arith, r.few);
        rows = λ e. locked_from u day k h (r.rows e);
        layers = λ e. spanned_from u day k h (r.layers e);
      }
