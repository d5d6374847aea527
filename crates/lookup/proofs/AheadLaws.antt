-- What a choice looks at. Assumes nothing.
use mathlib.Core.Path.{◌≡◌, refl, sym, ap, subst}
use mathlib.Core.List.{List}
use Prim.Native.Nat.{ℕ, suc, ◌-◌, ◌*◌, ◌<◌}
use native.Mathlib.Omega.{arith}
use lib.IntN.{ℤ}
use Rattle.machine.specs.Lengths.{place_length}
use Rattle.machine.specs.declared.Unit.{Unit}
use Rattle.machine.specs.declared.State.{State}
use Rattle.machine.specs.Moves.{Tariff, machine, worth, chosen}
use Rattle.machine.specs.Fit.{Fit, Fair}
use Rattle.machine.specs.Search.{choice_at}
use Rattle.machine.proofs.Table.Choices.{choice_chosen}
use Rattle.cells.specs.Picks.{pick_of}
use Rattle.cells.specs.Table.{Row, Side, Ahead, cells_of}
use Rattle.cells.proofs.Ends.{sized_at}
use Rattle.slots.specs.Saved.{RowAt}
use Rattle.locks.specs.Locked.{lock_end}
use Rattle.locks.specs.Held.{Ready}

-- the end of the day
pub ahead_end : (u : Unit) (day : ℕ → Tariff) → Fit u → ((k : ℕ) → Fair (day k)) → (j : ℕ) {xs ys : List ℤ}
    → Row u (worth u day u.hours.0) (j - 1) (cells_of u) xs → Side u (worth u day u.hours.0) ys
    → Ahead u (worth u day u.hours.0) j xs ys
ahead_end u day fit fair j row side =
    let sized = sized_at u day fit fair u.hours.0 in
    record { across = record { sized = sized; row = row }; beside = λ few. record { sized = sized; side = side } }

-- the kept row of the hour after hour k, where a lock goes beyond it
pub row_after : (u : Unit) (day : ℕ → Tariff) (l k j c n : ℕ) {xs : List ℤ} → Ready u day l k j c xs → n ≡ suc k
    → n < lock_end u (suc k) (j - 1) → RowAt u (worth u day n) (j - 1) ((c - n - 1) * place_length) xs
row_after u day l k j c n {xs} ready e h =
    let (there, locked) = ready.locked (omega arith) in
    subst (λ (m : ℕ). RowAt u (worth u day m) (j - 1) ((c - m - 1) * place_length) xs) (sym e)
    (locked.at (suc k) (j - 1) (omega arith) there refl)

-- the choice that the machine makes in hour k
pub choice_told : (u v : Unit) (day : ℕ → Tariff) (t : Tariff) (k n : ℕ) (s : State) → v ≡ u → t ≡ day k → n ≡ suc k
    → pick_of (chosen v t (worth u day n) s) ≡ pick_of (choice_at (machine u day) k s)
choice_told u v day t k n s e f g = rw (e, f, g) (ap pick_of (sym (choice_chosen u day k s)))
