-- What is kept of the hours ahead. Definitions only. Assumes nothing.
use Rattle.std.specs.Prelude.{◌≡◌, List, ℕ, suc, ◌+◌, ◌-◌, ◌*◌, ◌≤◌, ◌<◌, length, ℤ}
use Rattle.machine.specs.Lengths.{most_places, kept_length}
use Rattle.machine.specs.declared.Unit.{Unit}
use Rattle.machine.specs.Moves.{Tariff}
use Rattle.slots.specs.Saved.{slot_from}
use Rattle.slots.specs.Spanned.{Spanned}
use Rattle.locks.specs.Locked.{Locked, lock_end}

-- of the hours from a to before c: the rows of a lock that ends at hour b or, where b is 0, the layers
pub record Holds (u : Unit) (day : ℕ → Tariff) (a b c : ℕ) (xs : List ℤ) : Type 0 where
  pub long : length xs ≡ kept_length
  pub few : c ≤ a + most_places
  pub rows : 1 ≤ b → Locked u day a c b xs
  pub layers : b ≡ 0 → Spanned u day a c xs

-- the layer of hour a is there, unless it has a slot or the day is over
abbrev pub Free : Unit → (ℕ → Tariff) → ℕ → ℕ → ℕ → List ℤ → Type 0
Free u day l a c xs = a < u.hours.0 → (slot_from l a * l ≡ a → ⊥) → (a < c) × Spanned u day a c xs

-- what the choice of hour k looks at in a state with j hours to go before a stop may begin: the row of its lock, or the
-- layer
pub record Ready (u : Unit) (day : ℕ → Tariff) (l k j c : ℕ) (xs : List ℤ) : Type 0 where
  pub long : length xs ≡ kept_length
  pub few : c ≤ suc k + most_places
  pub locked : suc k < lock_end u (suc k) (j - 1) → (suc k < c) × Locked u day (suc k) c (lock_end u (suc k) (j - 1)) xs
  pub free : lock_end u (suc k) (j - 1) ≤ suc k → Free u day l (suc k) c xs
