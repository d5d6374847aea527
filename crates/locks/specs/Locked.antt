-- Rows of a lock in lent numbers. Definitions only. Assumes nothing.
use Rattle.std.specs.Prelude.{◌≡◌, List, ℕ, ◌+◌, ◌-◌, ◌*◌, ◌≤◌, ◌<◌, min, length, ℤ}
use Rattle.machine.specs.Lengths.{place_length, kept_length}
use Rattle.machine.specs.declared.Unit.{Unit}
use Rattle.machine.specs.Moves.{Tariff, worth}
use Rattle.slots.specs.Saved.{RowAt}

-- the hour at which a lock with j hours to go ends, from hour k on; the end of the day cuts it
abbrev pub lock_end : Unit → ℕ → ℕ → ℕ
lock_end u k j = min (k + j) u.hours.0

-- the rows of a lock that ends at hour b, of the hours from a to before c: each in the place that its distance from c
-- gives
pub record Locked (u : Unit) (day : ℕ → Tariff) (a c b : ℕ) (xs : List ℤ) : Type 0 where
  pub long : length xs ≡ kept_length
  pub at : (h j : ℕ) → a ≤ h → h < c → b ≡ lock_end u h j → RowAt u (worth u day h) j ((c - h - 1) * place_length) xs
