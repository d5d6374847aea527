-- Layers of hours in a row, in places. Definitions only. Assumes nothing.
use Rattle.std.specs.Prelude.{◌≡◌, List, ℕ, ◌-◌, ◌*◌, ◌≤◌, ◌<◌, length, ℤ}
use Rattle.machine.specs.Lengths.{place_length, kept_length}
use Rattle.machine.specs.declared.Unit.{Unit}
use Rattle.machine.specs.Moves.{Tariff, worth}
use Rattle.slots.specs.Saved.{SavedAt}

-- the layers of the hours from a to before c, each in the place that its distance from c gives
pub record Spanned (u : Unit) (day : ℕ → Tariff) (a c : ℕ) (xs : List ℤ) : Type 0 where
  pub long : length xs ≡ kept_length
  pub at : (h : ℕ) → a ≤ h → h < c → SavedAt u (worth u day h) ((c - h - 1) * place_length) xs
