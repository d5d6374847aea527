-- The marks of an hour by the outputs at its ends. Definitions only. Assumes nothing.
use Rattle.std.specs.Prelude.{◌≡◌, ℕ, ◌≤◌, ◌<◌}
use Rattle.hours.specs.declared.marks.Marks.{Marks}

-- r is 1 where the unit is on-line at output p, else 0
pub record Online (p r : ℕ) : Type 0 where
  pub on : 0 < p → r ≡ 1
  pub off : p ≡ 0 → r ≡ 0
  pub most : r ≤ 1

-- of the marks a and b of two outputs, r is 1 where the unit is off-line at the first and on-line at the second, else 0
pub record Began (a b r : ℕ) : Type 0 where
  pub off : a ≡ 0 → r ≡ b
  pub on : 0 < a → r ≡ 0
  pub most : r ≤ b

-- the marks of an hour from output q to p
pub record Marked (q p : ℕ) (m : Marks) : Type 0 where
  pub online : Online p m.online
  pub wasonline : Online q m.wasonline
  pub start : Began m.wasonline m.online m.start
  pub stop : Began m.online m.wasonline m.stop
