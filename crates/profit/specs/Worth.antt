-- An amount that is what it should be, and small, and what an hour's profit goes by. Definitions only. Assumes nothing.
use Rattle.std.specs.Prelude.{◌≡◌, List, ℕ, ◌*◌, ◌-◌, ◌≤◌, ◌<◌, ℤ, pos, nat_abs, ◌+ℤ◌, ◌-ℤ◌, ◌*ℤ◌}
use Rattle.cases.specs.declared.Case.{Case}
use Rattle.cases.specs.Symbols.{A, B, C, F, last, price}
use Rattle.day.specs.Marks.{p}
use Rattle.hours.specs.declared.marks.Marks.{Marks}

-- r is z, and at most n above or below 0
pub record Worth (z : ℤ) (n : ℕ) (r : ℤ) : Type 0 where
  pub is : r ≡ z
  pub most : nat_abs r ≤ n

-- what an hour costs beside F by its marks, in half-mills
abbrev pub charge_of : Case → Marks → ℤ
charge_of c m = A c *ℤ pos (2 * m.online) +ℤ (B c *ℤ pos (2 * m.start) +ℤ C c *ℤ pos (2 * m.stop))

-- over is what the price of hour k leaves above F, and the hour is from output q to r
pub record Hourly (c : Case) (l : List ℕ) (k : ℕ) (over : ℤ) (q r : ℕ) : Type 0 where
  pub some : 0 < k
  pub part : k ≤ last c
  pub margin : over ≡ price c k -ℤ F c
  pub was : q ≡ p c l (k - 1)
  pub is : r ≡ p c l k
