-- What a place of a row offers by a table of costs. Definitions only. Assumes nothing.
use Rattle.std.specs.Prelude.{ℕ, ◌+◌, ◌≤◌, ◌<◌, List, ℤ, pos, nat_abs, ◌+ℤ◌, ◌-ℤ◌, length, ◌≤ℤ◌}
use Rattle.machine.specs.Bounds.{most_energy, most_cost}
use Rattle.window.specs.Rows.{cells, room}

-- half-mills: what a table may lack to bending upwards
abbrev pub slack : ℕ
slack = 2

-- a table of what an hour costs by its energy: it bends upwards, but for the slack
pub record Bent (costs : List ℤ) : Type 0 where
  pub long : most_energy < length costs
  pub cost_le : (e : ℕ) → nat_abs (cells costs e) ≤ most_cost
  pub bent : (x s t : ℕ) → x + s + t ≤ most_energy
      → (cells costs (x + s) +ℤ cells costs (x + t)) ≤ℤ (cells costs x +ℤ cells costs (x + s + t) +ℤ pos slack)

-- the number at place q, lowered by the table's entry q places from `at` on
unfoldable pub offered : List ℤ → List ℤ → ℕ → ℕ → ℤ
offered xs costs at q = cells xs q -ℤ cells costs (at + q)

-- the size of an offer, at the most
abbrev pub offer_room : ℕ
offer_room = room + most_cost
