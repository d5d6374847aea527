-- Energy and profit, from (14) to (16) of document 000 (document 01, "Rules of a list"), and profit by a table of costs
-- (request F-7). Definitions only. Assumes nothing.
use Rattle.std.specs.Prelude.{List, ℕ, zero, suc, ◌+◌, ◌*◌, ◌-◌, ℤ, pos, ◌+ℤ◌, ◌-ℤ◌, ◌*ℤ◌}
use Rattle.cases.specs.declared.Case.{Case}
use Rattle.cases.specs.Symbols.{before, last, A, B, C, F, price}
use Rattle.day.specs.Marks.{p, v, y, z}

module _ (c : Case) (l : List ℕ) where
  -- the energy of hour k in half-megawatt-hours: twice the mean of the outputs at its ends
  unfoldable pub energy : ℕ → ℕ
  energy k = p c l k + p c l (before k)

  -- what hour k costs beside F, in half-mills: 2·A·v(k) + 2·B·y(k) + 2·C·z(k)
  unfoldable pub charge : ℕ → ℤ
  charge k = A c *ℤ pos (2 * v c l k) +ℤ (B c *ℤ pos (2 * y c l k) +ℤ C c *ℤ pos (2 * z c l k))

  -- the profit of hour k, in half-mills
  unfoldable pub profit_at : ℕ → ℤ
  profit_at k = (price c k -ℤ F c) *ℤ pos (energy k) -ℤ charge k

  -- the profit of hours 1 to n, in half-mills
  unfoldable pub profit_to : ℕ → ℤ
  profit_to zero = pos 0
  profit_to (suc n) = profit_to n +ℤ profit_at (suc n)

  -- the profit of the day, in half-mills
  unfoldable pub profit_of : ℤ
  profit_of = profit_to (last c)

-- by what an hour costs at n half-megawatt-hours, in half-mills, in place of 2·A·v + F·n
module _ (cost : ℕ → ℤ) (c : Case) (l : List ℕ) where
  -- the cost of hour k; off-line, in the hour of a stop too, that of no energy is taken off
  unfoldable pub cost_of_hour : ℕ → ℤ
  cost_of_hour k = cost (energy c l k) -ℤ cost 0 *ℤ pos (1 - v c l k)

  -- the profit of hour k, of hours 1 to n and of the day, in half-mills
  unfoldable pub profit_by_at : ℕ → ℤ
  profit_by_at k =
      (price c k *ℤ pos (energy c l k) -ℤ cost_of_hour k) -ℤ (B c *ℤ pos (2 * y c l k) +ℤ C c *ℤ pos (2 * z c l k))

  unfoldable pub profit_by_to : ℕ → ℤ
  profit_by_to zero = pos 0
  profit_by_to (suc n) = profit_by_to n +ℤ profit_by_at (suc n)

  unfoldable pub profit_by : ℤ
  profit_by = profit_by_to (last c)

-- what an hour on-line costs without a table
unfoldable pub plain_cost : Case → ℕ → ℤ
plain_cost c n = F c *ℤ pos n +ℤ A c *ℤ pos 2
