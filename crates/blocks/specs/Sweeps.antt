-- A row after the step by a cost table: window's answers, with the number at each place lowered by the table's entry
-- for the two places together. Definitions only. Assumes nothing.
use Rattle.std.specs.Prelude.{◌≡◌, cond, List, ℕ, ◌+◌, ◌-◌, ◌<◌, ltb, ℤ, pos, length, get_or}
use Rattle.laws.specs.Range.{largest}
use Rattle.machine.specs.Coded.{missing}
use Rattle.window.specs.Rows.{sloped, settled}
use Rattle.blocks.specs.Offers.{offered}

-- what place q of n offers to place i; missing past the last of them
unfoldable pub reduced : List ℤ → List ℤ → ℕ → ℕ → ℕ → ℕ → ℤ
reduced xs costs base n i q = cond (ltb q n) (offered xs costs (base + i) q) missing

-- what place i gets: the most that the places i − rd to i + ru offer to it, with the line added
abbrev pub swept_at : List ℤ → List ℤ → ℕ → ℕ → ℕ → ℕ → ℤ → ℤ → ℕ → ℤ
swept_at xs costs base n rd ru first slope i =
    settled (sloped first slope i) (largest missing (reduced xs costs base n i) (i - rd) (i + ru + 1))

-- each place of n holds its answer
pub record Swept (xs ys costs : List ℤ) (base n rd ru : ℕ) (first slope : ℤ) : Type 0 where
  pub long : length ys ≡ length xs
  pub at : (i : ℕ) → i < n → get_or ys i (pos 0) ≡ swept_at xs costs base n rd ru first slope i
