-- The answers of a block, place by place. Definitions only. Assumes nothing.
use Rattle.std.specs.Prelude.{◌≡◌, List, ℕ, ◌+◌, ◌-◌, ◌≤◌, ◌<◌, ℤ}
use Rattle.laws.specs.Range.{largest}
use Rattle.machine.specs.Coded.{missing}
use Rattle.money.specs.Amount.{amount_at}
use Rattle.window.specs.Rows.{Written, cells, sloped, answer, Sized}

-- the block that starts at a, with the answers up to before i in ys: xs is the row as it was, ts the scratch row with
-- the suffixes before a + ru + 1, `top` the largest from there to i + ru, `line` the line's amount at i
pub record Slides (xs : List ℤ) (first slope : ℤ) (n rd ru a : ℕ) (ys ts : List ℤ) (i : ℕ) (top line : ℤ) : Type 0 where
  pub low : a ≤ i
  pub part : Written xs ys 0 i (answer xs n rd ru first slope)
  pub tails : a < n → (k : ℕ) → a - rd ≤ k → k < a + ru + 1 → k < n
      → cells ts k ≡ largest missing (amount_at xs n) k (a + ru + 1)
  pub tops : top ≡ largest missing (amount_at xs n) (a + ru + 1) (i + ru + 1)
  pub lines : line ≡ sloped first slope i

-- the places of some row and some block are answered up to before i, and those up to before z can be
pub record Sliding (ys ts : List ℤ) (n rd ru : ℕ) (slope : ℤ) (z i : ℕ) (top line : ℤ) : Type 0 where
  pub row : List ℤ
  pub first : ℤ
  pub start : ℕ
  pub slides : Slides row first slope n rd ru start ys ts i top line
  pub near : z ≤ start + (ru + rd + 1)
  pub within : z ≤ n
  pub sized : Sized row n rd ru first slope

-- whatever the row and the block, they are answered up to before j once they were up to before i
abbrev pub Carried : List ℤ → List ℤ → List ℤ → ℕ → ℕ → ℕ → ℤ → ℕ → ℕ → ℤ → ℤ → ℕ → ℤ → ℤ → Type 0
Carried ys zs ts n rd ru slope z i top line j new_top new_line =
    (s : Sliding ys ts n rd ru slope z i top line)
    → Slides s.row s.first slope n rd ru s.start zs ts j new_top new_line
