-- A list that is written place by place. Definitions only. Assumes nothing.
use Rattle.std.specs.Prelude.{◌≡◌, List, ℕ, ◌+◌, ◌≤◌, ◌<◌, length, get_or}

-- k is none of the places at + a, .., at + b − 1
abbrev pub Outside : ℕ → ℕ → ℕ → ℕ → Type 0
Outside k at a b = (j : ℕ) → a ≤ j → j < b → k ≡ at + j → ⊥

-- ys is xs but for the places at + a, .., at + b − 1, which hold v a, .., v (b − 1); d stands for what is past the end
pub record Part {A : Type 0} (d : A) (xs ys : List A) (at a b : ℕ) (v : ℕ → A) : Type 0 where
  pub long : length ys ≡ length xs
  pub done : (k : ℕ) → a ≤ k → k < b → get_or ys (at + k) d ≡ v k
  pub other : (k : ℕ) → Outside k at a b → get_or ys k d ≡ get_or xs k d
