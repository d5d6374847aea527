-- The join of a function's values over a range, and the largest of numbers over a range. Definitions only. Assumes
-- nothing.
use Rattle.std.specs.Prelude.{cond, ℕ, zero, suc, ◌+◌, ◌-◌, ℤ}
use Rattle.std.specs.Int.Signed.{lt_z}

-- f at a, a + 1, .., a + m − 1, joined from the left; the unit for no place
unfoldable pub over : {A : Type 0} → (A → A → A) → A → (ℕ → A) → ℕ → ℕ → A
over join unit f a zero = unit
over join unit f a (suc m) = join (over join unit f a m) (f (a + m))

-- the larger of two numbers
unfoldable pub larger : ℤ → ℤ → ℤ
larger a b = cond (lt_z a b) b a

-- the largest of f at a, .., b − 1, and the floor where all are below it or there is no place
abbrev pub largest : ℤ → (ℕ → ℤ) → ℕ → ℕ → ℤ
largest floor f a b = over larger floor f a (b - a)
