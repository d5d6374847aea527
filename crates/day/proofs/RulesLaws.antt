-- The hours since the latest mark (document 01, "Rules of a list"): with no hour yet, after a mark, and after an hour
-- without one. Assumes nothing.
use mathlib.Core.Path.{◌≡◌, refl, ap}
use mathlib.Core.Bool.{cond}
use Prim.Native.Nat.{ℕ, suc, ◌+◌, ◌-◌}
use native.Mathlib.Omega.{arith}
use borrow.Author.Tests.{eq-eqb, ne_eqb}
use Rattle.day.specs.Rules.{hours_since}

module _ (held : ℕ) (f : ℕ → ℕ) (n : ℕ) where
  pub hours_since_zero : hours_since held f n 0 ≡ held + n - 1
  unfolding hours_since
  hours_since_zero = refl

  pub hours_since_mark : (k : ℕ) → f (suc k) ≡ 1 → hours_since held f n (suc k) ≡ n - suc k
  unfolding hours_since
  hours_since_mark k e = ap (λ b. cond b (n - suc k) (hours_since held f n k)) (eq-eqb (f (suc k)) 1 e)

  pub hours_since_none : (k : ℕ) → f (suc k) ≡ 0 → hours_since held f n (suc k) ≡ hours_since held f n k
  unfolding hours_since
  hours_since_none k e =
      ap (λ b. cond b (n - suc k) (hours_since held f n k)) (ne_eqb (f (suc k)) 1 (λ q. omega arith))
