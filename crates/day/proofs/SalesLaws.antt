-- The profit of a day is what its energy is sold for, less what its energy, its hours on-line, its starts and its stops
-- cost. Assumes nothing.
use mathlib.Core.Path.{◌≡◌, sym, ap}
use mathlib.Core.List.{List}
use Prim.Native.Nat.{ℕ, zero, suc, ◌+◌, ◌*◌, ◌-◌}
use native.Mathlib.Omega.{arith}
use lib.IntN.{ℤ, pos, ◌+ℤ◌, ◌-ℤ◌, ◌*ℤ◌}
use Rattle.laws.proofs.Signed.{linear, parts_eq, parts_add, parts_sub, parts_mul, parts_pos, multiple_add, multiple__}
use Rattle.cases.specs.declared.Case.{Case}
use Rattle.cases.specs.Symbols.{sum, last, A, B, C, F, price}
use Rattle.day.specs.Marks.{p, v, y, z}
use Rattle.day.specs.Profit.{energy, charge, profit_at, profit_to, profit_of}
use Rattle.day.specs.Words.{sum_z, marking_of, earned}
use Rattle.cases.proofs.SymbolsLaws.{before_is}

-- what was earned, with what was spent on four accounts, is what was sold; so it is after one hour more
carried : (earned sold f a b d s f' a' b' d' : ℤ) → earned +ℤ (f +ℤ (a +ℤ (b +ℤ d))) ≡ sold
    → (earned +ℤ ((s -ℤ f') -ℤ (a' +ℤ (b' +ℤ d')))) +ℤ ((f +ℤ f') +ℤ ((a +ℤ a') +ℤ ((b +ℤ b') +ℤ (d +ℤ d'))))
    ≡ sold +ℤ s
carried earned sold f a b d s f' a' b' d' e =
    let hour = (s -ℤ f') -ℤ (a' +ℤ (b' +ℤ d')) in
    let all = (f +ℤ f') +ℤ ((a +ℤ a') +ℤ ((b +ℤ b') +ℤ (d +ℤ d'))) in
    omega (
      linear,
      parts_add b d,
      parts_add a (b +ℤ d),
      parts_add f (a +ℤ (b +ℤ d)),
      parts_add earned (f +ℤ (a +ℤ (b +ℤ d))),
      parts_sub s f',
      parts_add b' d',
      parts_add a' (b' +ℤ d'),
      parts_sub (s -ℤ f') (a' +ℤ (b' +ℤ d')),
      parts_add earned hour,
      parts_add f f',
      parts_add a a',
      parts_add b b',
      parts_add d d',
      parts_add (b +ℤ b') (d +ℤ d'),
      parts_add (a +ℤ a') ((b +ℤ b') +ℤ (d +ℤ d')),
      parts_add (f +ℤ f') ((a +ℤ a') +ℤ ((b +ℤ b') +ℤ (d +ℤ d'))),
      parts_add (earned +ℤ hour) all,
      parts_add sold s,
    )

-- twice a sum, so many times an amount
pub twice_add : (a : ℤ) (m n : ℕ) → a *ℤ pos (2 * (m + n)) ≡ a *ℤ pos (2 * m) +ℤ a *ℤ pos (2 * n)
twice_add a m n = let e : 2 * (m + n) ≡ 2 * m + 2 * n = omega arith in rw e (multiple_add a (2 * m) (2 * n))

none_of : (a : ℤ) → a *ℤ pos 0 ≡ pos 0
none_of a = parts_eq (a *ℤ pos 0) (pos 0) (omega (arith, parts_mul a 0, parts_pos 0))

module _ (c : Case) (l : List ℕ) where
  -- half-megawatt-hours of an hour, and what hours 1 to n sell them for and spend, in half-mills
  abbrev both : ℕ → ℕ
  both k = p c l k + p c l (k - 1)

  abbrev sold : ℕ → ℤ
  sold n = sum_z (λ k. price c k *ℤ pos (both k)) n

  abbrev spent : ℕ → ℤ
  spent n =
      F c *ℤ pos (sum both n)
      +ℤ (A c *ℤ pos (2 * sum (v c l) n) +ℤ (B c *ℤ pos (2 * sum (y c l) n) +ℤ C c *ℤ pos (2 * sum (z c l) n)))

  hour_sales : (k : ℕ)
      → profit_at c l k
      ≡ (price c k *ℤ pos (both k) -ℤ F c *ℤ pos (both k))
      -ℤ (A c *ℤ pos (2 * v c l k) +ℤ (B c *ℤ pos (2 * y c l k) +ℤ C c *ℤ pos (2 * z c l k)))
  unfolding profit_at energy charge
  hour_sales k =
      rw (sym (before_is k)) (ap (λ x. x -ℤ charge c l k) (multiple__ (price c k) (F c) (energy c l k)))

  sales_to : (n : ℕ) → profit_to c l n +ℤ spent n ≡ sold n
  unfolding profit_to sum sum_z
  sales_to zero = rw (none_of (F c), none_of (A c), none_of (B c), none_of (C c))
  sales_to (suc n) =
      let k = suc n in
      rw (
        hour_sales k,
        multiple_add (F c) (sum both n) (both k),
        twice_add (A c) (sum (v c l) n) (v c l k),
        twice_add (B c) (sum (y c l) n) (y c l k),
        twice_add (C c) (sum (z c l) n) (z c l k),
      )
      (carried (profit_to c l n) (sold n) (F c *ℤ pos (sum both n)) (A c *ℤ pos (2 * sum (v c l) n))
      (B c *ℤ pos (2 * sum (y c l) n)) (C c *ℤ pos (2 * sum (z c l) n)) (price c k *ℤ pos (both k))
      (F c *ℤ pos (both k)) (A c *ℤ pos (2 * v c l k)) (B c *ℤ pos (2 * y c l k)) (C c *ℤ pos (2 * z c l k))
      (sales_to n))

  profit_sales : profit_of c l ≡ sold (last c) -ℤ spent (last c)
  unfolding profit_of
  profit_sales =
      parts_eq (profit_to c l (last c)) (sold (last c) -ℤ spent (last c))
      (omega (
        linear,
        sales_to (last c),
        parts_add (profit_to c l (last c)) (spent (last c)),
        parts_sub (sold (last c)) (spent (last c)),
      ))

  pub profit_earned : profit_of c l ≡ earned c (marking_of c l)
  unfolding v
  profit_earned = profit_sales
