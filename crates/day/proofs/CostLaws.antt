-- Profit by what an hour costs at its energy: by its sums over the day, and the plain profit by the table F·n + 2·A.
-- Assumes nothing.
use mathlib.Core.Path.{◌≡◌, refl, sym, ap, ◌∙◌}
use mathlib.Core.List.{List}
use Prim.Native.Nat.{ℕ, zero, suc, ◌+◌, ◌*◌, ◌-◌, ◌≤◌}
use native.Mathlib.Omega.{arith}
use lib.Dec.{T}
use lib.IntN.{ℤ, pos, ◌+ℤ◌, ◌-ℤ◌, ◌*ℤ◌, *ℤ-zero}
use Rattle.curve.specs.Cost.{most_energy}
use Rattle.laws.proofs.Signed.{linear, parts_eq, parts_add, parts_sub, multiple_add}
use Rattle.cases.specs.declared.Case.{Case}
use Rattle.cases.specs.Symbols.{sum, last, A, B, C, F, price}
use Rattle.day.specs.Marks.{p, v, y, z}
use Rattle.day.specs.Rules.{keeps}
use Rattle.day.specs.Profit.{energy, profit_of, profit_by_at, profit_by_to, profit_by, plain_cost}
use Rattle.cases.specs.Refusals.{refusal_of}
use Rattle.day.specs.Words.{sum_z, marking_of, earned_at}
use Rattle.cases.proofs.SymbolsLaws.{before_is}
use Rattle.cases.proofs.LimitsLaws.{limits_of_refusal_of}
use Rattle.day.proofs.MarksLaws.{v_le}
use Rattle.day.proofs.CapacityLaws.{p_le}
use Rattle.day.proofs.ProfitLaws.{energy_is, profit_by_at_is, profit_by_to_none, profit_by_to_more, profit_by_is}
use Rattle.day.proofs.ProfitLaws.{profit_by_plain}
use Rattle.day.proofs.SalesLaws.{twice_add}

-- what was earned, with what was spent on hours, starts and stops, is what was sold; so it is after one hour more
carried : (earned sold h o b d s x i b' d' : ℤ) → earned +ℤ ((h -ℤ o) +ℤ (b +ℤ d)) ≡ sold
    → (earned +ℤ ((s -ℤ (x -ℤ i)) -ℤ (b' +ℤ d'))) +ℤ (((h +ℤ x) -ℤ (o +ℤ i)) +ℤ ((b +ℤ b') +ℤ (d +ℤ d'))) ≡ sold +ℤ s
carried earned sold h o b d s x i b' d' e =
    let hour = (s -ℤ (x -ℤ i)) -ℤ (b' +ℤ d') in
    let spent = (h +ℤ x) -ℤ (o +ℤ i) in
    let rest = (b +ℤ b') +ℤ (d +ℤ d') in
    omega (
      linear,
      parts_sub h o,
      parts_add b d,
      parts_add (h -ℤ o) (b +ℤ d),
      parts_add earned ((h -ℤ o) +ℤ (b +ℤ d)),
      parts_sub x i,
      parts_sub s (x -ℤ i),
      parts_add b' d',
      parts_sub (s -ℤ (x -ℤ i)) (b' +ℤ d'),
      parts_add earned hour,
      parts_add h x,
      parts_add o i,
      parts_sub (h +ℤ x) (o +ℤ i),
      parts_add b b',
      parts_add d d',
      parts_add (b +ℤ b') (d +ℤ d'),
      parts_add spent rest,
      parts_add (earned +ℤ hour) (spent +ℤ rest),
      parts_add sold s,
    )

module _ (cost : ℕ → ℤ) (c : Case) (l : List ℕ) where
  -- half-megawatt-hours of an hour; what hours 1 to n sell them for, how many of them are off-line, and what is spent
  abbrev both : ℕ → ℕ
  both k = p c l k + p c l (k - 1)

  abbrev sold : ℕ → ℤ
  sold n = sum_z (λ k. price c k *ℤ pos (both k)) n

  abbrev offline : ℕ → ℕ
  offline n = n - sum (v c l) n

  abbrev spent : ℕ → ℤ
  spent n =
      (sum_z (λ k. cost (both k)) n -ℤ cost 0 *ℤ pos (offline n))
      +ℤ (B c *ℤ pos (2 * sum (y c l) n) +ℤ C c *ℤ pos (2 * sum (z c l) n))

  online_le : (n : ℕ) → sum (v c l) n ≤ n
  unfolding sum
  online_le zero = omega arith
  online_le (suc n) = omega (arith, online_le n, v_le c l (suc n))

  hour_sales : (k : ℕ) → profit_by_at cost c l k
      ≡ (price c k *ℤ pos (both k) -ℤ (cost (both k) -ℤ cost 0 *ℤ pos (1 - v c l k)))
      -ℤ (B c *ℤ pos (2 * y c l k) +ℤ C c *ℤ pos (2 * z c l k))
  hour_sales k =
      let e : energy c l k ≡ both k = rw (sym (before_is k)) (energy_is c l k) in
      rw (← e) (profit_by_at_is cost c l k)

  offline_more : (n : ℕ) → offline (suc n) ≡ offline n + (1 - v c l (suc n))
  unfolding sum
  offline_more n = omega (arith, online_le n, v_le c l (suc n))

  sales_to : (n : ℕ) → profit_by_to cost c l n +ℤ spent n ≡ sold n
  unfolding sum sum_z
  sales_to zero = rw (profit_by_to_none cost c l, *ℤ-zero (cost 0), *ℤ-zero (B c), *ℤ-zero (C c)) refl
  sales_to (suc n) =
      let k = suc n in
      rw (
        profit_by_to_more cost c l n,
        hour_sales k,
        offline_more n,
        multiple_add (cost 0) (offline n) (1 - v c l k),
        twice_add (B c) (sum (y c l) n) (y c l k),
        twice_add (C c) (sum (z c l) n) (z c l k),
      )
      (carried (profit_by_to cost c l n) (sold n) (sum_z (λ k. cost (both k)) n) (cost 0 *ℤ pos (offline n))
      (B c *ℤ pos (2 * sum (y c l) n)) (C c *ℤ pos (2 * sum (z c l) n)) (price c k *ℤ pos (both k)) (cost (both k))
      (cost 0 *ℤ pos (1 - v c l k)) (B c *ℤ pos (2 * y c l k)) (C c *ℤ pos (2 * z c l k)) (sales_to n))

  pub profit_by_earned : profit_by cost c l ≡ earned_at cost c (marking_of c l)
  unfolding v
  profit_by_earned =
      profit_by_is cost c l
      ∙ parts_eq (profit_by_to cost c l (last c)) (sold (last c) -ℤ spent (last c))
      (omega (
        linear,
        sales_to (last c),
        parts_add (profit_by_to cost c l (last c)) (spent (last c)),
        parts_sub (sold (last c)) (spent (last c)),
      ))

-- costs that agree on the energies of the day give the same profit
module _ (f g : ℕ → ℤ) (c : Case) (l : List ℕ) (none : f 0 ≡ g 0)
    (same : (k : ℕ) → k ≤ last c → f (energy c l k) ≡ g (energy c l k)) where
  profit_by_to_same : (n : ℕ) → n ≤ last c → profit_by_to f c l n ≡ profit_by_to g c l n
  profit_by_to_same zero h = profit_by_to_none f c l ∙ sym (profit_by_to_none g c l)
  profit_by_to_same (suc n) h =
      let hour : profit_by_at f c l (suc n) ≡ profit_by_at g c l (suc n) =
      rw (profit_by_at_is f c l (suc n), profit_by_at_is g c l (suc n), same (suc n) h, none) refl in
      rw (profit_by_to_more f c l n, profit_by_to_more g c l n, profit_by_to_same n (omega arith), hour) refl

  pub profit_by_same : profit_by f c l ≡ profit_by g c l
  profit_by_same = profit_by_is f c l ∙ profit_by_to_same (last c) (omega arith) ∙ sym (profit_by_is g c l)

-- the energy of an hour of a list that keeps the rules
pub energy_le : (c : Case) → refusal_of c ≡ 0 → (l : List ℕ) → T (keeps c l) → (k : ℕ) → k ≤ last c
    → energy c l k ≤ most_energy
energy_le c e l t k h =
    let lim = limits_of_refusal_of c e in
    let now = p_le c lim l t k h in
    let was = p_le c lim l t (k - 1) (omega arith) in
    omega (arith, energy_is c l k, ap (p c l) (before_is k), now, was, lim.capacity_le)

pub plain_table : (cost : ℕ → ℤ) (c : Case) (l : List ℕ) → refusal_of c ≡ 0
    → ((n : ℕ) → n ≤ most_energy → cost n ≡ F c *ℤ pos n +ℤ A c *ℤ pos 2) → T (keeps c l)
    → profit_by cost c l ≡ profit_of c l
unfolding plain_cost
plain_table cost c l e same t =
    profit_by_same cost (plain_cost c) c l (same 0 (omega arith)) (λ k h. same (energy c l k) (energy_le c e l t k h))
    ∙ profit_by_plain c l
