-- Laws of energy and profit: each as its sum, and the day hour by hour. Assumes nothing.
use mathlib.Core.Path.{◌≡◌, refl, sym, ap, ◌∙◌}
use mathlib.Core.List.{List}
use Prim.Native.Nat.{ℕ, zero, suc, ◌+◌, ◌*◌, ◌-◌, ◌≤◌}
use native.Mathlib.Numerals.{add-one}
use native.Mathlib.Omega.{arith}
use lib.IntN.{ℤ, pos, one, ◌+ℤ◌, ◌-ℤ◌, ◌*ℤ◌, *ℤ-one, *ℤ-zero, +ℤ_idl}
use Rattle.cases.specs.declared.Case.{Case}
use Rattle.cases.specs.Symbols.{before, last, A, B, C, F, price}
use Rattle.day.specs.Marks.{p, v, y, z}
use Rattle.day.specs.Profit.{energy, charge, profit_at, profit_to, profit_of}
use Rattle.day.specs.Profit.{cost_of_hour, profit_by_at, profit_by_to, profit_by, plain_cost}
use Rattle.laws.proofs.Signed.{linear, parts_add, parts_sub, multiple__, less_self, less_none}
use Rattle.day.proofs.MarksLaws.{v_le}

module _ (c : Case) (l : List ℕ) where
  pub energy_is : (k : ℕ) → energy c l k ≡ p c l k + p c l (before k)
  unfolding energy
  energy_is k = refl

  pub charge_is : (k : ℕ)
      → charge c l k ≡ A c *ℤ pos (2 * v c l k) +ℤ (B c *ℤ pos (2 * y c l k) +ℤ C c *ℤ pos (2 * z c l k))
  unfolding charge
  charge_is k = refl

  pub profit_at_is : (k : ℕ) → profit_at c l k ≡ (price c k -ℤ F c) *ℤ pos (energy c l k) -ℤ charge c l k
  unfolding profit_at
  profit_at_is k = refl

  pub profit_to_none : profit_to c l 0 ≡ pos 0
  unfolding profit_to
  profit_to_none = refl

  pub profit_to_more : (n : ℕ) → profit_to c l (n + 1) ≡ profit_to c l n +ℤ profit_at c l (n + 1)
  unfolding profit_to
  profit_to_more n = rw add-one refl

  pub profit_of_is : profit_of c l ≡ profit_to c l (last c)
  unfolding profit_of
  profit_of_is = refl

  -- the same from numbers that are known to be the hour's
  pub charge_of : (k : ℕ) {a b d : ℤ} {f g h : ℕ} → a ≡ A c *ℤ pos (2 * f) → b ≡ B c *ℤ pos (2 * g)
      → d ≡ C c *ℤ pos (2 * h) → f ≡ v c l k → g ≡ y c l k → h ≡ z c l k → a +ℤ (b +ℤ d) ≡ charge c l k
  charge_of k {a} {b} {d} {f} {g} {h} ea eb ed ef eg eh = rw (ea, eb, ed, ef, eg, eh, charge_is k) refl

  pub profit_of_parts : (k : ℕ) {m g r : ℤ} {e : ℕ} → m ≡ price c k -ℤ F c → e ≡ energy c l k → g ≡ m *ℤ pos e
      → r ≡ charge c l k → g -ℤ r ≡ profit_at c l k
  profit_of_parts k {m} {g} {r} {e} em ee eg er = rw (eg, em, er, ee, profit_at_is k) refl

-- ---- by what an hour costs
module _ (cost : ℕ → ℤ) (c : Case) (l : List ℕ) where
  pub profit_by_at_is : (k : ℕ) → profit_by_at cost c l k
      ≡ (price c k *ℤ pos (energy c l k) -ℤ (cost (energy c l k) -ℤ cost 0 *ℤ pos (1 - v c l k)))
      -ℤ (B c *ℤ pos (2 * y c l k) +ℤ C c *ℤ pos (2 * z c l k))
  unfolding profit_by_at cost_of_hour
  profit_by_at_is k = refl

  pub profit_by_to_none : profit_by_to cost c l 0 ≡ pos 0
  unfolding profit_by_to
  profit_by_to_none = refl

  pub profit_by_to_more : (n : ℕ) → profit_by_to cost c l (suc n) ≡ profit_by_to cost c l n +ℤ profit_by_at cost c l (suc n)
  unfolding profit_by_to
  profit_by_to_more n = refl

  pub profit_by_is : profit_by cost c l ≡ profit_by_to cost c l (last c)
  unfolding profit_by
  profit_by_is = refl

-- without a table the profit is the same
-- twice A, off-line taken off
held : (a : ℤ) (n : ℕ) → n ≤ 1 → a *ℤ pos 2 -ℤ (a *ℤ pos 2) *ℤ pos (1 - n) ≡ a *ℤ pos (2 * n)
unfolding one
held a zero h =
    ap (λ m. a *ℤ pos 2 -ℤ m) (*ℤ-one (a *ℤ pos 2)) ∙ less_self (a *ℤ pos 2) ∙ sym (*ℤ-zero a)
held a (suc zero) h = ap (λ m. a *ℤ pos 2 -ℤ m) (*ℤ-zero (a *ℤ pos 2)) ∙ less_none (a *ℤ pos 2)
held a (suc (suc n)) h = absurd (omega arith)

-- what was sold, less the cost of energy and hours, less starts and stops
apart : (s f x y w r : ℤ) → x -ℤ y ≡ w → (s -ℤ ((f +ℤ x) -ℤ y)) -ℤ r ≡ (s -ℤ f) -ℤ (w +ℤ r)
apart s f x y w r e =
    omega (
      linear,
      e,
      parts_sub x y,
      parts_add f x,
      parts_sub (f +ℤ x) y,
      parts_sub s ((f +ℤ x) -ℤ y),
      parts_sub (s -ℤ ((f +ℤ x) -ℤ y)) r,
      parts_sub s f,
      parts_add w r,
      parts_sub (s -ℤ f) (w +ℤ r),
    )

module _ (c : Case) (l : List ℕ) where
  cost_none : plain_cost c 0 ≡ A c *ℤ pos 2
  unfolding plain_cost
  cost_none = ap (λ x. x +ℤ A c *ℤ pos 2) (*ℤ-zero (F c)) ∙ +ℤ_idl (A c *ℤ pos 2)

  profit_by_at_plain : (k : ℕ) → profit_by_at (plain_cost c) c l k ≡ profit_at c l k
  unfolding plain_cost
  profit_by_at_plain k =
      let e = energy c l k in
      let sold = price c k *ℤ pos e in
      let fuel = F c *ℤ pos e in
      let rest = B c *ℤ pos (2 * y c l k) +ℤ C c *ℤ pos (2 * z c l k) in
      rw (
        profit_by_at_is (plain_cost c) c l k,
        profit_at_is c l k,
        charge_is c l k,
        multiple__ (price c k) (F c) e,
        cost_none,
      )
      (apart sold fuel (A c *ℤ pos 2) ((A c *ℤ pos 2) *ℤ pos (1 - v c l k)) (A c *ℤ pos (2 * v c l k)) rest
      (held (A c) (v c l k) (v_le c l k)))

  profit_by_to_plain : (n : ℕ) → profit_by_to (plain_cost c) c l n ≡ profit_to c l n
  profit_by_to_plain zero = profit_by_to_none (plain_cost c) c l ∙ sym (profit_to_none c l)
  profit_by_to_plain (suc n) =
      let more : profit_to c l (suc n) ≡ profit_to c l n +ℤ profit_at c l (suc n) = rw (add-one n) at
      (profit_to_more c l n) in
      rw (profit_by_to_more (plain_cost c) c l n, more, profit_by_to_plain n, profit_by_at_plain (suc n)) refl

  -- the table F·n + 2·A gives the plain profit
  pub profit_by_plain : profit_by (plain_cost c) c l ≡ profit_of c l
  profit_by_plain = profit_by_is (plain_cost c) c l ∙ profit_by_to_plain (last c) ∙ sym (profit_of_is c l)
