-- The minimum times and the orders as facts about numbers, both ways. Assumes nothing.
use mathlib.Core.Path.{◌≡◌, refl}
use mathlib.Core.Logic.{⊎_elim}
use mathlib.Core.Bool.{Bool, true, false, ◌&&◌, ◌||◌, cond}
use mathlib.Core.List.{List}
use Prim.Native.Nat.{ℕ, zero, suc, ◌+◌, ◌-◌, ◌≤◌}
use native.Mathlib.Decide.{ℕ_discrete}
use native.Mathlib.Omega.{arith}
use borrow.Author.Tests.{eq-eqb, ne_eqb}
use lib.Dec.{T, leb, ltb, eqb, leb→le, le→leb, eqb→eq}
use Rattle.laws.proofs.Tests.{or_to_either, left_to_or, right_to_or, true_to_t}
use Rattle.cases.specs.declared.Case.{Case}
use Rattle.cases.specs.Symbols.{bit, DD, last, order, up_stage}
use Rattle.day.specs.Marks.{p, v, y, y_back, closes, z}
use Rattle.day.specs.Rules.{rule23}
use Rattle.day.specs.Words.{Ordered}
use Rattle.day.proofs.MarksLaws.{bit_le, v_on, v_off}

-- ---- a minimum time that is asked for at a mark
pub time_of : (m n s : ℕ) → T (eqb m 0 || leb n s) → m ≡ 1 → n ≤ s
time_of m n s t e = ⊎_elim
    (λ (a : T (eqb m 0)). absurd (omega (arith, eqb→eq m 0 a)))
    (leb→le n s)
    (or_to_either (eqb m 0) (leb n s) t)

pub of_time : (m n s : ℕ) → m ≤ 1 → (m ≡ 1 → n ≤ s) → T (eqb m 0 || leb n s)
of_time m n s b f = go (ℕ_discrete m 0)
  where
    go : Dec (m ≡ 0) → T (eqb m 0 || leb n s)
    go (yes e) = left_to_or (eqb m 0) (leb n s) (true_to_t (eqb m 0) (eq-eqb m 0 e))
    go (no e) = right_to_or (eqb m 0) (leb n s) (le→leb n s (f (omega arith)))

-- ---- an order
order_of : (o v : ℕ) → T (eqb o 0 || (eqb o 1 && eqb v 1 || eqb o 2 && eqb v 0))
    → (o ≡ 1 → v ≡ 1) × (o ≡ 2 → v ≡ 0) × (o ≤ 2)
order_of zero v t = (λ e. absurd (omega arith), λ e. absurd (omega arith), omega arith)
order_of (suc zero) v t = ⊎_elim
    (λ (b : T (eqb v 1)). (λ e. eqb→eq v 1 b, λ e. absurd (omega arith), omega arith))
    absurd
    (or_to_either (eqb v 1) false t)
order_of (suc (suc zero)) v t = (λ e. absurd (omega arith), λ e. eqb→eq v 0 t, omega arith)
order_of (suc (suc (suc o))) v t =
    let n : ℕ = suc (suc (suc o)) in
    absurd (rw (ne_eqb n 0 (λ e. omega arith), ne_eqb n 1 (λ e. omega arith), ne_eqb n 2 (λ e. omega arith)) at t)

of_order : (o v : ℕ) → o ≤ 2 → (o ≡ 1 → v ≡ 1) → (o ≡ 2 → v ≡ 0)
    → T (eqb o 0 || (eqb o 1 && eqb v 1 || eqb o 2 && eqb v 0))
of_order zero v b f g = tt
of_order (suc zero) v b f g = rw (f refl) tt
of_order (suc (suc zero)) v b f g = rw (g refl) tt
of_order (suc (suc (suc o))) v b f g = absurd (omega arith)

module _ (c : Case) (l : List ℕ) where
  pub y_le : (k : ℕ) → y c l k ≤ 1
  unfolding y
  y_le zero = omega arith
  y_le (suc k) = bit_le (ltb k (last c) && (eqb (v c l (suc k)) 1 && eqb (v c l k) 0))

  pub z_le : (k : ℕ) → z c l k ≤ 1
  unfolding z
  z_le zero = omega arith
  z_le (suc k) =
      bit_le (cond (ltb k (last c)) (eqb (v c l (suc k)) 0 && eqb (v c l k) 1) (closes c l (last c + DD c + 1 - suc k)))

  pub y_back_le : (k i : ℕ) → y_back c l k i ≤ 1
  unfolding y_back
  y_back_le k i = go (ltb k i)
    where
      go : (t : Bool) → cond t (bit (eqb (i - k) (up_stage c))) (y c l (k + 1 - i)) ≤ 1
      go true = bit_le (eqb (i - k) (up_stage c))
      go false = y_le (k + 1 - i)

  pub ordered_of : (k : ℕ) → T (rule23 c l k) → Ordered c k (p c l k)
  unfolding rule23
  ordered_of k t =
      let (a, b, n) = order_of (order c k) (v c l k) t in
      record {
        on_line = λ e. on (a e) (ℕ_discrete (p c l k) 0);
        off_line = λ e. off (b e) (ℕ_discrete (p c l k) 0);
        known = n;
      }
    where
      on : v c l k ≡ 1 → Dec (p c l k ≡ 0) → 1 ≤ p c l k
      on e (yes q) = absurd (omega (arith, v_off c l k q))
      on e (no q) = omega arith

      off : v c l k ≡ 0 → Dec (p c l k ≡ 0) → p c l k ≡ 0
      off e (yes q) = q
      off e (no q) = absurd (omega (arith, v_on c l k (omega arith)))

  pub of_ordered : (k : ℕ) → Ordered c k (p c l k) → T (rule23 c l k)
  unfolding rule23
  of_ordered k o =
      of_order (order c k) (v c l k) o.known (λ e. v_on c l k (o.on_line e)) (λ e. v_off c l k (o.off_line e))
