-- A list that keeps every rule stays within the capacity. Assumes nothing.
use mathlib.Core.Path.{sym, ◌∙◌}
use mathlib.Core.List.{List}
use Prim.Native.Nat.{ℕ, zero, suc, ◌+◌, ◌*◌, ◌≤◌, ◌<◌}
use native.Mathlib.Nat.{mul-le-mul_right, mul-le-mul_left}
use native.Mathlib.Omega.{arith}
use lib.Dec.{T, ltb, leb→le}
use lib.ListN.{get_or}
use Rattle.cases.specs.declared.Case.{Case}
use Rattle.cases.specs.Symbols.{sum, high, UD, PU, last, h}
use Rattle.day.specs.Marks.{p, v, y_back, starting}
use Rattle.day.specs.Constraints.{start_output, rule3}
use Rattle.day.specs.Rules.{day_rules, keeps}
use Rattle.day.proofs.BreachLaws.{broken_at_inside}
use Rattle.day.proofs.MarksLaws.{bit_le, p_zero, p_suc}
use Rattle.day.proofs.KeepsLaws.{broken_cons, kept_unbroken}
use Rattle.cases.proofs.LimitsLaws.{Limits}
use Rattle.cases.proofs.StagesLaws.{rise_le, initial_le}

rule3_le : (c : Case) (l : List ℕ) (k : ℕ) → T (rule3 c l k)
    → p c l k + high c * starting c l k ≤ start_output c l k + high c * v c l k
unfolding rule3
rule3_le c l k t = leb→le (p c l k + high c * starting c l k) (start_output c l k + high c * v c l k) t

module _ (c : Case) (lim : Limits c) where
  weighted_le : (f : ℕ → ℕ) (n : ℕ) → n ≤ UD c → sum (λ i. PU c i * f i) n ≤ high c * sum f n
  unfolding sum
  weighted_le f zero h = omega arith
  weighted_le f (suc n) h = omega
      (arith, weighted_le f n (omega arith), mul-le-mul_right (f (suc n)) (rise_le c lim (suc n) h))

  module _ (l : List ℕ) (kept : T (keeps c l)) where
    rule3_kept : (k : ℕ) → k < last c → T (rule3 c l (suc k))
    unfolding day_rules
    rule3_kept k h =
        let unbroken = kept_unbroken c l kept (suc k) (omega (arith, lim.falls_pos)) in
        let a = broken_cons (suc k) 0 _ _ (sym (broken_at_inside c l (suc k) (omega arith) h) ∙ unbroken) in
        let b = broken_cons (suc k) 1 _ _ a.1 in
        (broken_cons (suc k) 2 _ _ b.1).0

    -- (3): p(k) is at most the capacity
    pub output_le : (k : ℕ) → k < last c → get_or l k 0 ≤ high c
    unfolding starting start_output p v
    output_le k h =
        let sums = weighted_le (λ i. y_back c l (suc k) i) (UD c) (omega arith) in
        let online = mul-le-mul_left (high c) (bit_le (ltb 0 (get_or l k 0))) in
        omega (arith, rule3_le c l (suc k) (rule3_kept k h))

  -- p(k) from hour 0 to T
  pub p_le : (l : List ℕ) → T (keeps c l) → (k : ℕ) → k ≤ last c → p c l k ≤ high c
  p_le l t zero h = omega (arith, p_zero c l, initial_le c lim)
  p_le l t (suc k) h = omega (arith, p_suc c l k, output_le l t k h)
