-- A list keeps every rule exactly if it has T outputs and no hour breaks one. Assumes nothing.
use mathlib.Core.Path.{◌≡◌, refl, sym, ap, ◌∙◌}
use mathlib.Core.Bool.{Bool, true, false, cond}
use mathlib.Core.List.{List, ◌∷◌}
use mathlib.Core.Option.{Option, none, some}
use Prim.Native.Nat.{ℕ, zero, suc, ◌+◌, ◌<◌}
use native.Mathlib.Nat.{add-zero, zero-add}
use native.Mathlib.Omega.{arith}
use borrow.Author.Tests.{eqb-true, eqb-false, eq-eqb}
use lib.Dec.{T, eqb, eqb→eq}
use lib.ListN.{length}
use Rattle.laws.proofs.Tests.{and_to_both, both_to_and, true_to_t, t_to_true}
use Rattle.cases.specs.declared.Case.{Case}
use Rattle.cases.specs.declared.Breach.{Breach}
use Rattle.cases.specs.Symbols.{last, DD}
use Rattle.day.specs.Rules.{broken_of, broken_at, breach_from, breach, is_none, keeps}

-- no rule of an hour is broken exactly if the first holds and none of the others is
pub broken_cons : (k n : ℕ) (f : ℕ → Bool) (rs : List (ℕ × (ℕ → Bool))) → broken_of k ((suc n, f) ∷ rs) ≡ 0
    → T (f k) × (broken_of k rs ≡ 0)
unfolding broken_of
broken_cons k n f rs e = go (f k) e
  where
    go : (b : Bool) → cond b (broken_of k rs) (suc n) ≡ 0 → T b × (broken_of k rs ≡ 0)
    go true e = (tt, e)
    go false e = absurd (omega arith)

pub cons_broken : (k n : ℕ) (f : ℕ → Bool) (rs : List (ℕ × (ℕ → Bool))) → T (f k) → broken_of k rs ≡ 0
    → broken_of k ((n, f) ∷ rs) ≡ 0
unfolding broken_of
cons_broken k n f rs t e = ap (λ b. cond b (broken_of k rs) n) (t_to_true (f k) t) ∙ e

module _ (c : Case) (l : List ℕ) where
  none_from : (n k : ℕ) → T (is_none (breach_from c l k n)) → (i : ℕ) → i < n → broken_at c l (k + i) ≡ 0
  unfolding breach_from
  none_from zero k t i h = absurd (omega arith)
  none_from (suc n) k t i h = go (eqb (broken_at c l k) 0) refl t i h (none_from n (suc k))
    where
      go : (b : Bool) → eqb (broken_at c l k) 0 ≡ b
          → T (is_none (cond b (breach_from c l (suc k) n)
          (some (record { hour = record { 0 = k }; rule = broken_at c l k })))) → (i : ℕ)
          → i < suc n → (T (is_none (breach_from c l (suc k) n)) → (i : ℕ) → i < n → broken_at c l (suc k + i) ≡ 0)
          → broken_at c l (k + i) ≡ 0
      go true e t zero h ih = ap (broken_at c l) (add-zero k) ∙ eqb-true (broken_at c l k) 0 e
      go true e t (suc i) h ih = ap (broken_at c l) (let q : k + suc i ≡ suc k + i = omega arith in q)
          ∙ ih t i (omega arith)
      go false e t i h ih = absurd t

  from_none : (n k : ℕ) → ((i : ℕ) → i < n → broken_at c l (k + i) ≡ 0) → T (is_none (breach_from c l k n))
  unfolding breach_from
  from_none zero k h = tt
  from_none (suc n) k h =
      let here : broken_at c l k ≡ 0 = ap (broken_at c l) (sym (add-zero k)) ∙ h 0 (omega arith) in
      rw (eq-eqb (broken_at c l k) 0 here)
      (from_none n (suc k)
      (λ i p. ap (broken_at c l) (let q : suc k + i ≡ k + suc i = omega arith in q) ∙ h (suc i) (omega arith)))

  pub kept_length : T (keeps c l) → length l ≡ last c
  unfolding keeps
  kept_length t = eqb→eq (length l) (last c) (and_to_both (eqb (length l) (last c)) (is_none (breach c l)) t).0

  -- a list is kept exactly if it has T outputs and there is no breach
  pub kept_none : T (keeps c l) → breach c l ≡ none
  unfolding keeps
  kept_none t = go (breach c l) (and_to_both (eqb (length l) (last c)) (is_none (breach c l)) t).1
    where
      go : (r : Option Breach) → T (is_none r) → r ≡ none
      go none n = refl
      go (some b) n = absurd n

  pub kept_of_none : length l ≡ last c → breach c l ≡ none → T (keeps c l)
  unfolding keeps
  kept_of_none e d =
      both_to_and (eqb (length l) (last c)) (is_none (breach c l))
      (true_to_t (eqb (length l) (last c)) (eq-eqb (length l) (last c) e)) (rw d tt)

  -- no hour breaks a rule, where there is no breach
  pub unbroken_of_none : breach c l ≡ none → (k : ℕ) → k < last c + DD c → broken_at c l k ≡ 0
  unfolding breach
  unbroken_of_none e k h = ap (broken_at c l) (sym (zero-add k)) ∙ none_from (last c + DD c) 0 (rw e tt) k h

  -- no hour of a list that is kept breaks a rule
  pub kept_unbroken : T (keeps c l) → (k : ℕ) → k < last c + DD c → broken_at c l k ≡ 0
  kept_unbroken t = unbroken_of_none (kept_none t)

  pub kept_of_unbroken : length l ≡ last c → ((k : ℕ) → k < last c + DD c → broken_at c l k ≡ 0) → T (keeps c l)
  unfolding keeps breach
  kept_of_unbroken e h =
      both_to_and (eqb (length l) (last c)) (is_none (breach c l))
      (true_to_t (eqb (length l) (last c)) (eq-eqb (length l) (last c) e))
      (from_none (last c + DD c) 0 (λ i p. ap (broken_at c l) (zero-add i) ∙ h i p))

  -- a breach has a rule's number, and that is above 0
  rule_from : (n k : ℕ) (b : Breach) → breach_from c l k n ≡ some b → b.rule ≡ 0 → ⊥
  unfolding breach_from
  rule_from zero k b e z = let q : ◌≡◌ {A = ℕ} 0 1 = cc in omega arith
  rule_from (suc n) k b e z = go (eqb (broken_at c l k) 0) refl e (rule_from n (suc k) b)
    where
      here : Breach
      here = record { hour = record { 0 = k }; rule = broken_at c l k }

      go : (t : Bool) → eqb (broken_at c l k) 0 ≡ t → cond t (breach_from c l (suc k) n) (some here) ≡ some b
          → (breach_from c l (suc k) n ≡ some b → b.rule ≡ 0 → ⊥) → ⊥
      go true d e ih = ih e z
      go false d e ih =
          let same : here ≡ b = cc in
          eqb-false (broken_at c l k) 0 d (ap (λ (x : Breach). x.rule) same ∙ z)

  pub breach_rule : (b : Breach) → breach c l ≡ some b → b.rule ≡ 0 → ⊥
  unfolding breach
  breach_rule b e z = rule_from (last c + DD c) 0 b e z
