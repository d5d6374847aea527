-- Two lists side by side: what their verdicts settle, and by it the promises of the comparison. Assumes nothing.
use mathlib.Core.Path.{◌≡◌, refl, sym, ap, ◌∙◌, subst}
use mathlib.Core.Logic.{◌⊎◌, inl, inr, ◌↔◌}
use mathlib.Core.Bool.{Bool, true, false, cond}
use mathlib.Core.List.{List}
use Prim.Native.Nat.{ℕ}
use native.Mathlib.Decide.{ℕ_discrete}
use native.Mathlib.Omega.{arith}
use lib.Dec.{T}
use lib.IntN.{pos}
use lib.ListN.{length}
use Rattle.laws.proofs.Tests.{true_to_t}
use Rattle.cases.specs.declared.Case.{Case}
use Rattle.cases.specs.declared.Verdict.{Verdict}
use Rattle.cases.specs.declared.Comparison.{Comparison}
use Rattle.cases.specs.declared.Comparison.TheVariants.{First, Second, Neither}
use Rattle.cases.specs.Symbols.{last}
use Rattle.day.specs.Rules.{keeps}
use Rattle.day.specs.Profit.{profit_of}
use Rattle.model.specs.Best.{leads}
use Rattle.cases.specs.Layout.{zeroed}
use Rattle.cases.specs.Refusals.{refusal_of}
use Rattle.model.specs.Answers.{check_of}
use Rattle.model.specs.Compared.{preferred, compared_of, comparison_numbers}
use Rattle.cases.specs.Published.{Counts}
use Rattle.day.specs.Words.{Beaten}
use Rattle.cases.proofs.LimitsLaws.{passed_of_refusal_of}
use Rattle.day.proofs.KeepsLaws.{kept_length}
use Rattle.model.proofs.CheckLaws.{check_of_outside}
use Rattle.model.proofs.LeadsLaws.{Compared, same, first as before, second as after}
use Rattle.model.proofs.LeadsLaws.{leads_behind, leads_total, leading}
use Rattle.model.proofs.AnswersLaws.{check_zeroed}
use Rattle.cases.proofs.ZeroedLaws.{counted}
use Rattle.day.proofs.SameDayLaws.{profit_of_zeroed}
use Rattle.model.proofs.VerdictLaws.{Judged, passing, breaking, unfit, verdict}
use Rattle.cases.specs.Reads.{Accepted, Outcome, Refused}
use Rattle.std.specs.Prelude.{Result, Ok}
use Rattle.quantities.specs.declared.Refusal.{Refusal}

-- two things of which one fails do not both hold
pub fails : {A B : Type 0} → (A → ⊥) ⊎ (B → ⊥) → A → B → ⊥
fails (inl n) a b = n a
fails (inr n) a b = n b

-- what is answered of two lists, for a case within the limits
pub data Settled (c : Case) (l m : List ℕ) : Result Comparison Refusal → Type 0 where
  first : T (keeps c l) → length m ≡ last c → (T (keeps c m) → (m ≡ l) ⊎ T (leads (profit_of c) l m))
      → Settled c l m (Ok (First (record { 0 = profit_of c l })))
  second : T (keeps c m) → length l ≡ last c → (T (keeps c l) → T (leads (profit_of c) m l))
      → Settled c l m (Ok (Second (record { 0 = profit_of c m })))
  neither : (T (keeps c l) → ⊥) → (T (keeps c m) → ⊥) → length l ≡ last c → length m ≡ last c → Settled c l m (Ok Neither)
  short : (length l ≡ last c → ⊥) ⊎ (length m ≡ last c → ⊥) → Settled c l m (Refused 9)

module _ (c : Case) (l m : List ℕ) where
  -- two lists that pass
  ranked : T (keeps c l) → T (keeps c m) → (t : Bool) → leads (profit_of c) m l ≡ t
      → Settled c l m (cond t (Ok (Second (record { 0 = profit_of c m }))) (Ok (First (record { 0 = profit_of c l }))))
  ranked k j true d = second j (kept_length c l k) (λ _. true_to_t _ d)
  ranked k j false d =
      let h = kept_length c m j in
      first k h (λ _. go (leads_total (profit_of c) m l (h ∙ sym (kept_length c l k))))
    where
      go : Compared m l (T (leads (profit_of c) m l)) (T (leads (profit_of c) l m)) → (m ≡ l) ⊎ T (leads (profit_of c) l m)
      go (same q) = inl q
      go (before t) = absurd (subst T d t)
      go (after t) = inr t

  settle : (v w : Result Verdict Refusal) → Judged c l v → Judged c m w → Settled c l m (preferred (leads (profit_of c) m l) v w)
  settle _ _ (unfit h) j = short (inl h)
  settle _ _ (passing k) (unfit h) = short (inr h)
  settle _ _ (passing k) (breaking n h) = first k h (λ j. absurd (n j))
  settle _ _ (passing k) (passing j) = ranked k j (leads (profit_of c) m l) refl
  settle _ _ (breaking n h) (unfit g) = short (inr g)
  settle _ _ (breaking n h) (breaking o g) = neither n o h g
  settle _ _ (breaking n h) (passing j) = second j h (λ k. absurd (n k))

  pub settled : refusal_of c ≡ 0 → Settled c l m (compared_of Accepted c l m)
  unfolding compared_of
  settled e = settle (check_of Accepted c l) (check_of Accepted c m) (verdict c e l) (verdict c e m)

-- the comparison by its verdicts
pub compared_of_by : (o : Outcome) (c : Case) (l m : List ℕ) {v w : Result Verdict Refusal} → v ≡ check_of o c l → w ≡ check_of o c m
    → preferred (leads (profit_of c) m l) v w ≡ compared_of o c l m
unfolding compared_of
compared_of_by o c l m d e = rw (d, e)

-- ---- what is offered, by the papers' number and values
pub unread_comparison : (c : Case) (l m : List ℕ) (n : ℕ)
    → comparison_numbers (compared_of (Refused n) c l m) ≡ (n, 0, pos 0)
unfolding compared_of check_of
unread_comparison c l m n = refl

-- a case outside the limits
pub compared_of_outside : (c : Case) (l m : List ℕ) → (refusal_of c ≡ 0 → ⊥)
    → compared_of Accepted c l m ≡ Refused (refusal_of c)
unfolding compared_of
compared_of_outside c l m h = rw (check_of_outside c l h)

pub refused_comparison : (c : Case) (l m : List ℕ) → (refusal_of c ≡ 0 → ⊥)
    → comparison_numbers (compared_of Accepted c l m) ≡ (refusal_of c, 0, pos 0)
refused_comparison c l m h = ap comparison_numbers (compared_of_outside c l m h)

module _ (c : Case) (l m : List ℕ) (e : refusal_of c ≡ 0) where
  -- each way by what is settled
  pub first_offered : length m ≡ last c
      → (T (keeps c l) × (T (keeps c m) → (m ≡ l) ⊎ Beaten (profit_of c) l m))
      ↔ (comparison_numbers (compared_of Accepted c l m) ≡ (0, 1, profit_of c l))
  first_offered h = (to (settled c l m e), from (settled c l m e))
    where
      led_by : T (keeps c l) → (m ≡ l) ⊎ Beaten (profit_of c) l m → (m ≡ l) ⊎ T (leads (profit_of c) l m)
      led_by k (inl q) = inl q
      led_by k (inr b) = inr ((leading (profit_of c) l m (kept_length c l k ∙ sym h)).1 b)

      beats : T (keeps c l) → (m ≡ l) ⊎ T (leads (profit_of c) l m) → (m ≡ l) ⊎ Beaten (profit_of c) l m
      beats k (inl q) = inl q
      beats k (inr t) = inr ((leading (profit_of c) l m (kept_length c l k ∙ sym h)).0 t)

      to : {x : Result Comparison Refusal} → Settled c l m x → (T (keeps c l) × (T (keeps c m) → (m ≡ l) ⊎ Beaten (profit_of c) l m))
          → comparison_numbers x ≡ (0, 1, profit_of c l)
      to (first k g f) w = refl
      to (second j g f) (k, w) = absurd (leads_behind (profit_of c) l m (f k) (led_by k (w j)))
      to (neither n o g i) (k, w) = absurd (n k)
      to (short n) (k, w) = absurd (fails n (kept_length c l k) h)

      from : {x : Result Comparison Refusal} → Settled c l m x → comparison_numbers x ≡ (0, 1, profit_of c l)
          → T (keeps c l) × (T (keeps c m) → (m ≡ l) ⊎ Beaten (profit_of c) l m)
      from (first k g f) w = (k, λ j. beats k (f j))
      from (second j g f) w = absurd (let q = ap (λ t. t.1) w in omega arith)
      from (neither n o g i) w = absurd (let q = ap (λ t. t.1) w in omega arith)
      from (short n) w = absurd (let q = ap (λ t. t.1) w in omega arith)

  pub second_offered : length l ≡ last c
      → (T (keeps c m) × (T (keeps c l) → Beaten (profit_of c) m l))
      ↔ (comparison_numbers (compared_of Accepted c l m) ≡ (0, 2, profit_of c m))
  second_offered h = (to (settled c l m e), from (settled c l m e))
    where
      ahead : T (keeps c m) → T (leads (profit_of c) m l) ↔ Beaten (profit_of c) m l
      ahead j = leading (profit_of c) m l (kept_length c m j ∙ sym h)

      to : {x : Result Comparison Refusal} → Settled c l m x → (T (keeps c m) × (T (keeps c l) → Beaten (profit_of c) m l))
          → comparison_numbers x ≡ (0, 2, profit_of c m)
      to (first k g f) (j, w) = absurd (leads_behind (profit_of c) l m ((ahead j).1 (w k)) (f j))
      to (second j g f) w = refl
      to (neither n o g i) (j, w) = absurd (o j)
      to (short n) (j, w) = absurd (fails n h (kept_length c m j))

      from : {x : Result Comparison Refusal} → Settled c l m x → comparison_numbers x ≡ (0, 2, profit_of c m)
          → T (keeps c m) × (T (keeps c l) → Beaten (profit_of c) m l)
      from (first k g f) w = absurd (let q = ap (λ t. t.1) w in omega arith)
      from (second j g f) w = (j, λ k. (ahead j).0 (f k))
      from (neither n o g i) w = absurd (let q = ap (λ t. t.1) w in omega arith)
      from (short n) w = absurd (let q = ap (λ t. t.1) w in omega arith)

  pub none_offered : length l ≡ last c → length m ≡ last c
      → ((T (keeps c l) → ⊥) × (T (keeps c m) → ⊥)) ↔ (comparison_numbers (compared_of Accepted c l m) ≡ (0, 0, pos 0))
  none_offered h i = (to (settled c l m e), from (settled c l m e))
    where
      to : {x : Result Comparison Refusal} → Settled c l m x → ((T (keeps c l) → ⊥) × (T (keeps c m) → ⊥))
          → comparison_numbers x ≡ (0, 0, pos 0)
      to (first k g f) (n, o) = absurd (n k)
      to (second j g f) (n, o) = absurd (o j)
      to (neither n o g f) w = refl
      to (short n) w = absurd (fails n h i)

      from : {x : Result Comparison Refusal} → Settled c l m x → comparison_numbers x ≡ (0, 0, pos 0)
          → (T (keeps c l) → ⊥) × (T (keeps c m) → ⊥)
      from (first k g f) w = absurd (let q = ap (λ t. t.1) w in omega arith)
      from (second j g f) w = absurd (let q = ap (λ t. t.1) w in omega arith)
      from (neither n o g f) w = (n, o)
      from (short n) w = absurd (let q = ap (λ t. t.0) w in omega arith)

  pub uncompared : ((length l ≡ last c → ⊥) ⊎ (length m ≡ last c → ⊥))
      ↔ (comparison_numbers (compared_of Accepted c l m) ≡ (9, 0, pos 0))
  uncompared = (to (settled c l m e), from (settled c l m e))
    where
      to : {x : Result Comparison Refusal} → Settled c l m x → ((length l ≡ last c → ⊥) ⊎ (length m ≡ last c → ⊥))
          → comparison_numbers x ≡ (9, 0, pos 0)
      to (first k g f) n = absurd (fails n (kept_length c l k) g)
      to (second j g f) n = absurd (fails n g (kept_length c m j))
      to (neither _ _ g f) n = absurd (fails n g f)
      to (short n) w = refl

      from : {x : Result Comparison Refusal} → Settled c l m x → comparison_numbers x ≡ (9, 0, pos 0)
          → (length l ≡ last c → ⊥) ⊎ (length m ≡ last c → ⊥)
      from (first k g f) w = absurd (let q = ap (λ t. t.0) w in omega arith)
      from (second j g f) w = absurd (let q = ap (λ t. t.0) w in omega arith)
      from (neither n o g f) w = absurd (let q = ap (λ t. t.0) w in omega arith)
      from (short n) w = n

-- ---- entries past a count
module _ (c : Case) (l m : List ℕ) where
  leads_zeroed : Counts c → leads (profit_of (zeroed c)) m l ≡ leads (profit_of c) m l
  unfolding leads
  leads_zeroed room = rw (profit_of_zeroed c room l, profit_of_zeroed c room m)

  pub compare_zeroed : compared_of Accepted (zeroed c) l m ≡ compared_of Accepted c l m
  unfolding compared_of
  compare_zeroed = rw (check_zeroed c l, check_zeroed c m) (go (ℕ_discrete (refusal_of c) 0))
    where
      go : Dec (refusal_of c ≡ 0)
          → preferred (leads (profit_of (zeroed c)) m l) (check_of Accepted c l) (check_of Accepted c m)
          ≡ preferred (leads (profit_of c) m l) (check_of Accepted c l) (check_of Accepted c m)
      go (yes e) = rw (leads_zeroed (counted c (passed_of_refusal_of c e).passes2))
      go (no h) = rw (check_of_outside c l h)
