-- The part that is handed back, by what is settled of the two lists: a list beside itself, the best list beside any
-- other, and the lists swapped. Assumes nothing.
use mathlib.Core.Path.{◌≡◌, refl, sym, ap, ◌∙◌}
use mathlib.Core.Logic.{◌⊎◌, inl, inr}
use Prim.Native.Nat.{ℕ}
use native.Mathlib.Decide.{ℕ_discrete}
use lib.Dec.{T}
use lib.ListN.{length}
use Rattle.cases.specs.declared.Case.{Case}
use Rattle.cases.specs.declared.Comparison.{Comparison}
use Rattle.cases.specs.declared.Comparison.TheVariants.{First, Second, Neither}
use Rattle.cases.specs.Symbols.{last}
use Rattle.day.specs.Rules.{keeps}
use Rattle.day.specs.Profit.{profit_of}
use Rattle.model.specs.Best.{leads, Best}
use Rattle.cases.specs.Refusals.{refusal_of}
use Rattle.model.specs.Answers.{check_of}
use Rattle.model.specs.Compared.{compared_of, Part, handed, better_of}
use Rattle.model.specs.Promises.{HandsBack, one, two, empty, EitherWay}
use Rattle.day.proofs.KeepsLaws.{kept_length}
use Rattle.model.proofs.LeadsLaws.{leads_behind}
use Rattle.model.proofs.ComparedLaws.{fails, Settled, first, second, neither, short, settled, compared_of_outside}
use Rattle.cases.specs.Reads.{Accepted, Outcome, Refused}
use Rattle.std.specs.Prelude.{Result, Ok, Err}
use Rattle.quantities.specs.declared.Refusal.{Refusal}

-- the part by the comparison
pub better_of_by : (o : Outcome) (c : Case) (a b : Part) {x : Result Comparison Refusal} → x ≡ compared_of o c a.outputs b.outputs
    → handed a b x ≡ better_of o c a b
unfolding better_of
better_of_by o c a b d = ap (handed a b) d

pub handed_back : (o : Outcome) (c : Case) (a b : Part)
    → HandsBack (compared_of o c a.outputs b.outputs) a b (better_of o c a b)
unfolding better_of
handed_back o c a b = go (compared_of o c a.outputs b.outputs)
  where
    go : (x : Result Comparison Refusal) → HandsBack x a b (handed a b x)
    go (Ok (First x)) = one refl
    go (Ok (Second x)) = two refl
    go (Ok Neither) = empty refl
    go (Err n) = empty refl

module _ (c : Case) (a b : Part) (e : refusal_of c ≡ 0) (k : T (keeps c a.outputs)) where
  -- beside a list of T outputs that does not come before it, as the first
  as_first : length b.outputs ≡ last c
      → (T (keeps c b.outputs) → T (leads (profit_of c) b.outputs a.outputs) → ⊥) → better_of Accepted c a b ≡ a
  unfolding better_of
  as_first h n = go (settled c a.outputs b.outputs e)
    where
      go : {x : Result Comparison Refusal} → Settled c a.outputs b.outputs x → handed a b x ≡ a
      go (first _ _ _) = refl
      go (second j _ f) = absurd (n j (f k))
      go (neither o _ _ _) = absurd (o k)
      go (short o) = absurd (fails o (kept_length c a.outputs k) h)

  -- and as the second, beside another list that it comes before
  as_second : length b.outputs ≡ last c → (b.outputs ≡ a.outputs → ⊥)
      → (T (keeps c b.outputs) → T (leads (profit_of c) b.outputs a.outputs) → ⊥) → better_of Accepted c b a ≡ a
  unfolding better_of
  as_second h d n = go (settled c b.outputs a.outputs e)
    where
      behind : T (keeps c b.outputs)
          → (a.outputs ≡ b.outputs) ⊎ T (leads (profit_of c) b.outputs a.outputs) → ⊥
      behind j (inl q) = d (sym q)
      behind j (inr t) = n j t

      go : {x : Result Comparison Refusal} → Settled c b.outputs a.outputs x → handed b a x ≡ a
      go (first j _ f) = absurd (behind j (f k))
      go (second _ _ _) = refl
      go (neither _ o _ _) = absurd (o k)
      go (short o) = absurd (fails o h (kept_length c a.outputs k))

  -- beside itself
  pub itself : b.outputs ≡ a.outputs → better_of Accepted c a b ≡ a
  itself q =
      as_first (ap length q ∙ kept_length c a.outputs k)
      (λ _ t. leads_behind (profit_of c) a.outputs b.outputs t (inl q))

pub unbeaten : (c : Case) (a b : Part) → refusal_of c ≡ 0 → Best (keeps c) (profit_of c) a.outputs
    → length b.outputs ≡ last c
    → (better_of Accepted c a b ≡ a) × ((b.outputs ≡ a.outputs → ⊥) → better_of Accepted c b a ≡ a)
unbeaten c a b e best h =
    (as_first c a b e best.kept h behind, λ d. as_second c a b e best.kept h d behind)
  where
    behind : T (keeps c b.outputs) → T (leads (profit_of c) b.outputs a.outputs) → ⊥
    behind j t = leads_behind (profit_of c) a.outputs b.outputs t (best.tops b.outputs j)

-- ---- the lists swapped
-- what is settled in one order beside what is settled in the other
abbrev Turned : Part → Part → Result Comparison Refusal → Result Comparison Refusal → Type 0
Turned a b x y = EitherWay a b x y (handed a b x) (handed b a y)

refused_turned : (a b : Part) (n : ℕ) → Turned a b (Refused n) (Refused n)
refused_turned a b n = record { number = refl; profit = refl; outputs = refl; part = λ _ o. absurd (o refl) }

module _ (c : Case) (a b : Part) where
  identical : b.outputs ≡ a.outputs
      → Turned a b (Ok (First (record { 0 = profit_of c a.outputs }))) (Ok (First (record { 0 = profit_of c b.outputs })))
  identical q = record { number = refl; profit = ap (profit_of c) q; outputs = q; part = λ n _. absurd (n q) }

  both_first : (b.outputs ≡ a.outputs) ⊎ T (leads (profit_of c) a.outputs b.outputs)
      → (a.outputs ≡ b.outputs) ⊎ T (leads (profit_of c) b.outputs a.outputs) → b.outputs ≡ a.outputs
  both_first (inl q) s = q
  both_first (inr t) s = absurd (leads_behind (profit_of c) b.outputs a.outputs t s)

  turned : {x y : Result Comparison Refusal} → Settled c a.outputs b.outputs x → Settled c b.outputs a.outputs y
      → Turned a b x y
  turned (first k g f) (first j h i) = identical (both_first (f j) (i k))
  turned (first k g f) (second j h i) = record { number = refl; profit = refl; outputs = refl; part = λ _ _. refl }
  turned (first k g f) (neither n o h i) = absurd (o k)
  turned (first k g f) (short n) = absurd (fails n g (kept_length c a.outputs k))
  turned (second k g f) (first j h i) = record { number = refl; profit = refl; outputs = refl; part = λ _ _. refl }
  turned (second k g f) (second j h i) =
      absurd (leads_behind (profit_of c) a.outputs b.outputs (f j) (inr (i k)))
  turned (second k g f) (neither n o h i) = absurd (n k)
  turned (second k g f) (short n) = absurd (fails n (kept_length c b.outputs k) g)
  turned (neither n o g f) (first j h i) = absurd (o j)
  turned (neither n o g f) (second j h i) = absurd (n j)
  turned (neither n o g f) (neither _ _ _ _) =
      record { number = refl; profit = refl; outputs = refl; part = λ _ n. absurd (n refl) }
  turned (neither n o g f) (short k) = absurd (fails k f g)
  turned (short n) (first j h i) = absurd (fails n h (kept_length c b.outputs j))
  turned (short n) (second j h i) = absurd (fails n (kept_length c a.outputs j) h)
  turned (short n) (neither _ _ h i) = absurd (fails n i h)
  turned (short n) (short o) = refused_turned a b 9

pub swapped : (o : Outcome) (c : Case) (a b : Part)
    → EitherWay a b (compared_of o c a.outputs b.outputs) (compared_of o c b.outputs a.outputs)
    (better_of o c a b) (better_of o c b a)
unfolding better_of compared_of check_of
swapped (Err n) c a b = refused_turned a b n.0
swapped (Ok tt) c a b = go (ℕ_discrete (refusal_of c) 0)
  where
    go : Dec (refusal_of c ≡ 0)
        → Turned a b (compared_of Accepted c a.outputs b.outputs) (compared_of Accepted c b.outputs a.outputs)
    go (yes e) = turned c a b (settled c a.outputs b.outputs e) (settled c b.outputs a.outputs e)
    go (no h) = rw (compared_of_outside c a.outputs b.outputs h, compared_of_outside c b.outputs a.outputs h)
        (refused_turned a b (refusal_of c))
