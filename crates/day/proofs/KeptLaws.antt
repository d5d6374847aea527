-- A list keeps every rule exactly if each hour keeps each rule that it is held to, as specs/Words states it, and the
-- breach that is found is the first. Assumes nothing.
use mathlib.Core.Path.{◌≡◌, refl, sym, ap, ◌∙◌, subst}
use mathlib.Core.Logic.{⊎_elim, ◌↔◌}
use mathlib.Core.Bool.{Bool, true, false, ◌&&◌, ◌||◌, not, cond}
use mathlib.Core.List.{List, [], ◌∷◌}
use mathlib.Core.Option.{Option, none, some}
use Prim.Native.Nat.{ℕ, zero, suc, ◌+◌, ◌-◌, ◌≤◌, ◌<◌}
use native.Mathlib.Decide.{dec_lt}
use native.Mathlib.Nat.{eq-or-lt_of_le}
use native.Mathlib.Omega.{arith}
use borrow.Author.Tests.{eqb-true, eqb-false}
use lib.Dec.{T, leb, ltb, eqb, ltb→lt, eqb→eq, leb→le}
use lib.ListN.{length}
use Rattle.laws.proofs.Tests.{and_to_both, or_to_either, left_to_or, right_to_or, true_to_t, false_to_not}
use Rattle.cases.specs.declared.Case.{Case}
use Rattle.cases.specs.declared.Breach.{Breach}
use Rattle.cases.specs.Symbols.{before, high, low, RU, RD, UD, DD, PU, PD, last}
use Rattle.day.specs.Marks.{p, v, y, starting, z}
use Rattle.day.specs.Constraints.{stopping, start_output, stop_output, stops_within, rule1, rule2, rule3}
use Rattle.day.specs.Constraints.{rule4, rule5, rule6, rule7, rule8, rule9, rule10, rule11, rule12}
use Rattle.day.specs.Rules.{rule21, rule22, rule23, day_rules, rules_at, broken_of, broken_at, breach_from, breach}
use Rattle.day.specs.Rules.{keeps}
use Rattle.cases.specs.Refusals.{within}
use Rattle.day.specs.Words.{Kept, kept1, kept2, kept3, kept4, kept5, kept6, kept7, kept8, kept9, kept10, kept11}
use Rattle.day.specs.Words.{kept12, kept21, kept22, kept23, tested, KeepsAll, Breaks, marking_of}
use Rattle.cases.proofs.SymbolsLaws.{before_is}
use Rattle.day.proofs.KeepsLaws.{kept_length, kept_unbroken, kept_of_unbroken, unbroken_of_none}
use Rattle.day.proofs.TimesLaws.{ordered_of, of_ordered}
use Rattle.day.proofs.FormulaLaws.{least, most, ramp, balance, at_most, meeting}
use Rattle.day.proofs.WordsLaws.{up_time_kept, down_time_kept}

-- a breach by its two numbers
same_breach : (a b : Breach) → a.hour.0 ≡ b.hour.0 → a.rule ≡ b.rule → a ≡ b
same_breach a b e f i = record { hour = record { 0 = e i }; rule = f i }

-- ---- a list of numbered tests, each of which says that its number is kept
abbrev Numbered : Type 0
Numbered = List (ℕ × (ℕ → Bool))

data Stated (held : ℕ → Bool) (kept : ℕ → Type 0) (k : ℕ) : Numbered → Type 0 where
  end : Stated held kept k []
  next : {n : ℕ} {f : ℕ → Bool} {rs : Numbered} → T (held n) → (T (f k) ↔ kept n) → Stated held kept k rs
      → Stated held kept k ((n, f) ∷ rs)

-- n is the number of a test
abbrev listed : Numbered → ℕ → Bool
listed [] n = false
listed (r ∷ rs) n = eqb n r.0 || listed rs n

-- the numbers rise from above a
abbrev rising : ℕ → Numbered → Bool
rising a [] = true
rising a (r ∷ rs) = ltb a r.0 && rising r.0 rs

rising_lt : (a : ℕ) (rs : Numbered) → T (rising a rs) → (n : ℕ) → T (listed rs n) → a < n
rising_lt a [] t n i = absurd i
rising_lt a (r ∷ rs) t n i =
    let (b, s) = and_to_both (ltb a r.0) (rising r.0 rs) t in
    let low = ltb→lt a r.0 b in
    ⊎_elim
    (λ e. omega (arith, eqb→eq n r.0 e))
    (λ j. omega (arith, rising_lt r.0 rs s n j))
    (or_to_either (eqb n r.0) (listed rs n) i)

module _ (held : ℕ → Bool) (kept : ℕ → Type 0) (k : ℕ) where
  -- no test fails: every number of the list is kept
  kept_of_none : (a : ℕ) (rs : Numbered) → Stated held kept k rs → T (rising a rs) → broken_of k rs ≡ 0 → (n : ℕ)
      → T (listed rs n) → kept n
  unfolding broken_of
  kept_of_none a [] s t e n i = absurd i
  kept_of_none a ((m, f) ∷ rs) (next o q s) t e n i = go (f k) refl e (and_to_both (ltb a m) (rising m rs) t)
      (kept_of_none m rs s)
    where
      go : (b : Bool) → f k ≡ b → cond b (broken_of k rs) m ≡ 0 → T (ltb a m) × T (rising m rs)
          → (T (rising m rs) → broken_of k rs ≡ 0 → (n : ℕ) → T (listed rs n) → kept n) → kept n
      go true d e (b, u) ih = ⊎_elim
          (λ (j : T (eqb n m)). subst kept (sym (eqb→eq n m j)) (q.0 (true_to_t (f k) d)))
          (λ (j : T (listed rs n)). ih u e n j)
          (or_to_either (eqb n m) (listed rs n) i)
      go false d e (b, u) ih = absurd (omega (arith, ltb→lt a m b))

  -- every number that the hour is held to is kept: no test fails
  none_of_kept : (rs : Numbered) → Stated held kept k rs → ((n : ℕ) → T (held n) → kept n) → broken_of k rs ≡ 0
  unfolding broken_of
  none_of_kept [] s h = refl
  none_of_kept ((m, f) ∷ rs) (next o q s) h = go (f k) refl (none_of_kept rs s h)
    where
      go : (b : Bool) → f k ≡ b → broken_of k rs ≡ 0 → cond b (broken_of k rs) m ≡ 0
      go true d ih = ih
      go false d ih = absurd (false_to_not (f k) d (q.1 (h m o)))

  -- the number of the first test that fails: it is not kept, and those below it are
  record FirstOf (rs : Numbered) (n : ℕ) : Type 0 where
    pub tests : T (held n)
    pub broken : kept n → ⊥
    pub lower : (m : ℕ) → m < n → T (listed rs m) → kept m

  first_broken : (a : ℕ) (rs : Numbered) → Stated held kept k rs → T (rising a rs) → (broken_of k rs ≡ 0 → ⊥)
      → FirstOf rs (broken_of k rs)
  unfolding broken_of
  first_broken a [] s t e = absurd (e refl)
  first_broken a ((m, f) ∷ rs) (next o q s) t e = go (f k) refl e (and_to_both (ltb a m) (rising m rs) t).1
      (first_broken m rs s)
    where
      go : (b : Bool) → f k ≡ b → (cond b (broken_of k rs) m ≡ 0 → ⊥) → T (rising m rs)
          → (T (rising m rs) → (broken_of k rs ≡ 0 → ⊥) → FirstOf rs (broken_of k rs))
          → FirstOf ((m, f) ∷ rs) (cond b (broken_of k rs) m)
      go true d e u ih =
          let r = ih u e in
          record {
            tests = r.tests;
            broken = r.broken;
            lower = λ x b i. ⊎_elim
                (λ (j : T (eqb x m)). subst kept (sym (eqb→eq x m j)) (q.0 (true_to_t (f k) d)))
                (λ (j : T (listed rs x)). r.lower x b j)
                (or_to_either (eqb x m) (listed rs x) i);
          }
      go false d e u ih =
          record {
            tests = o;
            broken = λ h. false_to_not (f k) d (q.1 h);
            lower = λ x b i. absurd (⊎_elim
                (λ (j : T (eqb x m)). omega (arith, eqb→eq x m j))
                (λ (j : T (listed rs x)). omega (arith, rising_lt m rs u x j))
                (or_to_either (eqb x m) (listed rs x) i));
          }

-- ---- each rule by its number
module _ (c : Case) (l : List ℕ) (k : ℕ) where
  there1 : T (rule1 c l k) → Kept c (marking_of c l) k 1
  unfolding rule1 starting stopping start_output v
  there1 t = kept1 ((least (low c) (v c l k) (stopping c l k + starting c l k) (start_output c l k) (p c l k)).0 t)

  back1 : Kept c (marking_of c l) k 1 → T (rule1 c l k)
  unfolding rule1 starting stopping start_output v
  back1 (kept1 h) = (least (low c) (v c l k) (stopping c l k + starting c l k) (start_output c l k) (p c l k)).1 h

  there2 : T (rule2 c l k) → Kept c (marking_of c l) k 2
  unfolding rule2 starting stopping stop_output v
  there2 t = kept2 ((least (low c) (v c l k) (stopping c l k + starting c l k) (stop_output c l k) (p c l k)).0 t)

  back2 : Kept c (marking_of c l) k 2 → T (rule2 c l k)
  unfolding rule2 starting stopping stop_output v
  back2 (kept2 h) = (least (low c) (v c l k) (stopping c l k + starting c l k) (stop_output c l k) (p c l k)).1 h

  there3 : T (rule3 c l k) → Kept c (marking_of c l) k 3
  unfolding rule3 starting start_output v
  there3 t = kept3 ((most (high c) (v c l k) (starting c l k) (start_output c l k) (p c l k)).0 t)

  back3 : Kept c (marking_of c l) k 3 → T (rule3 c l k)
  unfolding rule3 starting start_output v
  back3 (kept3 h) = (most (high c) (v c l k) (starting c l k) (start_output c l k) (p c l k)).1 h

  there4 : T (rule4 c l k) → Kept c (marking_of c l) k 4
  unfolding rule4 stopping stop_output v
  there4 t = kept4 ((most (high c) (v c l k) (stopping c l k) (stop_output c l k) (p c l k)).0 t)

  back4 : Kept c (marking_of c l) k 4 → T (rule4 c l k)
  unfolding rule4 stopping stop_output v
  back4 (kept4 h) = (most (high c) (v c l k) (stopping c l k) (stop_output c l k) (p c l k)).1 h

  there5 : T (rule5 c l k) → Kept c (marking_of c l) k 5
  unfolding rule5 starting v
  there5 t =
      kept5 (rw (sym (before_is k))
      ((ramp (RU c) (high c) (v c l k) (starting c l k) (p c l (before k)) (p c l k)).0 t))

  back5 : Kept c (marking_of c l) k 5 → T (rule5 c l k)
  unfolding rule5 starting v
  back5 (kept5 h) = (ramp (RU c) (high c) (v c l k) (starting c l k) (p c l (before k)) (p c l k)).1 (rw (before_is k) h)

  there6 : T (rule6 c l k) → Kept c (marking_of c l) k 6
  unfolding rule6 stops_within v
  there6 t =
      kept6 (rw (sym (before_is k))
      ((ramp (RD c) (high c) (v c l (before k)) (stops_within c l (DD c) k) (p c l k) (p c l (before k))).0 t))

  back6 : Kept c (marking_of c l) k 6 → T (rule6 c l k)
  unfolding rule6 stops_within v
  back6 (kept6 h) =
      (ramp (RD c) (high c) (v c l (before k)) (stops_within c l (DD c) k) (p c l k) (p c l (before k))).1
      (rw (before_is k) h)

  there7 : T (rule7 c l k) → Kept c (marking_of c l) k 7
  unfolding rule7 v
  there7 t = kept7 (rw (sym (before_is k)) ((balance (y c l k) (v c l (before k)) (v c l k) (z c l k)).0 t))

  back7 : Kept c (marking_of c l) k 7 → T (rule7 c l k)
  unfolding rule7 v
  back7 (kept7 h) = (balance (y c l k) (v c l (before k)) (v c l k) (z c l k)).1 (rw (before_is k) h)

  there8 : T (rule8 c l k) → Kept c (marking_of c l) k 8
  unfolding rule8 starting v
  there8 t = kept8 ((at_most (starting c l k) (v c l k)).0 t)

  back8 : Kept c (marking_of c l) k 8 → T (rule8 c l k)
  unfolding rule8 starting v
  back8 (kept8 h) = (at_most (starting c l k) (v c l k)).1 h

  there9 : T (rule9 c l k) → Kept c (marking_of c l) k 9
  unfolding rule9 stopping v
  there9 t = kept9 ((at_most (stopping c l k) (v c l k)).0 t)

  back9 : Kept c (marking_of c l) k 9 → T (rule9 c l k)
  unfolding rule9 stopping v
  back9 (kept9 h) = (at_most (stopping c l k) (v c l k)).1 h

  there10 : T (rule10 c l k) → Kept c (marking_of c l) k 10
  unfolding rule10 stops_within
  there10 t = kept10 ((at_most (y c l k + stops_within c l (UD c + DD c - 1) k) 1).0 t)

  back10 : Kept c (marking_of c l) k 10 → T (rule10 c l k)
  unfolding rule10 stops_within
  back10 (kept10 h) = (at_most (y c l k + stops_within c l (UD c + DD c - 1) k) 1).1 h

  there11 : T (rule11 c l k) → Kept c (marking_of c l) k 11
  unfolding rule11 starting stopping
  there11 t = kept11 ((meeting (PU c (UD c)) (stopping c l k + starting c l k) (p c l k)).0 t)

  back11 : Kept c (marking_of c l) k 11 → T (rule11 c l k)
  unfolding rule11 starting stopping
  back11 (kept11 h) = (meeting (PU c (UD c)) (stopping c l k + starting c l k) (p c l k)).1 h

  there12 : T (rule12 c l k) → Kept c (marking_of c l) k 12
  unfolding rule12 starting stopping
  there12 t = kept12 ((meeting (PD c 1) (stopping c l k + starting c l k) (p c l k)).0 t)

  back12 : Kept c (marking_of c l) k 12 → T (rule12 c l k)
  unfolding rule12 starting stopping
  back12 (kept12 h) = (meeting (PD c 1) (stopping c l k + starting c l k) (p c l k)).1 h

  there23 : T (rule23 c l k) → Kept c (marking_of c l) k 23
  there23 t = kept23 (ordered_of c l k t)

  back23 : Kept c (marking_of c l) k 23 → T (rule23 c l k)
  back23 (kept23 h) = of_ordered c l k h

module _ (c : Case) (l : List ℕ) (k : ℕ) where
  back21 : Kept c (marking_of c l) (suc k) 21 → T (rule21 c l (suc k))
  back21 (kept21 h) = (up_time_kept c l k).1 h

  back22 : Kept c (marking_of c l) (suc k) 22 → T (rule22 c l (suc k))
  back22 (kept22 h) = (down_time_kept c l k).1 h

-- ---- the tests of an hour
-- the numbers of an hour of the day, and of one after it
abbrev in_day : ℕ → Bool
in_day n = within 1 12 n || within 21 23 n

abbrev after_day : ℕ → Bool
after_day n = eqb n 21

module _ (c : Case) (l : List ℕ) where
  abbrev KeptAt : ℕ → ℕ → Type 0
  KeptAt k n = Kept c (marking_of c l) k n

  stated_opening : Stated (tested c 0) (KeptAt 0) 0 (rules_at c l 0)
  unfolding rules_at
  stated_opening = next tt (there2 c l 0, back2 c l 0) (next tt (there4 c l 0, back4 c l 0) end)

  stated_day : (k : ℕ) → Stated in_day (KeptAt (suc k)) (suc k) (day_rules c l)
  unfolding day_rules
  stated_day k =
      let n : ℕ = suc k in
      next tt (there1 c l n, back1 c l n)
      (next tt (there2 c l n, back2 c l n)
      (next tt (there3 c l n, back3 c l n)
      (next tt (there4 c l n, back4 c l n)
      (next tt (there5 c l n, back5 c l n)
      (next tt (there6 c l n, back6 c l n)
      (next tt (there7 c l n, back7 c l n)
      (next tt (there8 c l n, back8 c l n)
      (next tt (there9 c l n, back9 c l n)
      (next tt (there10 c l n, back10 c l n)
      (next tt (there11 c l n, back11 c l n)
      (next tt (there12 c l n, back12 c l n)
      (next tt (λ t. kept21 ((up_time_kept c l k).0 t), back21 c l k)
      (next tt (λ t. kept22 ((down_time_kept c l k).0 t), back22 c l k)
      (next tt (there23 c l n, back23 c l n) end))))))))))))))

  stated_after : (k : ℕ) → Stated after_day (KeptAt (suc k)) (suc k) ((21, rule21 c l) ∷ [])
  stated_after k = next tt (λ t. kept21 ((up_time_kept c l k).0 t), back21 c l k) end

  stated : (k : ℕ) → Stated (tested c k) (KeptAt k) k (rules_at c l k)
  unfolding rules_at
  stated zero = stated_opening
  stated (suc k) = go (ltb k (last c))
    where
      go : (t : Bool)
          → Stated (λ n. cond t (in_day n) (after_day n)) (KeptAt (suc k)) (suc k)
          (cond t (day_rules c l) ((21, rule21 c l) ∷ []))
      go true = stated_day k
      go false = stated_after k

  rising_rules : (k : ℕ) → T (rising 0 (rules_at c l k))
  unfolding rules_at day_rules
  rising_rules zero = tt
  rising_rules (suc k) = go (ltb k (last c))
    where
      go : (t : Bool) → T (rising 0 (cond t (day_rules c l) ((21, rule21 c l) ∷ [])))
      go true = tt
      go false = tt

-- ---- an hour is held to the numbers of its tests
-- f of every number below n
abbrev below : (ℕ → Bool) → ℕ → Bool
below f zero = true
below f (suc n) = below f n && f n

below_at : (f : ℕ → Bool) (m n : ℕ) → T (below f m) → n < m → T (f n)
below_at f zero n t h = absurd (omega arith)
below_at f (suc m) n t h =
    let (a, b) = and_to_both (below f m) (f m) t in
    ⊎_elim (λ (e : n ≡ m). subst (λ x. T (f x)) (sym e) b) (λ (k : n < m). below_at f m n a k)
    (eq-or-lt_of_le (let k : n ≤ m = omega arith in k))

implied : (a b : Bool) → T (not a || b) → T a → T b
implied true b t s = t
implied false b t s = absurd s

in_day_lt : (n : ℕ) → T (in_day n) → n < 24
in_day_lt n t = ⊎_elim
    (λ a. omega (arith, leb→le n 12 (and_to_both (leb 1 n) (leb n 12) a).1))
    (λ b. omega (arith, leb→le n 23 (and_to_both (leb 21 n) (leb n 23) b).1))
    (or_to_either (within 1 12 n) (within 21 23 n) t)

module _ (c : Case) (l : List ℕ) where
  day_listed : (n : ℕ) → T (in_day n) → T (listed (day_rules c l) n)
  unfolding day_rules
  day_listed n t =
      implied (in_day n) (listed (day_rules c l) n)
      (below_at (λ x. not (in_day x) || listed (day_rules c l) x) 24 n tt (in_day_lt n t)) t

  tested_listed : (k n : ℕ) → T (tested c k n) → T (listed (rules_at c l k) n)
  unfolding rules_at
  tested_listed zero n t = ⊎_elim
      (left_to_or (eqb n 2) (eqb n 4 || false))
      (λ b. right_to_or (eqb n 2) (eqb n 4 || false) (left_to_or (eqb n 4) false b))
      (or_to_either (eqb n 2) (eqb n 4) t)
  tested_listed (suc k) n t = go (ltb k (last c)) t
    where
      go : (b : Bool) → T (cond b (in_day n) (eqb n 21))
          → T (listed (cond b (day_rules c l) ((21, rule21 c l) ∷ [])) n)
      go true t = day_listed n t
      go false t = left_to_or (eqb n 21) false t

  -- ---- a list that keeps every rule
  kept_at : (k : ℕ) → broken_at c l k ≡ 0 → (n : ℕ) → T (tested c k n) → KeptAt c l k n
  unfolding broken_at
  kept_at k e n t =
      kept_of_none (tested c k) (KeptAt c l k) k 0 (rules_at c l k) (stated c l k) (rising_rules c l k) e n
      (tested_listed k n t)

  unbroken_at : (k : ℕ) → ((n : ℕ) → T (tested c k n) → KeptAt c l k n) → broken_at c l k ≡ 0
  unfolding broken_at
  unbroken_at k h = none_of_kept (tested c k) (KeptAt c l k) k (rules_at c l k) (stated c l k) h

  pub kept : T (keeps c l) ↔ ((length l ≡ last c) × KeepsAll c (marking_of c l))
  kept = (
    λ t. (kept_length c l t, λ k n h. kept_at k (kept_unbroken c l t k h) n),
    λ d. kept_of_unbroken c l d.0 (λ k h. unbroken_at k (λ n. d.1 k n h)),
  )

  -- ---- the first breach
  -- the first hour from k on that breaks a rule
  record FirstFrom (k n : ℕ) (b : Breach) : Type 0 where
    pub from : k ≤ b.hour.0
    pub to : b.hour.0 < k + n
    pub rule : broken_at c l b.hour.0 ≡ b.rule
    pub broken : b.rule ≡ 0 → ⊥
    pub earlier : (i : ℕ) → k ≤ i → i < b.hour.0 → broken_at c l i ≡ 0

  first_from : (n k : ℕ) (b : Breach) → breach_from c l k n ≡ some b → FirstFrom k n b
  unfolding breach_from
  first_from zero k b e = absurd (let q : ◌≡◌ {A = ℕ} 0 1 = cc in omega arith)
  first_from (suc n) k b e = go (eqb (broken_at c l k) 0) refl e (first_from n (suc k) b)
    where
      here : Breach
      here = record { hour = record { 0 = k }; rule = broken_at c l k }

      go : (t : Bool) → eqb (broken_at c l k) 0 ≡ t → cond t (breach_from c l (suc k) n) (some here) ≡ some b
          → (breach_from c l (suc k) n ≡ some b → FirstFrom (suc k) n b) → FirstFrom k (suc n) b
      go true d e ih =
          let r = ih e in
          record {
            from = omega (arith, r.from);
            to = omega (arith, r.to);
            rule = r.rule;
            broken = r.broken;
            earlier = λ i a h. ⊎_elim
                (λ (q : k ≡ i). ap (broken_at c l) (sym q) ∙ eqb-true (broken_at c l k) 0 d)
                (λ (q : k < i). r.earlier i q h)
                (eq-or-lt_of_le a);
          }
      go false d e ih =
          let same : here ≡ b = cc in
          subst (FirstFrom k (suc n)) same
          (record {
            from = omega arith;
            to = omega arith;
            rule = refl;
            broken = eqb-false (broken_at c l k) 0 d;
            earlier = λ i a h. absurd (omega arith);
          })

  breaks_of_breach : (b : Breach) → breach c l ≡ some b → Breaks c (marking_of c l) b.hour.0 b.rule
  unfolding breach broken_at
  breaks_of_breach b e =
      let r = first_from (last c + DD c) 0 b e in
      let k = b.hour.0 in
      let f = first_broken (tested c k) (KeptAt c l k) k 0 (rules_at c l k) (stated c l k) (rising_rules c l k)
      (λ z. r.broken (sym r.rule ∙ z)) in
      record {
        inside = omega (arith, r.to);
        held = subst (λ n. T (tested c k n)) r.rule f.tests;
        broken = λ h. f.broken (subst (KeptAt c l k) (sym r.rule) h);
        lower = λ m h t. f.lower m (omega (arith, r.rule)) (tested_listed k m t);
        earlier = λ i m h t. kept_at i (r.earlier i (omega arith) h) m t;
      }

  -- there is one first breach only
  breaks_unique : (k n i m : ℕ) → Breaks c (marking_of c l) k n → Breaks c (marking_of c l) i m → (k ≡ i) × (n ≡ m)
  breaks_unique k n i m a b = go (dec_lt k i) (dec_lt i k) (dec_lt n m) (dec_lt m n)
    where
      go : Dec (k < i) → Dec (i < k) → Dec (n < m) → Dec (m < n) → (k ≡ i) × (n ≡ m)
      go (yes h) q r s = absurd (a.broken (b.earlier k n h a.held))
      go (no h) (yes q) r s = absurd (b.broken (a.earlier i m q b.held))
      go (no h) (no q) (yes r) s =
          let e : k ≡ i = omega arith in
          let held = subst (λ x. T (tested c x n)) e a.held in
          absurd (a.broken (subst (λ x. KeptAt c l x n) (sym e) (b.lower n r held)))
      go (no h) (no q) (no r) (yes s) =
          let e : i ≡ k = omega arith in
          let held = subst (λ x. T (tested c x m)) e b.held in
          absurd (b.broken (subst (λ x. KeptAt c l x m) (sym e) (a.lower m s held)))
      go (no h) (no q) (no r) (no s) = (omega arith, omega arith)

  breach_of_breaks : (b : Breach) → Breaks c (marking_of c l) b.hour.0 b.rule → breach c l ≡ some b
  breach_of_breaks b s = go (breach c l) refl
    where
      go : (x : Option Breach) → breach c l ≡ x → x ≡ some b
      go none d =
          let unbroken = unbroken_of_none c l d b.hour.0 s.inside in
          absurd (s.broken (kept_at b.hour.0 unbroken b.rule s.held))
      go (some a) d =
          let e = breaks_unique a.hour.0 a.rule b.hour.0 b.rule (breaks_of_breach a d) s in
          ap some (same_breach a b e.0 e.1)

  pub first_breach : (b : Breach) → (breach c l ≡ some b) ↔ Breaks c (marking_of c l) b.hour.0 b.rule
  first_breach b = (breaks_of_breach b, breach_of_breaks b)
