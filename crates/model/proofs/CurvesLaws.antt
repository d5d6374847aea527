-- What the check and the search by a cost curve answer and leave, refusal by refusal. Assumes nothing.
use mathlib.Core.Path.{◌≡◌, refl, sym, ap, ◌∙◌}
use mathlib.Core.Logic.{◌⊎◌, inl, inr, ◌↔◌}
use mathlib.Core.Bool.{Bool, true, false, not, ◌||◌}
use mathlib.Core.List.{List, [], ◌∷◌}
use mathlib.Core.Option.{some}
use Prim.Native.Nat.{ℕ, ◌≤◌, ◌<◌}
use native.Mathlib.Omega.{arith}
use borrow.Author.Tests.{eq-eqb, ne_eqb, lt-ltb, le-ltb}
use lib.Dec.{T, ltb, lt→ltb}
use lib.IntN.{ℤ, pos}
use lib.ListN.{length, get_or}
use Rattle.curve.specs.declared.Kind.{Kind}
use Rattle.curve.specs.Cost.{costs_length, record_of, accepted, entry_of, table_of, tabled}
use Rattle.curve.proofs.TableLaws.{table_at}
use Rattle.laws.proofs.Tests.{t_to_true, not_to_false, left_to_or, right_to_or}
use Rattle.cases.specs.declared.Case.{Case}
use Rattle.cases.specs.declared.Breach.{Breach}
use Rattle.cases.specs.declared.Verdict.{Verdict}
use Rattle.cases.specs.declared.Verdict.TheVariants.{Passes, Breaks as Breaching}
use Rattle.cases.specs.Symbols.{last}
use Rattle.day.specs.Rules.{breach, keeps}
use Rattle.day.specs.Profit.{energy}
use Rattle.model.specs.Best.{Best, best_by}
use Rattle.cases.specs.Refusals.{refusal9, work_length, refusal10, first_of, refusal_of}
use Rattle.model.specs.Answers.{judged, Scheduling, planned, verdict_numbers, plan_numbers}
use Rattle.model.specs.Curves.{Filling, refusal16, earned_by, not_checked, checked_by, check_by_curve_of, not_searched}
use Rattle.model.specs.Curves.{scheduled_by, schedule_by_curve_of}
use Rattle.day.specs.Words.{marking_of, earned_at}
use Rattle.model.specs.Promises.{FindsList, FindsNone, FindsRefused, ChecksRefused, Stays, Fills}
use Rattle.day.proofs.CostLaws.{profit_by_earned, profit_by_same, energy_le}
use Rattle.day.proofs.KeepsLaws.{kept_length, kept_none}
use Rattle.cases.proofs.RefusalsLaws.{first_of_tests, tests_within}
use Rattle.model.proofs.BestLaws.{best_by_some, best_by_none, none_of_best_by}
use Rattle.model.proofs.AnswersLaws.{keeps_of_passing, refused_finds, planned_list, planned_none}
use Rattle.model.proofs.AnswersLaws.{none_of_planned}
use Rattle.cases.specs.Reads.{Accepted, Outcome, Refused}
use Rattle.std.specs.Prelude.{Result, Ok}
use Rattle.quantities.specs.declared.Refusal.{Refusal}

-- what a list earns that keeps the rules: no hour of it has an energy past the table
pub curve_earns : (k : Kind) (c : Case) (l : List ℕ) → refusal_of c ≡ 0 → T (keeps c l)
    → earned_by k c l ≡ earned_at (λ n. pos (entry_of k n)) c (marking_of c l)
unfolding earned_by
curve_earns k c l e t =
    profit_by_same (λ n. get_or (table_of k) n (pos 0)) (λ n. pos (entry_of k n)) c l (table_at k 0 (omega arith))
    (λ m h. table_at k (energy c l m) (energy_le c e l t m h))
    ∙ profit_by_earned (λ n. pos (entry_of k n)) c l

-- a refusal, by the papers' words
pub check_stays : (k : Kind) (n : ℕ) (table : List ℤ) {f : Filling (Result Verdict Refusal)} → f ≡ not_checked k n table
    → Stays table (ChecksRefused n) f
check_stays k n table e = rw e (record { says = refl; untouched = refl })

pub search_stays : (k : Kind) (c : Case) (n : ℕ) (table work : List ℤ) (outputs : List ℕ) {f : Filling Scheduling}
    → f ≡ not_searched k n table work outputs → Stays table (FindsRefused n work outputs) f
search_stays k c n table work outputs e = rw e (record { says = refused_finds c work outputs n; untouched = refl })

module _ (k : Kind) where
  -- 16 comes before all
  module _ (bad : T (accepted (record_of k)) → ⊥) where
    sixteen : refusal16 k ≡ true
    unfolding refusal16
    sixteen = ap not (not_to_false (accepted (record_of k)) bad)

    pub check_by_curve_of_sixteen : (o : Outcome) (c : Case) (l : List ℕ) (table : List ℤ)
        → check_by_curve_of k o c l table ≡ not_checked k 16 table
    unfolding check_by_curve_of
    check_by_curve_of_sixteen o c l table = rw sixteen

    pub schedule_by_curve_of_sixteen : (o : Outcome) (c : Case) (table work : List ℤ) (outputs : List ℕ)
        → schedule_by_curve_of k o c table work outputs ≡ not_searched k 16 table work outputs
    unfolding schedule_by_curve_of
    schedule_by_curve_of_sixteen o c table work outputs = rw sixteen

  module _ (good : T (accepted (record_of k))) where
    no_sixteen : refusal16 k ≡ false
    unfolding refusal16
    no_sixteen = ap not (t_to_true (accepted (record_of k)) good)

    -- ---- the check
    module _ (c : Case) (l : List ℕ) (table : List ℤ) where
      abbrev checks : List (ℕ × Bool)
      checks = (9, refusal9 c l) ∷ (10, ltb (length table) costs_length) ∷ []

      pub check_by_curve_of_refused : (n : ℕ) → check_by_curve_of k (Refused n) c l table ≡ not_checked k n table
      unfolding check_by_curve_of
      check_by_curve_of_refused n = rw no_sixteen

      pub check_by_curve_of_outside : (refusal_of c ≡ 0 → ⊥)
          → check_by_curve_of k Accepted c l table ≡ not_checked k (refusal_of c) table
      unfolding check_by_curve_of checked_by
      check_by_curve_of_outside h =
          rw (no_sixteen, first_of_tests c checks, ne_eqb (refusal_of c) 0 h) (rw (ne_eqb (refusal_of c) 0 h))

      module _ (e : refusal_of c ≡ 0) where
        pub check_by_curve_of_length : (length l ≡ last c → ⊥) → check_by_curve_of k Accepted c l table ≡ not_checked k 9 table
        unfolding check_by_curve_of checked_by first_of refusal9
        check_by_curve_of_length h = rw (no_sixteen, tests_within c checks e, ne_eqb (length l) (last c) h)

        module _ (long : length l ≡ last c) where
          pub check_by_curve_of_short : length table < costs_length
              → check_by_curve_of k Accepted c l table ≡ not_checked k 10 table
          unfolding check_by_curve_of checked_by first_of refusal9
          check_by_curve_of_short h =
              rw (
                no_sixteen,
                tests_within c checks e,
                eq-eqb (length l) (last c) long,
                lt-ltb (length table) costs_length h,
              )

          pub check_by_curve_of_judged : costs_length ≤ length table → check_by_curve_of k Accepted c l table
              ≡ record { answer = judged (earned_by k c l) (breach c l); table = tabled k table }
          unfolding check_by_curve_of checked_by first_of refusal9
          check_by_curve_of_judged h =
              rw (
                no_sixteen,
                tests_within c checks e,
                eq-eqb (length l) (last c) long,
                le-ltb (length table) costs_length h,
              )

    -- ---- the search
    module _ (c : Case) (table work : List ℤ) (outputs : List ℕ) where
      abbrev short : Bool
      short = ltb (length table) costs_length || refusal10 c (length work) (length outputs)

      abbrev plan : Filling Scheduling
      plan =
          record { answer = planned c (earned_by k c) work outputs (best_by (earned_by k c) c); table = tabled k table }

      pub schedule_by_curve_of_refused : (n : ℕ)
          → schedule_by_curve_of k (Refused n) c table work outputs ≡ not_searched k n table work outputs
      unfolding schedule_by_curve_of
      schedule_by_curve_of_refused n = rw no_sixteen

      pub schedule_by_curve_of_outside : (refusal_of c ≡ 0 → ⊥)
          → schedule_by_curve_of k Accepted c table work outputs ≡ not_searched k (refusal_of c) table work outputs
      unfolding schedule_by_curve_of scheduled_by
      schedule_by_curve_of_outside h =
          rw (no_sixteen, first_of_tests c ((10, short) ∷ []), ne_eqb (refusal_of c) 0 h) (rw (ne_eqb (refusal_of c) 0 h))

      module _ (e : refusal_of c ≡ 0) where
        ten : short ≡ true → schedule_by_curve_of k Accepted c table work outputs ≡ not_searched k 10 table work outputs
        unfolding schedule_by_curve_of scheduled_by first_of
        ten t = rw (no_sixteen, tests_within c ((10, short) ∷ []) e, t)

        -- a shorter table, working numbers or outputs
        pub schedule_by_curve_of_short : (length table < costs_length)
            ⊎ ((length work < work_length c) ⊎ (length outputs < last c))
            → schedule_by_curve_of k Accepted c table work outputs ≡ not_searched k 10 table work outputs
        unfolding refusal10
        schedule_by_curve_of_short s = ten (t_to_true short (go s))
          where
            table_short : Bool
            table_short = ltb (length table) costs_length

            work_short : Bool
            work_short = ltb (length work) (work_length c)

            outputs_short : Bool
            outputs_short = ltb (length outputs) (last c)

            go : (length table < costs_length) ⊎ ((length work < work_length c) ⊎ (length outputs < last c))
                → T (table_short || (work_short || outputs_short))
            go (inl h) =
                left_to_or table_short (work_short || outputs_short) (lt→ltb (length table) costs_length h)
            go (inr (inl h)) =
                right_to_or table_short (work_short || outputs_short)
                (left_to_or work_short outputs_short (lt→ltb (length work) (work_length c) h))
            go (inr (inr h)) =
                right_to_or table_short (work_short || outputs_short)
                (right_to_or work_short outputs_short (lt→ltb (length outputs) (last c) h))

        pub schedule_by_curve_of_planned : costs_length ≤ length table → work_length c ≤ length work
            → last c ≤ length outputs → schedule_by_curve_of k Accepted c table work outputs ≡ plan
        unfolding schedule_by_curve_of scheduled_by first_of refusal10
        schedule_by_curve_of_planned a b d =
            rw (
              no_sixteen,
              tests_within c ((10, short) ∷ []) e,
              le-ltb (length table) costs_length a,
              le-ltb (length work) (work_length c) b,
              le-ltb (length outputs) (last c) d,
            )

      -- ---- by the papers' words
      module _ (e : refusal_of c ≡ 0) (room : costs_length ≤ length table) (long : work_length c ≤ length work)
          (outs : last c ≤ length outputs) where
        searched : schedule_by_curve_of k Accepted c table work outputs ≡ plan
        searched = schedule_by_curve_of_planned e room long outs

        pub curve_finds : (l : List ℕ) → Best (keeps c) (earned_by k c) l
            → Fills k table (FindsList c (earned_by k c l) work outputs l)
            (schedule_by_curve_of k Accepted c table work outputs)
        curve_finds l b =
            rw (searched, best_by_some c e (earned_by k c) b)
            (record {
              says = planned_list c (earned_by k c) work outputs l (kept_length c l b.kept);
              filled = refl;
            })

        finds_none : ((l : List ℕ) → T (keeps c l) → ⊥)
            → Fills k table (FindsNone c work outputs) (schedule_by_curve_of k Accepted c table work outputs)
        finds_none h =
            rw (searched, best_by_none c e (earned_by k c) h)
            (record { says = planned_none c (earned_by k c) work outputs; filled = refl })

        none_of_finds : Fills k table (FindsNone c work outputs) (schedule_by_curve_of k Accepted c table work outputs)
            → (l : List ℕ) → T (keeps c l) → ⊥
        none_of_finds f =
            none_of_best_by c e (earned_by k c)
            (none_of_planned c (earned_by k c) work outputs (best_by (earned_by k c) c)
            (sym (ap (λ s. (plan_numbers s.answer.answer).0) searched) ∙ ap (λ t. t.0) f.says.numbers))

        pub curve_unscheduled : ((l : List ℕ) → T (keeps c l) → ⊥)
            ↔ Fills k table (FindsNone c work outputs) (schedule_by_curve_of k Accepted c table work outputs)
        curve_unscheduled = (finds_none, none_of_finds)

    module _ (c : Case) (l : List ℕ) (table : List ℤ) (e : refusal_of c ≡ 0) (room : costs_length ≤ length table) where
      -- the list passes, with what it earns
      abbrev passing : Filling (Result Verdict Refusal)
      passing = record { answer = Ok (Passes (record { 0 = earned_by k c l })); table = tabled k table }

      passes_of_keeps : T (keeps c l) → check_by_curve_of k Accepted c l table ≡ passing
      unfolding judged
      passes_of_keeps t = check_by_curve_of_judged c l table e (kept_length c l t) room ∙ rw (kept_none c l t)

      pub keeps_of_curve_passes : {x : ℤ} → verdict_numbers (check_by_curve_of k Accepted c l table).answer ≡ (0, 0, 0, x)
          → T (keeps c l)
      keeps_of_curve_passes =
          keeps_of_passing c l (earned_by k c l)
          (λ h. ap (λ f. verdict_numbers f.answer) (check_by_curve_of_length c l table e h))
          (λ h. ap (λ f. f.answer) (check_by_curve_of_judged c l table e h room))

      keeps_of_passes : check_by_curve_of k Accepted c l table ≡ passing → T (keeps c l)
      keeps_of_passes w = keeps_of_curve_passes (ap (λ (f : Filling (Result Verdict Refusal)). verdict_numbers f.answer) w)

      pub curve_passes : T (keeps c l) ↔ (check_by_curve_of k Accepted c l table ≡ passing)
      curve_passes = (passes_of_keeps, keeps_of_passes)

      pub curve_breaks : length l ≡ last c → (b : Breach) → breach c l ≡ some b
          → check_by_curve_of k Accepted c l table ≡ record { answer = Ok (Breaching b); table = tabled k table }
      unfolding judged
      curve_breaks h b d = check_by_curve_of_judged c l table e h room ∙ rw d refl
