-- Two days back to back: a list of both runs through the first, and from the state that it leaves through the next.
-- Assumes nothing.
use mathlib.Core.Path.{◌≡◌, refl, sym, ap, ◌∙◌, subst}
use mathlib.Core.Logic.{◌↔◌}
use mathlib.Core.List.{List, ◌++◌}
use Prim.Native.Nat.{ℕ, zero, suc, ◌+◌, ◌≤◌, ◌<◌}
use native.Mathlib.Omega.{arith}
use lib.Dec.{T}
use lib.ListN.{length, length-append}
use Rattle.cases.specs.declared.Case.{Case}
use Rattle.quantities.specs.declared.Mills.{Mills}
use Rattle.cases.specs.Limits.{most_hours}
use Rattle.cases.specs.Symbols.{last, order, p0, up_stage, down_stage}
use Rattle.day.specs.Rules.{keeps}
use Rattle.cases.specs.Layout.{opening_of}
use Rattle.cases.specs.Refusals.{refusal_of}
use Rattle.promises.specs.Next.{leaves, another_day, next_day, both_days}
use Rattle.cases.specs.Published.{Opening}
use Rattle.day.specs.Words.{Ordered}
use Rattle.day.specs.Automaton.{St, Step, Runs, Final, first}
use Rattle.cases.proofs.LimitsLaws.{Limits, limits_of_refusal_of}
use Rattle.day.proofs.Automaton.Keeping.{runs_ends, keeps_runs}
use Rattle.day.proofs.Automaton.Joined.{runs_split, runs_join, runs_const, step_to, step_from, runs_map}
use Rattle.day.proofs.Automaton.Joined.{alike_runs, alike_back}
use Rattle.promises.proofs.LeavesLaws.{left}
use Rattle.promises.proofs.BothLaws.{order_first, order_second, limits_both, next_limits}

-- an hour whose order is the same
ordered_same : (c d : Case) (k j q : ℕ) → order c k ≡ order d j → Ordered c k q → Ordered d j q
ordered_same c d k j q e o =
    record {
      on_line = λ x. o.on_line (e ∙ x);
      off_line = λ x. o.off_line (e ∙ x);
      known = omega (arith, o.known);
    }

module _ (c : Case) (l : List ℕ) (prices : List Mills) (orders : List ℕ) (n : ℕ) (accepted : refusal_of c ≡ 0)
    (within : refusal_of (another_day c prices orders n) ≡ 0) where
  abbrev next : Case
  next = next_day c l prices orders n

  abbrev both : Case
  both = both_days c prices orders n

  abbrev start : Case → St
  start d = first d (up_stage d) (down_stage d) (p0 d)

  lim : Limits c
  lim = limits_of_refusal_of c accepted

  -- the opening of the next day
  pub next_opens : T (keeps c l) → refusal_of next ≡ 0
  next_opens t =
      let (e, late, r) = (keeps_runs c l lim).0 t in
      let said = runs_ends c l lim e late Final (λ t. Opening next)
      (λ t v x. (left c l lim prices orders n t v).opening) r in
      next_limits c prices orders n within l (runs_const c (Opening next) (Ordered c) l 0 (start c) said)

  module _ (m : List ℕ) (room : last c + n ≤ most_hours) (first_long : length l ≡ last c)
      (second_long : length m ≡ n) where
    lim_both : Limits both
    lim_both = limits_both c prices orders n lim (limits_of_refusal_of (another_day c prices orders n) within) room

    -- both days open as the first
    same_start : start both ≡ start c
    same_start = go (up_stage c) (down_stage c) (p0 c)
      where
        go : (i j x : ℕ) → first both i j x ≡ first c i j x
        go (suc i) j x = refl
        go zero (suc j) x = refl
        go zero zero zero = refl
        go zero zero (suc x) = refl

    -- the hours of the first day and those of the next, in both
    first_ordered : (i q : ℕ) → i < length l → Ordered both (suc (0 + i)) q → Ordered c (suc (0 + i)) q
    first_ordered i q h = ordered_same both c (suc (0 + i)) (suc (0 + i)) q
        (order_first c prices orders n (suc (0 + i)) (omega arith) (omega arith))

    first_back : (i q : ℕ) → i < length l → Ordered c (suc (0 + i)) q → Ordered both (suc (0 + i)) q
    first_back i q h = ordered_same c both (suc (0 + i)) (suc (0 + i)) q
        (sym (order_first c prices orders n (suc (0 + i)) (omega arith) (omega arith)))

    second_order : (i : ℕ) → order both (suc (last c + i)) ≡ order next (suc (0 + i))
    second_order i =
        ap (order both) (let e : suc (last c + i) ≡ last c + suc (0 + i) = omega arith in e)
        ∙ order_second c prices orders n (suc (0 + i)) (omega arith)

    -- the unit's steps are those of either record
    both_next : (q : ℕ) (s t : St) → Step both q s t → Step next q s t
    both_next q s t g = step_to c (leaves c l) prices orders n q s t (step_from c (opening_of c) _ _ _ q s t g)

    next_both : (q : ℕ) (s t : St) → Step next q s t → Step both q s t
    next_both q s t g = step_to c (opening_of c) _ _ _ q s t (step_from c (leaves c l) prices orders n q s t g)

    -- through the next day from a state at the end of the first
    abbrev On : St → Type 0
    On t = Runs both Final (Ordered both) (last c) t m

    on_next : (t : St) → On t → Runs next Final (Ordered next) 0 t m
    on_next t r =
        runs_map both next both_next Final (Ordered both) (Ordered next) m (last c) 0 t
        (λ i q h. ordered_same both next (suc (last c + i)) (suc (0 + i)) q (second_order i)) r

    on_both : (t : St) → Runs next Final (Ordered next) 0 t m → On t
    on_both t r =
        runs_map next both next_both Final (Ordered next) (Ordered both) m 0 (last c) t
        (λ i q h. ordered_same next both (suc (0 + i)) (suc (last c + i)) q (sym (second_order i))) r

    apart : T (keeps both (l ++ m)) → T (keeps c l) × T (keeps next m)
    apart t =
        let (e, late, r) = (keeps_runs both (l ++ m) lim_both).0 t in
        let from = subst (λ s. Runs both Final (Ordered both) 0 s (l ++ m)) same_start r in
        let split = runs_split both Final (Ordered both) m (last c) l 0 (start c) (omega arith) from in
        let ran = runs_map both c (λ q s t g. step_from c (opening_of c) _ _ _ q s t g) On (Ordered both) (Ordered c)
        l 0 0 (start c) first_ordered split in
        let kept = (keeps_runs c l lim).1
        (first_long, late, runs_ends c l lim first_long late On Final (λ t v x. tt) ran) in
        let lim_next = limits_of_refusal_of next (next_opens kept) in
        let goes = runs_ends c l lim first_long late On (λ t. T (keeps next m))
        (λ t v x. let s = left c l lim prices orders n t v in
        (keeps_runs next m lim_next).1
        (second_long, s.late, alike_runs next (Ordered next) m 0 t (start next) s.like (on_next t x))) ran in
        (kept, runs_const c (T (keeps next m)) (Ordered c) l 0 (start c) goes)

    together : T (keeps c l) → T (keeps next m) → T (keeps both (l ++ m))
    together t u =
        let (e, late, r) = (keeps_runs c l lim).0 t in
        let (f, later, s) = (keeps_runs next m (limits_of_refusal_of next (next_opens t))).0 u in
        let ran = runs_ends c l lim e late Final On
        (λ t v x. let like = alike_back next (left c l lim prices orders n t v).like in
        on_both t (alike_runs next (Ordered next) m 0 (start next) t like s)) r in
        let moved = runs_map c both (λ q s t g. step_to c (opening_of c) _ _ _ q s t g) On (Ordered c) (Ordered both)
        l 0 0 (start c) first_back ran in
        let long : length (l ++ m) ≡ last c + n = omega (arith, length-append l m) in
        let joined = runs_join both Final (Ordered both) m (last c) l 0 (start c) (omega arith) moved in
        (keeps_runs both (l ++ m) lim_both).1
        (long, late, subst (λ s. Runs both Final (Ordered both) 0 s (l ++ m)) (sym same_start) joined)

    pub back_to_back : T (keeps both (l ++ m)) ↔ (T (keeps c l) × T (keeps next m))
    back_to_back = (apart, λ k. together k.0 k.1)
