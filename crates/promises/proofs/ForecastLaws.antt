-- What a price forecast can do, of any search that answers with the best list by what lists earn at a row of prices,
-- and any check that says what they earn; and that `schedule` and `check` are such, plain, by a calendar and by a
-- curve. Assumes nothing.
use mathlib.Core.Path.{◌≡◌, refl, sym, ap, subst, ◌∙◌}
use mathlib.Core.Logic.{◌⊎◌, inl, inr}
use mathlib.Core.Bool.{Bool}
use mathlib.Core.List.{List}
use mathlib.Core.Option.{Option, none, some}
use Prim.Native.Nat.{ℕ, ◌+◌, ◌*◌, ◌≤◌, ◌<◌}
use native.Mathlib.Omega.{arith}
use lib.Dec.{T}
use lib.IntN.{ℤ, pos, ◌+ℤ◌, ◌-ℤ◌, ◌*ℤ◌}
use lib.ListN.{length, get_or, take}
use lib.Signed.{◌≤ℤ◌, ≤ℤ_refl}
use Rattle.curve.specs.declared.Kind.{Kind}
use Rattle.curve.specs.Cost.{costs_length, record_of, accepted as acceptable}
use Rattle.laws.proofs.Signed.{linear, parts_add, parts_sub, parts_mul, parts_pos}
use Rattle.cases.specs.declared.Case.{Case}
use Rattle.quantities.specs.declared.Mills.{Mills}
use Rattle.cases.specs.declared.Verdict.{Verdict}
use Rattle.cases.specs.Symbols.{high, last}
use Rattle.day.specs.Marks.{p}
use Rattle.day.specs.Rules.{keeps}
use Rattle.day.specs.Profit.{energy, profit_of}
use Rattle.model.specs.Best.{Best, best_by, best_day}
use Rattle.cases.specs.Refusals.{work_length, refusal_of}
use Rattle.model.specs.Answers.{Scheduling, planned, check_of, schedule_of, verdict_numbers, plan_numbers}
use Rattle.model.specs.Calendar.{calendar_of}
use Rattle.model.specs.Curves.{Filling, earned_by, check_by_curve_of, schedule_by_curve_of}
use Rattle.cases.specs.Published.{FirstRefused}
use Rattle.model.specs.Windows.{CalendarLimited, calendar_order, GivesOrder}
use Rattle.promises.specs.Forecast.{with_prices, ordered, NoLower, HalfWay, RaisedBy, RaisedAt, gain, distance}
use Rattle.promises.specs.Forecast.{energy_of, Row, Calls, number, best, plan, earns, Pass, Forecasts}
use Rattle.cases.proofs.LimitsLaws.{limits_of_refusal_of}
use Rattle.day.proofs.KeepsLaws.{kept_length}
use Rattle.day.proofs.CapacityLaws.{p_le}
use Rattle.model.proofs.BestLaws.{best_most, best_of_best_by, none_of_best_by}
use Rattle.model.proofs.ScheduleLaws.{schedule_of_planned}
use Rattle.model.proofs.AnswersLaws.{passes, keeps_of_passes, planned_list, planned_none}
use Rattle.model.proofs.CalendarLaws.{filled_day}
use Rattle.model.proofs.CurvesLaws.{schedule_by_curve_of_planned, keeps_of_curve_passes, curve_passes}
use Rattle.day.proofs.PricesLaws.{keeps_prices}
use Rattle.promises.proofs.PricesLaws.{profit_of_gain, profit_by_gain, gain_no_lower, gain_apart}
use Rattle.promises.proofs.PricesLaws.{best_no_lower, best_regret, best_raised, best_raised_at, earns_half_way}
use Rattle.promises.proofs.PricesLaws.{best_half_way}
use Rattle.cases.specs.Reads.{Accepted}
use Rattle.std.specs.Prelude.{Result}
use Rattle.quantities.specs.declared.Refusal.{Refusal}

-- what a search answers: the best list of those that pass, with what it earns; or 11, and no list passes
pub data Answered (hours : ℕ) (passes : List ℕ → Bool) (pays : List ℕ → ℤ) (s : Scheduling) : Type 0 where
  has : Best passes pays (take hours s.outputs)
      → plan_numbers s.answer ≡ (0, pays (take hours s.outputs)) → Answered hours passes pays s
  has_none : ((l : List ℕ) → T (passes l) → ⊥) → plan_numbers s.answer ≡ (11, pos 0) → Answered hours passes pays s

twice : {x y : ℤ} → x ≤ℤ y → (x *ℤ pos 2) ≤ℤ (y *ℤ pos 2)
twice {x} {y} h = omega (linear, parts_mul x 2, parts_mul y 2)

-- ---- any search and check of a record, by what lists earn at a row of prices
module _ {c : Case} (calls : Calls c) (pays : List Mills → List ℕ → ℤ)
    (gains : (f g : List Mills) (l : List ℕ) → pays g l ≡ pays f l +ℤ gain c f g l)
    (answers : (f : Row c) → Answered c.hours (keeps c) (pays f.prices) (calls.search f))
    (judges : (f : Row c) (l : List ℕ) → T (keeps c l)
    → verdict_numbers (calls.check f l) ≡ (0, 0, 0, pays f.prices l))
    (kept : (f : Row c) (l : List ℕ) → Pass calls f l → T (keeps c l)) where
  paid : (f : Row c) (l : List ℕ) → T (keeps c l) → earns calls f l ≡ pays f.prices l
  paid f l k = ap (λ v. v.3) (judges f l k)

  pass : (f : Row c) (l : List ℕ) → T (keeps c l) → Pass calls f l
  pass f l k = judges f l k ∙ ap (λ x. (0, 0, 0, x)) (sym (paid f l k))

  -- ---- a list is found at every row, or at none
  record Found (f : Row c) : Type 0 where
    pub found : number calls f ≡ 0
    pub top : Best (keeps c) (pays f.prices) (plan calls f)
    pub profit : best calls f ≡ pays f.prices (plan calls f)

  record None (f : Row c) : Type 0 where
    pub refused : number calls f ≡ 11
    pub nothing : best calls f ≡ pos 0

  data Day : Type 0 where
    some_list : ((f : Row c) → Found f) → Day
    no_list : ((f : Row c) → None f) → Day

  found_at : (l : List ℕ) → T (keeps c l) → (f : Row c) → Found f
  found_at l k f = go (answers f)
    where
      go : Answered c.hours (keeps c) (pays f.prices) (calls.search f) → Found f
      go (has b e) = record { found = ap (λ t. t.0) e; top = b; profit = ap (λ t. t.1) e }
      go (has_none h e) = absurd (h l k)

  none_at : ((l : List ℕ) → T (keeps c l) → ⊥) → (f : Row c) → None f
  none_at h f = go (answers f)
    where
      go : Answered c.hours (keeps c) (pays f.prices) (calls.search f) → None f
      go (has b e) = absurd (h _ b.kept)
      go (has_none _ e) = record { refused = ap (λ t. t.0) e; nothing = ap (λ t. t.1) e }

  day : Row c → Day
  day f = go (answers f)
    where
      go : Answered c.hours (keeps c) (pays f.prices) (calls.search f) → Day
      go (has b e) = some_list (found_at _ b.kept)
      go (has_none h e) = no_list (none_at h)

  found_by : (f : Row c) → number calls f ≡ 0 → (g : Row c) → Found g
  found_by f n = go (day f)
    where
      go : Day → (g : Row c) → Found g
      go (some_list s) = s
      go (no_list s) = absurd (omega (arith, n, (s f).refused))

  -- ---- the request's three statements
  alike : (f g : Row c)
      → ((number calls f ≡ 0) × (number calls g ≡ 0)) ⊎ ((number calls f ≡ 11) × (number calls g ≡ 11))
  alike f g = go (day f)
    where
      go : Day → ((number calls f ≡ 0) × (number calls g ≡ 0)) ⊎ ((number calls f ≡ 11) × (number calls g ≡ 11))
      go (some_list s) = inl ((s f).found, (s g).found)
      go (no_list s) = inr ((s f).refused, (s g).refused)

  no_lower : (f g : Row c) → NoLower c f.prices g.prices → best calls f ≤ℤ best calls g
  no_lower f g h = go (day f)
    where
      go : Day → best calls f ≤ℤ best calls g
      go (some_list s) =
          rw ((s f).profit, (s g).profit)
          (best_no_lower c (keeps c) pays gains f.prices g.prices (s f).top (s g).top h)
      go (no_list s) = rw ((s f).nothing, (s g).nothing) (≤ℤ_refl (pos 0))

  module _ (f g e : Row c) (h : HalfWay c f.prices g.prices e.prices) where
    half_way : (best calls e *ℤ pos 2) ≤ℤ (best calls f +ℤ best calls g)
    half_way = go (day f)
      where
        go : Day → (best calls e *ℤ pos 2) ≤ℤ (best calls f +ℤ best calls g)
        go (some_list s) =
            rw ((s f).profit, (s g).profit, (s e).profit)
            (best_half_way c (keeps c) pays gains f.prices g.prices e.prices h (s f).top (s g).top
            (s e).top)
        go (no_list s) = rw ((s f).nothing, (s g).nothing, (s e).nothing) (≤ℤ_refl (pos 0))

    -- what a list earns at the two rows together
    both : (l : List ℕ) → T (keeps c l) → earns calls f l +ℤ earns calls g l ≡ pays e.prices l *ℤ pos 2
    both l k =
        rw (paid f l k, paid g l k)
        (sym (earns_half_way c (keeps c) pays gains f.prices g.prices e.prices h l))

    half_way_plan : number calls e ≡ 0
        → (earns calls f (plan calls e) +ℤ earns calls g (plan calls e) ≡ best calls e *ℤ pos 2)
        × ((l : List ℕ) → Pass calls f l → (earns calls f l +ℤ earns calls g l) ≤ℤ (best calls e *ℤ pos 2))
    half_way_plan n =
        let at_e = found_by e n e in
        rw at_e.profit (
          both (plan calls e) at_e.top.kept,
          λ l s. rw (both l (kept f l s)) (twice (best_most at_e.top (kept f l s))),
        )

  -- ---- a list, and the plan of one row, at another
  most : (f : Row c) (l : List ℕ) → Pass calls f l → earns calls f l ≤ℤ best calls f
  most f l s =
      let k = kept f l s in
      let at_f = found_at l k f in
      rw (paid f l k, at_f.profit) (best_most at_f.top k)

  carried : (f g : Row c) (l : List ℕ) → Pass calls f l
      → Pass calls g l × (earns calls g l ≡ earns calls f l +ℤ gain c f.prices g.prices l)
  carried f g l s =
      let k = kept f l s in
      (pass g l k, rw (paid f l k, paid g l k) (gains f.prices g.prices l))

  planned_passes : (f : Row c) → number calls f ≡ 0
      → Pass calls f (plan calls f) × (earns calls f (plan calls f) ≡ best calls f)
  planned_passes f n =
      let at_f = found_by f n f in
      let k = at_f.top.kept in
      (pass f (plan calls f) k, paid f (plan calls f) k ∙ sym at_f.profit)

  within : (f : Row c) → Found f → (k : ℕ) → k ≤ last c → p c (plan calls f) k ≤ high c
  unfolding p
  within f at_f =
      p_le (with_prices c f.prices) (limits_of_refusal_of _ f.accepted) (plan calls f)
      (subst T (sym (keeps_prices c f.prices (plan calls f))) at_f.top.kept)

  module _ (f g : Row c) (n : number calls f ≡ 0) where
    at_f : Found f
    at_f = found_by f n f

    at_g : Found g
    at_g = found_by f n g

    -- what the second row brings each plan more than the first
    abbrev of_f : ℤ
    of_f = gain c f.prices g.prices (plan calls f)

    abbrev of_g : ℤ
    of_g = gain c f.prices g.prices (plan calls g)

    regret : best calls g ≤ℤ (earns calls g (plan calls f) +ℤ (of_g -ℤ of_f))
    regret =
        rw (at_g.profit, paid g (plan calls f) at_f.top.kept)
        (best_regret c (keeps c) pays gains f.prices g.prices at_f.top at_g.top)

    regret_most : best calls g
        ≤ℤ (earns calls g (plan calls f) +ℤ pos (2 * high c * distance c f.prices g.prices))
    regret_most =
        let earned = earns calls g (plan calls f) in
        let all = pos (2 * high c * distance c f.prices g.prices) in
        omega (
          linear,
          regret,
          gain_apart c f.prices g.prices (plan calls f) (plan calls g) (within f at_f) (within g at_g),
          parts_sub of_g of_f,
          parts_add earned (of_g -ℤ of_f),
          parts_add of_f all,
          parts_add earned all,
        )

    kept_promise : NoLower c f.prices g.prices → best calls f ≤ℤ earns calls g (plan calls f)
    kept_promise h =
        let first = pays f.prices (plan calls f) in
        rw (at_f.profit, paid g (plan calls f) at_f.top.kept, gains f.prices g.prices (plan calls f))
        (omega (
          linear,
          gain_no_lower c (plan calls f) f.prices g.prices h,
          parts_add first of_f,
          parts_pos 0,
        ))

    raised : (d : ℕ) → RaisedBy c d f.prices g.prices
        → ((best calls f +ℤ pos (d * energy_of c (plan calls f))) ≤ℤ best calls g)
        × (best calls g ≤ℤ (best calls f +ℤ pos (d * energy_of c (plan calls g))))
        × (1 ≤ d → energy_of c (plan calls f) ≤ energy_of c (plan calls g))
    raised d h =
        rw (at_f.profit, at_g.profit)
        (best_raised c (keeps c) pays gains f.prices g.prices at_f.top at_g.top d h)

    raised_at : (j : ℕ) → RaisedAt c j f.prices g.prices → energy c (plan calls f) j ≤ energy c (plan calls g) j
    raised_at = best_raised_at c (keeps c) pays gains f.prices g.prices at_f.top at_g.top

  pub forecasts : Forecasts calls
  forecasts =
      record {
        alike = alike;
        no_lower = no_lower;
        half_way = half_way;
        carried = carried;
        most = most;
        planned = planned_passes;
        regret = regret;
        regret_most = regret_most;
        kept_promise = kept_promise;
        raised = λ d f g n. raised f g n d;
        raised_at = λ j f g n. raised_at f g n j;
        half_way_plan = half_way_plan;
      }

-- ---- the searches
-- what is planned from the best list by what lists earn
planned_answers : (d : Case) (e : refusal_of d ≡ 0) (pays : List ℕ → ℤ) (work : List ℤ) (outputs : List ℕ)
    → Answered d.hours (keeps d) pays (planned d pays work outputs (best_by pays d))
planned_answers d e pays work outputs = go (best_by pays d) refl
  where
    go : (r : Option (List ℕ)) → best_by pays d ≡ r → Answered d.hours (keeps d) pays (planned d pays work outputs r)
    go none q = has_none (none_of_best_by d e pays q) (planned_none d pays work outputs).numbers
    go (some l) q =
        let b = best_of_best_by d e pays q in
        let says = planned_list d pays work outputs l (kept_length d l b.kept) in
        has (subst (Best (keeps d) pays) (sym says.found) b)
        (says.numbers ∙ ap (λ m. (0, pays m)) (sym says.found))

module _ (c : Case) (f : Row c) where
  -- the record with the prices of the row, and the lists that keep its rules
  abbrev at : Case
  at = with_prices c f.prices

  own : (l : List ℕ) → T (keeps at l) → T (keeps c l)
  own l = subst T (keeps_prices c f.prices l)

  there : (l : List ℕ) → T (keeps c l) → T (keeps at l)
  there l = subst T (sym (keeps_prices c f.prices l))

  answered : {pays : List ℕ → ℤ} {s : Scheduling} → Answered c.hours (keeps at) pays s
      → Answered c.hours (keeps c) pays s
  answered (has b e) = has (record { kept = own _ b.kept; tops = λ m k. b.tops m (there m k) }) e
  answered (has_none h e) = has_none (λ l k. h l (there l k)) e

  searched : (pays : List ℕ → ℤ) (work : List ℤ) (outputs : List ℕ) {s : Scheduling}
      → s ≡ planned at pays work outputs (best_by pays at) → Answered c.hours (keeps c) pays s
  searched pays work outputs e = answered (rw e (planned_answers at f.accepted pays work outputs))

module _ (c : Case) (work : Row c → List ℤ) (outputs : Row c → List ℕ)
    (long : (f : Row c) → work_length c ≤ length (work f)) (room : (f : Row c) → c.hours ≤ length (outputs f)) where
  search_is : (f : Row c)
      → schedule_of Accepted (at c f) (work f) (outputs f)
      ≡ planned (at c f) (profit_of (at c f)) (work f) (outputs f) (best_by (profit_of (at c f)) (at c f))
  unfolding best_day work_length
  search_is f = schedule_of_planned (at c f) (work f) (outputs f) f.accepted (long f) (room f)

  -- any search that answers as `schedule` does at each row
  as_scheduled : (search : Row c → Scheduling)
      → ((f : Row c) → search f ≡ schedule_of Accepted (at c f) (work f) (outputs f))
      → Forecasts {c = c} (record { search = search; check = λ f l. check_of Accepted (at c f) l })
  as_scheduled search same =
      forecasts _ (λ f l. profit_of (with_prices c f) l) (profit_of_gain c)
      (λ f. searched c f (profit_of (at c f)) (work f) (outputs f) (same f ∙ search_is f))
      (λ f l k. (passes (at c f) l f.accepted).0 (there c f l k))
      (λ f l s. own c f l (keeps_of_passes (at c f) l f.accepted s))

  pub forecast : Forecasts {c = c} (record {
    search = λ f. schedule_of Accepted (at c f) (work f) (outputs f);
    check = λ f l. check_of Accepted (at c f) l;
  })
  forecast = as_scheduled (λ f. schedule_of Accepted (at c f) (work f) (outputs f)) (λ f. refl)

-- by a calendar: the record with the orders of the day, where its own are accepted too
module _ (c : Case) (on off : List ℕ) (first hours : ℕ) (orders : List ℕ)
    (limited : FirstRefused (CalendarLimited on off first hours) calendar_order 0) (whole : c.hours ≡ hours)
    (given : (i : ℕ) → i < hours → GivesOrder on off (first + i) (get_or orders i 0))
    (accepted : (f : Row (ordered c orders)) → refusal_of (with_prices c f.prices) ≡ 0)
    (work : Row (ordered c orders) → List ℤ) (outputs : Row (ordered c orders) → List ℕ)
    (long : (f : Row (ordered c orders)) → work_length c ≤ length (work f))
    (room : (f : Row (ordered c orders)) → c.hours ≤ length (outputs f)) where
  pub calendar_forecast : Forecasts {c = ordered c orders} (record {
    search = λ f. calendar_of Accepted (with_prices c f.prices) on off first hours (work f) (outputs f);
    check = λ f l. check_of Accepted (at (ordered c orders) f) l;
  })
  unfolding work_length
  calendar_forecast =
      as_scheduled (ordered c orders) work outputs long room _
      (λ f. filled_day (with_prices c f.prices) on off first hours (work f) (outputs f) limited orders whole
      (accepted f) given)

-- by a curve
module _ (k : Kind) (good : T (acceptable (record_of k))) (c : Case) (table work : Row c → List ℤ)
    (outputs : Row c → List ℕ) (room : (f : Row c) → costs_length ≤ length (table f))
    (long : (f : Row c) → work_length c ≤ length (work f)) (outs : (f : Row c) → c.hours ≤ length (outputs f)) where
  search_by : (f : Row c)
      → (schedule_by_curve_of k Accepted (at c f) (table f) (work f) (outputs f)).answer
      ≡ planned (at c f) (earned_by k (at c f)) (work f) (outputs f) (best_by (earned_by k (at c f)) (at c f))
  unfolding work_length
  search_by f =
      ap (λ (x : Filling Scheduling). x.answer)
      (schedule_by_curve_of_planned k good (at c f) (table f) (work f) (outputs f) f.accepted (room f) (long f)
      (outs f))

  earned_by_gain : (f g : List Mills) (l : List ℕ)
      → earned_by k (with_prices c g) l ≡ earned_by k (with_prices c f) l +ℤ gain c f g l
  unfolding earned_by
  earned_by_gain f g l = profit_by_gain c f g l _

  pub curve_forecast : Forecasts {c = c} (record {
    search = λ f. (schedule_by_curve_of k Accepted (at c f) (table f) (work f) (outputs f)).answer;
    check = λ f l. (check_by_curve_of k Accepted (at c f) l (table f)).answer;
  })
  curve_forecast =
      forecasts _ (λ f l. earned_by k (with_prices c f) l) earned_by_gain
      (λ f. searched c f (earned_by k (at c f)) (work f) (outputs f) (search_by f))
      (λ f l s. ap (λ (x : Filling (Result Verdict Refusal)). verdict_numbers x.answer)
      ((curve_passes k good (at c f) l (table f) f.accepted (room f)).0 (there c f l s)))
      (λ f l s. own c f l (keeps_of_curve_passes k good (at c f) l (table f) f.accepted (room f) s))
