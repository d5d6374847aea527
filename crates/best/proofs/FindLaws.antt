-- What the search leaves is what the papers ask for: the best list and its profit, or no schedule. Assumes nothing.
use mathlib.Core.Path.{◌≡◌, refl, sym, ap, ◌∙◌, subst}
use mathlib.Core.Bool.{true, false, true≢false}
use mathlib.Core.List.{List, ◌++◌}
use mathlib.Core.Option.{Option, none, some}
use Prim.Native.Nat.{ℕ}
use lib.IntN.{ℤ}
use lib.ListN.{length, drop}
use lib.Signed.{le_z}
use Rattle.cases.specs.declared.Case.{Case}
use Rattle.day.specs.Profit.{profit_of, profit_by, plain_cost}
use Rattle.model.specs.Best.{best_by, best_day}
use Rattle.cases.specs.Refusals.{work_length, refusal_of}
use Rattle.model.specs.Answers.{Scheduling, cleared, planned}
use Rattle.day.proofs.ProfitLaws.{profit_by_plain}
use Rattle.model.proofs.BestLaws.{best_by_plain}
use Rattle.machine.specs.Coded.{missing, coded, Bounded, amount}
use Rattle.machine.specs.Search.{maybe}
use Rattle.machine.specs.Bounds.{most_worth}
use Rattle.machine.specs.declared.Rates.{Rates}
use Rattle.machine.specs.Cases.{unit_of, tariff_at, Pays, opening_of, stops_early}
use Rattle.machine.proofs.Table.BoundsLaws.{worth_below}
use Rattle.machine.proofs.Table.CodedLaws.{low}
use Rattle.machine.proofs.Table.Sizes.{worth_size}
use Rattle.machine.proofs.Bridge.FitLaws.{fit_of_limits, fair_of_limits}
use Rattle.machine.proofs.Bridge.Bests.{worth_profit, worth_none, plan_at_best, length_plan_at, best_early}
use Rattle.cells.specs.Table.{Found}
use Rattle.best.specs.Searched.{searched_by}
use Rattle.cases.specs.Reads.{Refused}
use Rattle.std.specs.Prelude.{Ok}

-- a worth of a day is above the code of none
amount_above : (v : ℤ) → Bounded most_worth (some v) → le_z v missing ≡ false
amount_above v (amount b) = low most_worth worth_below v b

module _ (c : Case) (e : refusal_of c ≡ 0) (late : stops_early c ≡ false) {rates : Rates} {costs : List ℤ} {cost : ℕ → ℤ}
    (pays : Pays rates costs cost) (work : List ℤ) (ys zs : List ℕ) (z : ℤ)
    (found : Found (unit_of c) (tariff_at c rates costs) (opening_of c) ys zs z) where
  -- the best list by what an hour costs
  abbrev best : Option (List ℕ)
  best = best_by (profit_by cost c) c

  -- what is to be left, where the best list is r
  abbrev wanted : Option (List ℕ) → Scheduling
  wanted r = planned c (profit_by cost c) work ys r

  -- the number tells whether there is a list
  present : (l : List ℕ) → best ≡ some l → le_z z missing ≡ false
  present l b =
      let w = worth_profit c e late pays l b in
      rw (found.profit ∙ ap coded w)
      (amount_above (profit_by cost c l) (subst (Bounded most_worth) w
      (worth_size (unit_of c) (fit_of_limits c e) (tariff_at c rates costs) (fair_of_limits c e pays) 0 (opening_of c))))

  absent : best ≡ none → le_z z missing ≡ true
  absent b = rw (found.profit ∙ ap coded (worth_none c e late pays b)) refl

  -- what is left, where the number says that there is none
  pub find_none : le_z z missing ≡ true → (Refused 11 ≡ (wanted best).answer) × (zs ≡ (wanted best).outputs)
  unfolding planned
  find_none t = go best refl
    where
      go : (r : Option (List ℕ)) → best ≡ r → (Refused 11 ≡ (wanted r).answer) × (zs ≡ (wanted r).outputs)
      go none d = (refl, found.list ∙ ap (maybe ys _) (worth_none c e late pays d))
      go (some l) d = absurd (true≢false (sym t ∙ present l d))

  -- and where it is a profit
  pub find_some : le_z z missing ≡ false
      → (Ok (record { 0 = z }) ≡ (wanted best).answer) × (zs ≡ (wanted best).outputs)
  unfolding planned unit_of
  find_some t = go best refl
    where
      go : (r : Option (List ℕ)) → best ≡ r
          → (Ok (record { 0 = z }) ≡ (wanted r).answer) × (zs ≡ (wanted r).outputs)
      go none d = absurd (true≢false (sym (absent d) ∙ t))
      go (some l) d =
          let w = worth_profit c e late pays l d in
          let plan = plan_at_best c e late pays l d in
          let long : c.hours ≡ length l = sym (length_plan_at c e late pays l d) ∙ ap length plan in (
            ap (λ v. Ok (record { 0 = v })) (found.profit ∙ ap coded w),
            found.list ∙ ap (maybe ys _) w ∙ ap (λ x. x ++ drop c.hours ys) plan ∙ ap (λ n. l ++ drop n ys) long,
          )

-- zeroing the first numbers asks only what stands past them
cleared_past : (n : ℕ) (xs ys : List ℤ) → drop n ys ≡ drop n xs → cleared n ys ≡ cleared n xs
unfolding cleared
cleared_past n xs ys e = rw e

-- the working numbers are zeroed, whether a list is found or not
planned_work : (c : Case) (earns : List ℕ → ℤ) (work : List ℤ) (ys : List ℕ) (r : Option (List ℕ))
    → (planned c earns work ys r).work ≡ cleared (work_length c) work
unfolding planned
planned_work c earns work ys none = refl
planned_work c earns work ys (some l) = refl

-- so they are where the first n are zeroed of what the search left, or of what was lent
pub planned_clear : (c : Case) (earns : List ℕ → ℤ) (n : ℕ) (work zs : List ℤ) (ys : List ℕ) (r : Option (List ℕ))
    → n ≡ work_length c → drop n zs ≡ drop n work → cleared n zs ≡ (planned c earns work ys r).work
planned_clear c earns n work zs ys r e same =
    cleared_past n work zs same ∙ ap (λ m. cleared m work) e ∙ sym (planned_work c earns work ys r)

-- a day whose opening stop comes too early
module _ (c : Case) (earns : List ℕ → ℤ) (e : refusal_of c ≡ 0) (early : stops_early c ≡ true) (work : List ℤ)
    (ys : List ℕ) where
  pub early_answer : Refused 11 ≡ (planned c earns work ys (best_by earns c)).answer
  unfolding planned
  early_answer = rw (best_early c earns e early)

  pub early_outputs : ys ≡ (planned c earns work ys (best_by earns c)).outputs
  unfolding planned
  early_outputs = rw (best_early c earns e early)

-- by F and A what is found is what is found by the plain profit
planned_same : (c : Case) (work : List ℤ) (ys : List ℕ) (r : Option (List ℕ))
    → planned c (profit_by (plain_cost c) c) work ys r ≡ planned c (profit_of c) work ys r
unfolding planned
planned_same c work ys none = refl
planned_same c work ys (some l) = rw (profit_by_plain c l)

pub searched_plain : (c : Case) (work : List ℤ) (ys : List ℕ)
    → searched_by (plain_cost c) c work ys ≡ planned c (profit_of c) work ys (best_day c)
searched_plain c work ys =
    ap (planned c (profit_by (plain_cost c) c) work ys) (best_by_plain c) ∙ planned_same c work ys (best_day c)
