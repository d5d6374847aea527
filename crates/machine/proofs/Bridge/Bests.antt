-- The plan of a case's machine is the best list of the case, there is none exactly where no list keeps every rule, and
-- the worth of the opening is what the best list earns. Assumes nothing.
use mathlib.Core.Path.{◌≡◌, refl, sym, ap, ◌∙◌, subst}
use mathlib.Core.Bool.{true, false, cond}
use mathlib.Core.List.{List}
use mathlib.Core.Option.{Option, none, some}
use Prim.Native.Nat.{ℕ}
use lib.Dec.{T}
use lib.IntN.{ℤ}
use lib.ListN.{length}
use Rattle.laws.proofs.Tests.{t_to_true}
use Rattle.cases.specs.declared.Case.{Case}
use Rattle.day.specs.Rules.{keeps}
use Rattle.day.specs.Profit.{profit_by}
use Rattle.model.specs.Best.{best_by}
use Rattle.cases.specs.Refusals.{refusal_of}
use Rattle.day.proofs.KeepsLaws.{kept_length}
use Rattle.cases.proofs.LimitsLaws.{Limits, limits_of_refusal_of}
use Rattle.model.proofs.BestLaws.{best_by_some, best_by_none}
use Rattle.machine.specs.Search.{Machine, maybe, outcome, value, plan, search, plan_at}
use Rattle.machine.specs.Order.{Answers}
use Rattle.machine.specs.declared.Rates.{Rates}
use Rattle.machine.specs.Moves.{obeys, move, machine, worth}
use Rattle.machine.specs.Cases.{unit_of, tariff_at, Pays, opening_of, stops_early}
use Rattle.machine.proofs.Search.Searched.{some_none, plan_earns, searched}
use Rattle.machine.proofs.Table.Sizes.{only_some, move_within}
use Rattle.machine.proofs.Search.Values.{worth_zero, plan_zero}
use Rattle.machine.proofs.Bridge.FitLaws.{rise_le, fall_le}
use Rattle.machine.proofs.Bridge.Openings.{outcome_earned, early_none, late_of}

module _ (c : Case) (accepted : refusal_of c ≡ 0) (late : stops_early c ≡ false) {rates : Rates} {costs : List ℤ}
    {cost : ℕ → ℤ} (pays : Pays rates costs cost) where
  lim : Limits c
  lim = limits_of_refusal_of c accepted

  -- the machine of the day
  abbrev day : Machine
  day = machine (unit_of c) (tariff_at c rates costs)

  answers : Answers (keeps c) (profit_by cost c) (search day (opening_of c))
  unfolding unit_of
  answers =
      searched day
      (λ k s p t e. move_within (unit_of c) lim.minimum_le (rise_le c lim) (fall_le c lim) s p t
      (only_some (obeys (tariff_at c rates costs k) p) (move (unit_of c) s p) t e).1)
      (keeps c) (profit_by cost c) (opening_of c) (outcome_earned c lim (late_of c lim late) pays)

  search_best_by : search day (opening_of c) ≡ best_by (profit_by cost c) c
  search_best_by = go (search day (opening_of c)) answers
    where
      go : (x : Option (List ℕ)) → Answers (keeps c) (profit_by cost c) x → x ≡ best_by (profit_by cost c) c
      go none a = sym (best_by_none c accepted (profit_by cost c) a)
      go (some l) a = sym (best_by_some c accepted (profit_by cost c) a)

-- ---- the worth of the opening, and its plan
-- a search that finds a list finds the plan, and one that finds none has no value
found : (x : Option ℤ) (m l : List ℕ) → maybe none (λ v. some m) x ≡ some l → m ≡ l
found none m l e = absurd (some_none (sym e))
found (some v) m l e = cc

missed : (x : Option ℤ) (m : List ℕ) → maybe none (λ v. some m) x ≡ none → x ≡ none
missed none m e = refl
missed (some v) m e = absurd (some_none e)

-- a day whose stop comes too early has no list
pub best_early : (c : Case) (earns : List ℕ → ℤ) → refusal_of c ≡ 0 → stops_early c ≡ true → best_by earns c ≡ none
best_early c earns accepted early =
    best_by_none c accepted earns (early_none c (limits_of_refusal_of c accepted) early)

module _ (c : Case) (accepted : refusal_of c ≡ 0) (late : stops_early c ≡ false) {rates : Rates} {costs : List ℤ}
    {cost : ℕ → ℤ} (pays : Pays rates costs cost) where
  abbrev hours : Machine
  hours = machine (unit_of c) (tariff_at c rates costs)

  module _ (l : List ℕ) (best : best_by (profit_by cost c) c ≡ some l) where
    pub plan_best : plan hours 0 c.hours (opening_of c) ≡ l
    unfolding unit_of
    plan_best =
        found (value hours 0 c.hours (opening_of c)) (plan hours 0 c.hours (opening_of c)) l
        (search_best_by c accepted late pays ∙ best)

    kept : T (keeps c l)
    kept =
        (subst (Answers (keeps c) (profit_by cost c)) (search_best_by c accepted late pays ∙ best)
        (answers c accepted late pays)).kept

    -- what the opening is worth is what the best list earns
    pub value_profit : value hours 0 c.hours (opening_of c) ≡ some (profit_by cost c l)
    value_profit =
        let limits = lim c accepted late pays in
        sym (plan_earns hours 0 c.hours (opening_of c))
        ∙ ap (outcome hours 0 c.hours (opening_of c)) plan_best
        ∙ outcome_earned c limits (late_of c limits late) pays l
        ∙ ap (λ t. cond t (some (profit_by cost c l)) none) (t_to_true (keeps c l) kept)

    pub worth_profit : worth (unit_of c) (tariff_at c rates costs) 0 (opening_of c) ≡ some (profit_by cost c l)
    unfolding unit_of
    worth_profit = worth_zero hours (opening_of c) ∙ value_profit

    pub plan_at_best : plan_at hours 0 (opening_of c) ≡ l
    unfolding unit_of
    plan_at_best = plan_zero hours (opening_of c) ∙ plan_best

    pub length_plan_at : length (plan_at hours 0 (opening_of c)) ≡ c.hours
    length_plan_at = ap length plan_at_best ∙ kept_length c l kept

  -- no worth, where there is no list
  pub worth_none : best_by (profit_by cost c) c ≡ none
      → worth (unit_of c) (tariff_at c rates costs) 0 (opening_of c) ≡ none
  unfolding unit_of
  worth_none e =
      worth_zero hours (opening_of c)
      ∙ missed (value hours 0 c.hours (opening_of c)) (plan hours 0 c.hours (opening_of c))
      (search_best_by c accepted late pays ∙ e)
