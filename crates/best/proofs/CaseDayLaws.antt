-- The day of a case as the search is lent it, and what is found of it. Assumes nothing.
use mathlib.Core.Path.{◌≡◌}
use mathlib.Core.List.{List}
use Prim.Native.Nat.{ℕ}
use native.Mathlib.Omega.{arith}
use lib.IntN.{ℤ, pos, ◌-ℤ◌}
use lib.ListN.{get_or}
use Rattle.cases.specs.declared.Case.{Case}
use Rattle.cases.specs.Limits.{most_hours}
use Rattle.cases.specs.Layout.{no_mills}
use Rattle.cases.specs.Refusals.{refusal_of}
use Rattle.cases.proofs.LayoutLaws.{length_padded}
use Rattle.cases.proofs.LimitsLaws.{limits_of_refusal_of}
use Rattle.machine.specs.declared.Charges.{Charges}
use Rattle.machine.specs.declared.Rates.{Rates}
use Rattle.machine.specs.declared.State.{State}
use Rattle.machine.specs.declared.Unit.{Unit}
use Rattle.machine.specs.Moves.{day_of}
use Rattle.machine.specs.Cases.{unit_of, margins_of, orders_of, charges_of, tariff_at, opening_of, Pays}
use Rattle.machine.proofs.Bridge.FitLaws.{fair_of_limits}
use Rattle.cells.specs.Table.{Day, Found}

module _ (c : Case) (rates : Rates) (costs : List ℤ) {u : Unit} {ms : List ℤ} {os : List ℕ} {ch : Charges}
    (eu : u ≡ unit_of c) (em : ms ≡ margins_of c rates.variable) (eo : os ≡ orders_of c)
    (ec : ch ≡ charges_of c rates.holds) where
  -- the day is within its limits
  pub case_day : refusal_of c ≡ 0 → {cost : ℕ → ℤ} → Pays rates costs cost → Day u ms os ch costs
  unfolding unit_of margins_of orders_of
  case_day e pays =
      let limits = limits_of_refusal_of c e in
      let day : Day (unit_of c) (margins_of c rates.variable) (orders_of c) (charges_of c rates.holds) costs = record {
        margins_long = omega (
          arith,
          limits.hours_le,
          length_padded (pos 0) (λ k. (get_or c.prices k no_mills).0 -ℤ rates.variable.0) c.hours most_hours,
        );
        orders_long = omega (arith, limits.hours_le, length_padded 0 (λ k. get_or c.orders k 0) c.hours most_hours);
        fair = fair_of_limits c e pays;
      } in
      rw (eu, em, eo, ec) day

  -- what is found of it is found of the case
  pub case_found : {s : State} {ys zs : List ℕ} {z : ℤ} → s ≡ opening_of c → Found u (day_of ms os ch costs) s ys zs z
      → Found (unit_of c) (tariff_at c rates costs) (opening_of c) ys zs z
  case_found es found = rw (eu, em, eo, ec, es) at found
