-- What an hour earns does not look at its order, so the check reckons an hour as the search does. Assumes nothing.
use mathlib.Core.Path.{◌≡◌, refl, sym, ap, ◌∙◌}
use mathlib.Core.List.{List}
use Prim.Native.Nat.{ℕ, suc, ◌+◌, ◌*◌, ◌≤◌, ◌<◌}
use native.Mathlib.Nat.{suc-mul}
use native.Mathlib.Omega.{arith}
use lib.Dec.{T}
use lib.IntN.{ℤ, nat_abs, ◌+ℤ◌}
use Rattle.laws.proofs.Magnitude.{abs_add}
use Rattle.cases.specs.declared.Case.{Case}
use Rattle.cases.specs.Limits.{most_output}
use Rattle.cases.specs.Symbols.{last}
use Rattle.day.specs.Marks.{p}
use Rattle.day.specs.Rules.{keeps}
use Rattle.day.specs.Profit.{profit_by_to}
use Rattle.cases.specs.Refusals.{refusal_of}
use Rattle.cases.proofs.LimitsLaws.{limits_of_refusal_of}
use Rattle.day.proofs.CapacityLaws.{p_le}
use Rattle.day.proofs.ProfitLaws.{profit_by_to_more}
use Rattle.machine.specs.declared.Rates.{Rates}
use Rattle.machine.specs.declared.Terms.{Terms}
use Rattle.machine.specs.Bounds.{most_energy, most_earned}
use Rattle.machine.specs.Moves.{tariff_of, charge, earn}
use Rattle.machine.specs.Fit.{Fair}
use Rattle.machine.specs.Cases.{tariff_at, Pays}
use Rattle.machine.proofs.Bridge.CasesLaws.{margin_at}
use Rattle.machine.proofs.Bridge.FitLaws.{fair_of_limits}
use Rattle.machine.proofs.Bridge.Profits.{earn_same}
use Rattle.curves.specs.Alike.{Alike}

module _ (c : Case) (e : refusal_of c ≡ 0) {rates : Rates} {costs : List ℤ} {cost : ℕ → ℤ} (pays : Pays rates costs cost)
    (k : ℕ) (h : k < last c) {t : Terms} (like : Alike c rates k t) where
  margin_is : t.margin.0 ≡ (tariff_at c rates costs k).margin.0
  margin_is = like.margin ∙ sym (margin_at c (limits_of_refusal_of c e) rates.variable k h)

  pub alike_fair : Fair (tariff_of t costs)
  alike_fair =
      let f = fair_of_limits c e pays k in
      record {
        margin_le = rw margin_is f.margin_le;
        holds_le = rw like.charges f.holds_le;
        starts_le = rw like.charges f.starts_le;
        stops_le = rw like.charges f.stops_le;
        tabled = pays.tabled;
      }

  alike_earn : (q o : ℕ) → earn (tariff_of t costs) q o ≡ earn (tariff_at c rates costs k) q o
  unfolding earn charge
  alike_earn q o = rw (margin_is, like.charges) refl

  module _ (l : List ℕ) (kept : T (keeps c l)) where
    within : (i : ℕ) → i ≤ last c → p c l i ≤ most_output
    within i le = let lim = limits_of_refusal_of c e in omega (arith, p_le c lim l kept i le, lim.capacity_le)

    pub energy_within : p c l k + p c l (suc k) ≤ most_energy
    energy_within = omega (arith, within k (omega arith), within (suc k) h)

    -- one hour more
    pub earned_step : {q o : ℕ} → q ≡ p c l k → o ≡ p c l (suc k)
        → profit_by_to cost c l k +ℤ earn (tariff_of t costs) q o ≡ profit_by_to cost c l (suc k)
    earned_step {q} {o} eq eo =
        rw (eq, eo, alike_earn (p c l k) (p c l (suc k)), profit_by_to_more cost c l k)
        (ap (λ x. profit_by_to cost c l k +ℤ x) (sym (earn_same c (limits_of_refusal_of c e) pays l within k h)))

-- the hours to k earn this much at the most
pub earned_more : (total gain : ℤ) (k : ℕ) → nat_abs total ≤ k * most_earned → nat_abs gain ≤ most_earned
    → nat_abs (total +ℤ gain) ≤ suc k * most_earned
earned_more total gain k a b = omega (arith, abs_add total gain, a, b, suc-mul k most_earned)
