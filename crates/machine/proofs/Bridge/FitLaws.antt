-- The unit of a case within the limits fits, and the state in which its day opens is proper. Assumes nothing.
use mathlib.Core.Path.{◌≡◌, refl, sym, ap}
use mathlib.Core.Logic.{inl}
use mathlib.Core.List.{List, []}
use mathlib.Core.Bool.{Bool, true, false, cond}
use Prim.Native.Nat.{ℕ, suc, ◌+◌, ◌-◌, ◌≤◌, ◌<◌, min}
use native.Mathlib.Decide.{dec_lt}
use native.Mathlib.Omega.{arith}
use borrow.Author.Tests.{eqb-true, eqb-false}
use lib.Dec.{eqb}
use lib.IntN.{ℤ, pos, nat_abs, ◌+ℤ◌, ◌*ℤ◌, +ℤ_idr}
use lib.ListN.{get_or}
use Rattle.laws.proofs.Magnitude.{abs_sub, abs_mul}
use Rattle.cases.specs.declared.Case.{Case}
use Rattle.quantities.specs.declared.Mills.{Mills}
use Rattle.cases.specs.Limits.{most_variable, most_charge}
use Rattle.cases.specs.Symbols.{high, low, UD, DD, A, F, last, price, p0, h, up_stage, down_stage}
use Rattle.day.specs.Profit.{plain_cost}
use Rattle.cases.specs.Refusals.{refusal_of}
use Rattle.cases.proofs.LimitsLaws.{Amount, Limits, limits_of_refusal_of}
use Rattle.machine.specs.Bounds.{most_margin, most_fee}
use Rattle.cases.proofs.OpeningLaws.{in_start, in_stop, in_none}
use Rattle.machine.specs.declared.Rates.{Rates}
use Rattle.machine.specs.declared.State.TheVariants.{Rise, Fall}
use Rattle.machine.specs.Moves.{spent, idle, running, pu_at, pd_at}
use Rattle.machine.specs.Cases.{unit_of, margins_of, charges_of, tariff_at, Pays, rates_of, opening_of}
use Rattle.machine.specs.Fit.{Fit, Tabled, Fair}
use Rattle.machine.specs.Proper.{Proper}
use Rattle.day.proofs.Automaton.Stages.{pu_le, pd_le, pd_lt}
use Rattle.machine.proofs.Bridge.CasesLaws.{pu_past, pd_past, pu_at_is, pd_at_is, margin_past, margin_at}

-- no table at all
pub no_table : Tabled []
no_table =
    record {
      long = inl refl;
      cost_le = λ n. omega arith;
      bent = λ x m n h. record { le = tt };
    }

module _ (c : Case) (lim : Limits c) where
  -- the trajectories at every place
  pub rise_le : (i : ℕ) → pu_at (unit_of c) i ≤ high c
  rise_le i = go (dec_lt i (UD c))
    where
      go : Dec (i < UD c) → pu_at (unit_of c) i ≤ high c
      go (yes l) = omega (arith, pu_at_is c lim i l, pu_le c lim (suc i) (omega arith) l, lim.minimum_le)
      go (no l) = omega (arith, pu_past c i (omega arith))

  pub fall_le : (i : ℕ) → pd_at (unit_of c) i ≤ low c
  fall_le i = go (dec_lt i (DD c))
    where
      go : Dec (i < DD c) → pd_at (unit_of c) i ≤ low c
      go (yes l) = omega (arith, pd_at_is c lim i l, pd_le c lim (suc i) (omega arith) l)
      go (no l) = omega (arith, pd_past c i (omega arith))

  fall_lt : pd_at (unit_of c) 1 < low c
  fall_lt = go (dec_lt 1 (DD c))
    where
      go : Dec (1 < DD c) → pd_at (unit_of c) 1 < low c
      go (yes l) = omega (arith, pd_at_is c lim 1 l, pd_lt c lim 1 (omega arith) l)
      go (no l) = omega (arith, pd_past c 1 (omega arith), lim.minimum_pos)

  rise_pos : 1 ≤ pu_at (unit_of c) 0
  rise_pos = omega (arith, pu_at_is c lim 0 lim.rises_pos, lim.rise_pos)

  -- the tariff of every hour
  margin_le : (m : Mills) → nat_abs m.0 ≤ most_variable → (k : ℕ)
      → nat_abs (get_or (margins_of c m) k (pos 0)) ≤ most_margin
  margin_le m le k = go (dec_lt k (last c))
    where
      go : Dec (k < last c) → nat_abs (get_or (margins_of c m) k (pos 0)) ≤ most_margin
      go (yes l) =
          let size = abs_sub (price c (suc k)) m.0 in
          rw (margin_at c lim m k l) (omega (arith, size, lim.price_le (suc k) (omega arith) l))
      go (no l) = rw (margin_past c m k (omega arith)) (omega arith)

  doubled_le : {z : ℤ} → Amount most_charge z → nat_abs (z *ℤ pos 2) ≤ most_fee
  doubled_le {z} a = omega (arith, abs_mul z 2, a.le)

  fair : {r : Rates} {costs : List ℤ} {cost : ℕ → ℤ} → Pays r costs cost → (k : ℕ) → Fair (tariff_at c r costs k)
  unfolding charges_of
  fair {r} pays k =
      record {
        margin_le = margin_le r.variable pays.variable_le k;
        holds_le = pays.holds_le;
        starts_le = doubled_le lim.startcost_in;
        stops_le = doubled_le lim.stopcost_in;
        tabled = pays.tabled;
      }

  -- by the costs of the case
  own : Pays (rates_of c) [] (plain_cost c)
  unfolding spent plain_cost
  own =
      record {
        variable_le = lim.variable_in.le;
        holds_le = omega (arith, doubled_le lim.fixed_in);
        tabled = no_table;
        says = λ n h. ap (λ x. x +ℤ A c *ℤ pos 2) (sym (+ℤ_idr (F c *ℤ pos n)));
      }

  fit : Fit (unit_of c)
  unfolding unit_of
  fit =
      record {
        minimum_pos = lim.minimum_pos;
        minimum_le = lim.minimum_le;
        capacity_le = lim.capacity_le;
        rampup_le = lim.rampup_le;
        rampdown_le = lim.rampdown_le;
        mindown_pos = lim.mindown_pos;
        mindown_le = lim.mindown_le;
        lock_le = omega (arith, lim.minup_le, lim.rises_pos);
        hours_pos = lim.hours_pos;
        hours_le = lim.hours_le;
        rises_pos = lim.rises_pos;
        rises_le = lim.rises_le;
        falls_pos = lim.falls_pos;
        falls_le = lim.falls_le;
        pu_pos = rise_pos;
        pu_le = rise_le;
        pd_le = fall_le;
        pd_lt = fall_lt;
      }

  proper : Proper (unit_of c) (opening_of c)
  unfolding unit_of opening_of
  proper = go (eqb (up_stage c) 0) (eqb (down_stage c) 0) (eqb (p0 c) 0) refl refl refl
    where
      go : (a b t : Bool) → eqb (up_stage c) 0 ≡ a → eqb (down_stage c) 0 ≡ b → eqb (p0 c) 0 ≡ t
          → Proper (unit_of c)
          (cond a
          (cond b
          (cond t (idle (min (h c) c.mindown.0)) (running (p0 c) (c.minup.0 + 1 - (h c + DD c))))
          (Fall (down_stage c - 1)))
          (Rise (up_stage c - 1)))
      go false b t d e f =
          let some : 1 ≤ up_stage c = omega (arith, eqb-false (up_stage c) 0 d) in
          omega (arith, (in_start c lim.opened some).1)
      go true false t d e f =
          let some : 1 ≤ down_stage c = omega (arith, eqb-false (down_stage c) 0 e) in
          omega (arith, (in_stop c lim.opened some).2)
      go true true true d e f = (omega (arith, lim.elapsed_pos, lim.mindown_pos), omega arith)
      go true true false d e f =
          let on : 1 ≤ p0 c = omega (arith, eqb-false (p0 c) 0 f) in
          let free = in_none c lim.opened (eqb-true (up_stage c) 0 d) (eqb-true (down_stage c) 0 e) on in
          (free.0, free.1, omega (arith, lim.minup_le))

pub fit_of_limits : (c : Case) → refusal_of c ≡ 0 → Fit (unit_of c)
fit_of_limits c e = fit c (limits_of_refusal_of c e)

pub fair_of_limits : (c : Case) → refusal_of c ≡ 0 → {r : Rates} {costs : List ℤ} {cost : ℕ → ℤ} → Pays r costs cost
    → (k : ℕ) → Fair (tariff_at c r costs k)
fair_of_limits c e = fair c (limits_of_refusal_of c e)

pub own_pays : (c : Case) → refusal_of c ≡ 0 → Pays (rates_of c) [] (plain_cost c)
own_pays c e = own c (limits_of_refusal_of c e)

pub opening_proper : (c : Case) → refusal_of c ≡ 0 → Proper (unit_of c) (opening_of c)
opening_proper c e = proper c (limits_of_refusal_of c e)
