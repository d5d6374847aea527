-- A curve's table is one that the search can be shown, and a table that rises evenly says what rates say. Assumes
-- nothing.
use mathlib.Core.Path.{◌≡◌, sym, ap, ◌∙◌, subst}
use mathlib.Core.Logic.{inr}
use mathlib.Core.List.{List, []}
use Prim.Native.Nat.{ℕ, suc, ◌≤◌}
use native.Mathlib.Numerals.{add-one}
use native.Mathlib.Decide.{ℕ_discrete}
use native.Mathlib.Omega.{arith}
use lib.IntN.{ℤ, pos, negsuc, nat_abs, ◌+ℤ◌, ◌-ℤ◌, ◌*ℤ◌, zero-*ℤ, *ℤ-zero, +ℤ_idr}
use lib.ListN.{length, take}
use lib.Seq.{take_all}
use mir.Syntax.{w32}
use mir.Val.{SFits}
use Rattle.curve.specs.declared.Kind.{Kind}
use Rattle.curve.specs.Cost.{costs_length, Usable, table_of}
use Rattle.curve.proofs.TableLaws.{table_length, table_most, table_bends}
use Rattle.laws.proofs.Signed.{linear, parts_add, parts_sub, parts_mul, parts_pos, multiple_add}
use Rattle.cases.specs.Limits.{most_variable}
use Rattle.machine.specs.declared.Rates.{Rates}
use Rattle.machine.specs.Bounds.{most_energy}
use Rattle.machine.specs.Moves.{cost_at, spent}
use Rattle.machine.specs.Fit.{Tabled}
use Rattle.machine.specs.Cases.{Pays}
use Rattle.machine.proofs.Bridge.FitLaws.{no_table}
use Rattle.curves.specs.Even.{Even}

-- ---- the table of a usable kind
module _ {k : Kind} (u : Usable k) {costs : List ℤ} (e : costs ≡ table_of k) where
  pub long_of_kind : length costs ≡ costs_length
  long_of_kind = ap length e ∙ table_length k

  pub tabled_of_kind : Tabled costs
  tabled_of_kind =
      record {
        long = inr (omega (arith, long_of_kind));
        cost_le = λ n. rw e (table_most u n);
        bent = λ x m n h. rw e (table_bends u x m n h);
      }

-- ---- rates and what is shown
-- the rates of a table: so much per half-megawatt-hour, and the entry for none
abbrev pub rates_by : ℤ → List ℤ → Rates
rates_by step costs = record { variable = record { 0 = step }; holds = record { 0 = cost_at costs 0 } }

given_back : (x y : ℤ) → x ≡ (pos 0 +ℤ (x -ℤ y)) +ℤ y
given_back x y =
    omega (linear, parts_sub x y, parts_add (pos 0) (x -ℤ y), parts_add (pos 0 +ℤ (x -ℤ y)) y, parts_pos 0)

turned : (x y : ℤ) → y +ℤ x ≡ (x +ℤ pos 0) +ℤ y
turned x y = omega (linear, parts_add y x, parts_add x (pos 0), parts_add (x +ℤ pos 0) y, parts_pos 0)

pub shown_pays : {costs : List ℤ} → Tabled costs → Pays (rates_by (pos 0) costs) costs (cost_at costs)
unfolding spent
shown_pays {costs} t =
    record {
      variable_le = omega arith;
      holds_le = t.cost_le 0;
      tabled = t;
      says = λ n h. rw (none_times n) (given_back (cost_at costs n) (cost_at costs 0));
    }
  where
    none_times : (n : ℕ) → pos 0 *ℤ pos n ≡ pos 0
    none_times n = zero-*ℤ (pos n)

pub even_pays : {costs : List ℤ} (step : ℤ) → Tabled costs → nat_abs step ≤ most_variable → Even costs step most_energy
    → Pays (rates_by step costs) [] (cost_at costs)
unfolding spent
even_pays {costs} step t le even =
    record {
      variable_le = le;
      holds_le = t.cost_le 0;
      tabled = no_table;
      says = λ n h. even.at n h ∙ turned (step *ℤ pos n) (cost_at costs 0);
    }

-- ---- entry by entry
pub even_start : (costs : List ℤ) (step : ℤ) → Even costs step 0
even_start costs step =
    record { at = λ k h. go k (let e : k ≡ 0 = omega arith in e) }
  where
    go : (k : ℕ) → k ≡ 0 → cost_at costs k ≡ cost_at costs 0 +ℤ step *ℤ pos k
    go k e = rw (e, *ℤ-zero step) (sym (+ℤ_idr (cost_at costs 0)))

next : (x y step : ℤ) (n : ℕ) → x ≡ y +ℤ step *ℤ pos n → x +ℤ step ≡ y +ℤ step *ℤ pos (suc n)
next x y step n e =
    let more : step *ℤ pos (suc n) ≡ step *ℤ pos n +ℤ step *ℤ pos 1 = rw (add-one n) at (multiple_add step n 1) in
    let once = step *ℤ pos 1 in
    rw more (omega (
      linear,
      e,
      parts_add y (step *ℤ pos n),
      parts_add x step,
      parts_mul step 1,
      parts_add (step *ℤ pos n) once,
      parts_add y (step *ℤ pos n +ℤ once),
    ))

pub even_step : {costs : List ℤ} {step : ℤ} (n : ℕ) → Even costs step n → cost_at costs (suc n) ≡ cost_at costs n +ℤ step
    → Even costs step (suc n)
even_step {costs} {step} n even e =
    record { at = λ k h. go k h (ℕ_discrete k (suc n)) }
  where
    go : (k : ℕ) → k ≤ suc n → Dec (k ≡ suc n) → cost_at costs k ≡ cost_at costs 0 +ℤ step *ℤ pos k
    go k h (no d) = even.at k (omega arith)
    go k h (yes d) = rw d (e ∙ next (cost_at costs n) (cost_at costs 0) step n (even.at n (omega arith)))

-- where as many entries are shown as the table has, it is shown
pub whole_shown : {costs : List ℤ} {rates : Rates} {n : ℕ} → length costs ≡ costs_length
    → (n ≡ costs_length) × Pays rates costs (cost_at costs)
    → (n ≤ costs_length) × Pays rates (take n costs) (cost_at costs)
whole_shown {costs} {rates} {n} long (e, pays) =
    let whole : take n costs ≡ costs = take_all n costs (omega arith) in
    (omega arith, subst (λ xs. Pays rates xs (cost_at costs)) (sym whole) pays)

-- a small number fits 32 bits
pub fits_32 : (z : ℤ) → nat_abs z ≤ most_variable → SFits w32 z
fits_32 (pos n) h = record { sfits = omega arith }
fits_32 (negsuc n) h = record { sfits = omega arith }
