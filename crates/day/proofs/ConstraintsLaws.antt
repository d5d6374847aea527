-- Laws of the sums and of constraints (1) to (12): each sum one term further, each constraint as its own comparison.
-- Assumes nothing.
use mathlib.Core.Path.{◌≡◌, refl, ap}
use mathlib.Core.List.{List}
use Prim.Native.Nat.{ℕ, ◌+◌, ◌*◌, ◌-◌}
use native.Mathlib.Omega.{arith}
use native.Mathlib.Numerals.{add-one}
use lib.Dec.{leb, eqb}
use lib.ListN.{get_or}
use Rattle.cases.specs.declared.Case.{Case}
use Rattle.quantities.specs.declared.Output.{Output}
use Rattle.cases.specs.Symbols.{sum, stage, before, high, low, RU, RD, UD, DD, PU, PD}
use Rattle.day.specs.Marks.{p, v, y, y_back, starting, z}
use Rattle.day.specs.Constraints.{stopping, start_output, stop_output, stops_within}
use Rattle.day.specs.Constraints.{rule1, rule2, rule3, rule4, rule5, rule6}
use Rattle.day.specs.Constraints.{rule7, rule8, rule9, rule10, rule11, rule12}
use Rattle.cases.proofs.SymbolsLaws.{sum_suc, sum_same, stage_suc}

-- a sum of no term, and of one more
pub sum_zero : (f : ℕ → ℕ) → sum f 0 ≡ 0
unfolding sum
sum_zero f = refl

pub sum_more : (f : ℕ → ℕ) (n : ℕ) → sum f (n + 1) ≡ sum f n + f (n + 1)
sum_more f n = rw add-one (sum_suc f n)

-- an entry of a trajectory
pub stage_more : (l : List Output) (i : ℕ) → stage l (i + 1) ≡ (get_or l i (record { 0 = 0 })).0
stage_more l i = rw add-one (stage_suc l i)

module _ (c : Case) (l : List ℕ) where
  -- the sums by their terms
  pub starting_is : (k : ℕ) → starting c l k ≡ sum (λ i. y_back c l k i) (UD c)
  unfolding starting
  starting_is k = refl

  pub start_output_is : (k : ℕ) → start_output c l k ≡ sum (λ i. PU c i * y_back c l k i) (UD c)
  unfolding start_output
  start_output_is k = refl

  pub stop_output_is : (k : ℕ) → stop_output c l k ≡ sum (λ i. PD c i * z c l (k + DD c + 1 - i)) (DD c)
  unfolding stop_output
  stop_output_is k = refl

  pub stops_within_is : (n k : ℕ) → stops_within c l n k ≡ sum (λ i. z c l (k + i - 1)) n
  unfolding stops_within
  stops_within_is n k = refl

  -- the stops of a shut-down's hours are those from the next hour on
  pub stopping_is : (k : ℕ) → stopping c l k ≡ stops_within c l (DD c) (k + 1)
  unfolding stopping stops_within
  stopping_is k =
      sum_same (λ i. z c l (k + i)) (λ i. z c l (k + 1 + i - 1)) (DD c)
      (λ i a b. ap (z c l) (let e : k + i ≡ k + 1 + i - 1 = omega arith in e))

  -- each constraint as its comparison
  pub rule1_is : (k : ℕ)
      → rule1 c l k ≡ leb (low c * v c l k + start_output c l k) (p c l k + low c * (stopping c l k + starting c l k))
  unfolding rule1
  rule1_is k = refl

  pub rule2_is : (k : ℕ)
      → rule2 c l k ≡ leb (low c * v c l k + stop_output c l k) (p c l k + low c * (stopping c l k + starting c l k))
  unfolding rule2
  rule2_is k = refl

  pub rule3_is : (k : ℕ)
      → rule3 c l k ≡ leb (p c l k + high c * starting c l k) (start_output c l k + high c * v c l k)
  unfolding rule3
  rule3_is k = refl

  pub rule4_is : (k : ℕ)
      → rule4 c l k ≡ leb (p c l k + high c * stopping c l k) (stop_output c l k + high c * v c l k)
  unfolding rule4
  rule4_is k = refl

  pub rule5_is : (k : ℕ)
      → rule5 c l k ≡ leb (p c l k + RU c * starting c l k)
      (p c l (before k) + (high c * starting c l k + RU c * v c l k))
  unfolding rule5
  rule5_is k = refl

  pub rule6_is : (k : ℕ)
      → rule6 c l k ≡ leb (p c l (before k) + RD c * stops_within c l (DD c) k)
      (p c l k + (high c * stops_within c l (DD c) k + RD c * v c l (before k)))
  unfolding rule6
  rule6_is k = refl

  pub rule7_is : (k : ℕ) → rule7 c l k ≡ eqb (y c l k + v c l (before k)) (v c l k + z c l k)
  unfolding rule7
  rule7_is k = refl

  pub rule8_is : (k : ℕ) → rule8 c l k ≡ leb (starting c l k) (v c l k)
  unfolding rule8
  rule8_is k = refl

  pub rule9_is : (k : ℕ) → rule9 c l k ≡ leb (stopping c l k) (v c l k)
  unfolding rule9
  rule9_is k = refl

  pub rule10_is : (k : ℕ) → rule10 c l k ≡ leb (y c l k + stops_within c l (UD c + DD c - 1) k) 1
  unfolding rule10
  rule10_is k = refl

  pub rule11_is : (k : ℕ)
      → rule11 c l k ≡ leb (PU c (UD c) * (stopping c l k + starting c l k)) (p c l k + PU c (UD c))
  unfolding rule11
  rule11_is k = refl

  pub rule12_is : (k : ℕ) → rule12 c l k ≡ leb (PD c 1 * (stopping c l k + starting c l k)) (p c l k + PD c 1)
  unfolding rule12
  rule12_is k = refl
