-- The trajectories and p(0) stay within the capacity. Assumes nothing.
use mathlib.Core.Path.{◌≡◌, ap}
use Prim.Native.Nat.{ℕ, zero, suc, ◌+◌, ◌-◌, ◌≤◌}
use native.Mathlib.Decide.{dec_lt}
use native.Mathlib.Omega.{arith}
use Rattle.cases.specs.declared.Case.{Case}
use Rattle.cases.specs.Symbols.{stage, high, low, UD, DD, PU, PD, p0, h, up_stage, down_stage}
use Rattle.cases.proofs.LimitsLaws.{Limits, Opened, opened_free, opened_up, opened_down}

module _ (c : Case) (lim : Limits c) where
  -- no output of the start-up trajectory is above the capacity
  rise_from : (j i : ℕ) → 1 ≤ i → i + j ≡ UD c → PU c i ≤ high c
  rise_from zero i h e = omega (arith, ap (PU c) (let q : i ≡ UD c = omega arith in q), lim.rise_top, lim.minimum_le)
  rise_from (suc j) i h e = omega
      (arith, lim.rise_up i h (omega arith), rise_from j (suc i) (omega arith) (omega arith))

  pub rise_le : (i : ℕ) → i ≤ UD c → PU c i ≤ high c
  unfolding stage
  rise_le zero h = omega arith
  rise_le (suc i) h = rise_from (UD c - suc i) (suc i) (omega arith) (omega arith)

  -- no output of the shut-down trajectory is above the minimum
  pub fall_le : (i : ℕ) → i ≤ DD c → PD c i ≤ low c
  unfolding stage
  fall_le zero h = omega arith
  fall_le (suc zero) h = omega (arith, lim.fall_top)
  fall_le (suc (suc i)) h = omega (arith, lim.fall_down (suc i) (omega arith) h, fall_le (suc i) (omega arith))

  -- nor is p(0) above the capacity, and a stage that it has reached is one of its trajectory
  pub initial_le : p0 c ≤ high c
  initial_le = go lim.opened
    where
      on : (1 ≤ p0 c → (low c ≤ p0 c) × (p0 c ≤ high c) × (UD c ≤ h c)) → Dec (1 ≤ p0 c) → p0 c ≤ high c
      on f (yes some) = (f some).1
      on f (no none) = omega arith

      go : Opened c → p0 c ≤ high c
      go (opened_free u d f) = on f (dec_lt 0 (p0 c))
      go (opened_up d a b e t) = omega (arith, e, rise_le (up_stage c) (omega arith))
      go (opened_down u a b e t) = omega (arith, e, fall_le (down_stage c) b, lim.minimum_le)

  pub stages_le : (up_stage c ≤ UD c) × (down_stage c ≤ DD c)
  stages_le = go lim.opened
    where
      go : Opened c → (up_stage c ≤ UD c) × (down_stage c ≤ DD c)
      go (opened_free u d f) = omega arith
      go (opened_up d a b e t) = omega arith
      go (opened_down u a b e t) = omega arith
