-- What the opening of a case within the limits says where it is in a start-up, in a shut-down, and in neither. Assumes
-- nothing.
use mathlib.Core.Path.{◌≡◌}
use Prim.Native.Nat.{◌+◌, ◌≤◌, ◌<◌}
use native.Mathlib.Omega.{arith}
use Rattle.cases.specs.declared.Case.{Case}
use Rattle.cases.specs.Symbols.{high, low, UD, DD, PU, PD, p0, h, up_stage, down_stage}
use Rattle.cases.proofs.LimitsLaws.{Opened, opened_free, opened_up, opened_down}

module _ (c : Case) where
  pub in_start : Opened c → 1 ≤ up_stage c
      → (down_stage c ≡ 0) × (up_stage c < UD c) × (p0 c ≡ PU c (up_stage c)) × (h c ≡ up_stage c)
  in_start (opened_free u d f) a = absurd (omega arith)
  in_start (opened_up d x y o e) a = (d, y, o, e)
  in_start (opened_down u x y o e) a = absurd (omega arith)

  pub in_stop : Opened c → 1 ≤ down_stage c
      → (up_stage c ≡ 0)
      × (2 ≤ down_stage c)
      × (down_stage c ≤ DD c)
      × (p0 c ≡ PD c (down_stage c))
      × (UD c + down_stage c ≤ h c + 1)
  in_stop (opened_free u d f) a = absurd (omega arith)
  in_stop (opened_up d x y o e) a = absurd (omega arith)
  in_stop (opened_down u x y o e) a = (u, x, y, o, e)

  pub in_none : Opened c → up_stage c ≡ 0 → down_stage c ≡ 0 → 1 ≤ p0 c
      → (low c ≤ p0 c) × (p0 c ≤ high c) × (UD c ≤ h c)
  in_none (opened_free u d f) a b = f
  in_none (opened_up d x y o e) a b = absurd (omega arith)
  in_none (opened_down u x y o e) a b = absurd (omega arith)
