-- The trajectories of a case within the limits. Assumes nothing.
use native.Mathlib.Omega.{arith}
use Rattle.cases.specs.declared.Case.{Case}
use Rattle.cases.specs.Symbols.{UD, DD}
use Rattle.cases.proofs.LimitsLaws.{Limits}
use Rattle.cases.proofs.StagesLaws.{rise_le, fall_le}
use Rattle.hours.specs.Staged.{Staged}

module _ {c : Case} (h : Limits c) where
  pub staged_rise : Staged c.rise (UD c)
  staged_rise = record { count = h.rises_le; most = λ i m. omega (arith, rise_le c h i m, h.capacity_le) }

  pub staged_fall : Staged c.fall (DD c)
  staged_fall =
      record { count = h.falls_le; most = λ i m. omega (arith, fall_le c h i m, h.minimum_le, h.capacity_le) }
