-- The bounds leave room: no day is longer than they are made for, every amount of a search stays away from the number
-- that stands for none, and what a list earns in a week, whatever its outputs, is far within 64 bits. Assumes nothing.
use Prim.Native.Nat.{◌<◌}
use native.Mathlib.Omega.{arith}
use Rattle.machine.specs.Bounds.{most_worth, most_offer, most_profit, threshold_size, profit_size}

pub worth_below : most_worth < threshold_size
worth_below = omega arith

pub offer_below : most_offer < threshold_size
offer_below = omega arith

pub profit_below : most_profit < profit_size
profit_below = omega arith
