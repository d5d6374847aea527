-- A breach that may be missing, as the check carries it. Definitions only. Assumes nothing.
use Rattle.std.specs.Prelude.{Option as Optional, Some, None}
use Rattle.std.proofs.Math.Option.{Option, none, some}
use Rattle.cases.specs.declared.Breach.{Breach}

-- as day's specs/Rules have it
unfoldable pub found : Optional Breach → Option Breach
found (Some b) = some b
found None = none
