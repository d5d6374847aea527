-- The terms of an hour as what it earns needs them. Definitions only. Assumes nothing.
use Rattle.std.specs.Prelude.{◌≡◌, ℕ, suc, ◌-ℤ◌}
use Rattle.cases.specs.declared.Case.{Case}
use Rattle.cases.specs.Symbols.{price}
use Rattle.machine.specs.declared.Rates.{Rates}
use Rattle.machine.specs.declared.Terms.{Terms}
use Rattle.machine.specs.Cases.{charges_of}

-- terms that pay and charge as those of hour k do
pub record Alike (c : Case) (r : Rates) (k : ℕ) (t : Terms) : Type 0 where
  pub margin : t.margin.0 ≡ price c (suc k) -ℤ r.variable.0
  pub charges : t.charges ≡ charges_of c r.holds
