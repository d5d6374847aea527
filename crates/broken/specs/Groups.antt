-- The rules of an hour in groups, each by its number and its test, before the rules that follow, and the first of them
-- that an hour breaks. Definitions only. Assumes nothing.
use Rattle.std.specs.Prelude.{Bool, List, [], ◌∷◌, ℕ}
use Rattle.cases.specs.declared.Case.{Case}
use Rattle.day.specs.Constraints.{rule1, rule2, rule3, rule4, rule5, rule6}
use Rattle.day.specs.Constraints.{rule7, rule8, rule9, rule10, rule11, rule12}
use Rattle.day.specs.Rules.{broken_of, rule21, rule22, rule23}
use Rattle.hours.specs.declared.numbered.NumberedHour.{NumberedHour}

abbrev pub Rules : Type 0
Rules = List (ℕ × (ℕ → Bool))

-- the number of the first that the hour breaks, 0 where it breaks none
abbrev pub broken_in : NumberedHour → Rules → ℕ
broken_in h = broken_of h.hour.0

module _ (c : Case) (l : List ℕ) where
  -- what hour 0 keeps
  abbrev pub edge : Rules
  edge = (2, rule2 c l) ∷ (4, rule4 c l) ∷ []

  -- least and greatest output
  abbrev pub limit : Rules → Rules
  limit rs = (1, rule1 c l) ∷ (2, rule2 c l) ∷ (3, rule3 c l) ∷ (4, rule4 c l) ∷ rs

  abbrev pub ramp : Rules → Rules
  ramp rs = (5, rule5 c l) ∷ (6, rule6 c l) ∷ rs

  abbrev pub commitment : Rules → Rules
  commitment rs = (7, rule7 c l) ∷ (8, rule8 c l) ∷ (9, rule9 c l) ∷ rs

  -- a start-up and a shut-down that meet
  abbrev pub overlap : Rules → Rules
  overlap rs = (10, rule10 c l) ∷ (11, rule11 c l) ∷ (12, rule12 c l) ∷ rs

  -- minimum times and orders
  abbrev pub terms : Rules
  terms = (21, rule21 c l) ∷ (22, rule22 c l) ∷ (23, rule23 c l) ∷ []
