-- A record with other prices: the lists that keep the rules are the same. Assumes nothing.
use mathlib.Core.Path.{◌≡◌, refl}
use mathlib.Core.List.{List}
use Prim.Native.Nat.{ℕ, zero, suc, ◌+◌}
use Rattle.quantities.specs.declared.Mills.{Mills}
use Rattle.cases.specs.declared.Case.{Case}
use Rattle.cases.specs.Symbols.{last, DD}
use Rattle.cases.specs.Layout.{with_arrays}
use Rattle.day.specs.Marks.{p, v, y, y_back, starting, closes, z}
use Rattle.day.specs.Constraints.{stopping, start_output, stop_output, stops_within}
use Rattle.day.specs.Constraints.{rule1, rule2, rule3, rule4, rule5, rule6, rule7, rule8, rule9, rule10}
use Rattle.day.specs.Constraints.{rule11, rule12}
use Rattle.day.specs.Rules.{rule21, rule22, rule23, day_rules, rules_at, broken_at, breach_from, breach, keeps}

module _ (c : Case) (f : List Mills) (l : List ℕ) where
  abbrev priced_so : Case
  priced_so = with_arrays c c.rise c.fall f c.orders

  broken_at_prices : (k : ℕ) → broken_at priced_so l k ≡ broken_at c l k
  unfolding broken_at rules_at day_rules rule1 rule2 rule3 rule4 rule5 rule6 rule7 rule8 rule9 rule10 rule11 rule12 rule21
      rule22 rule23 stopping start_output stop_output stops_within z closes starting y_back y v p
  broken_at_prices k = refl

  breach_from_prices : (n k : ℕ) → breach_from priced_so l k n ≡ breach_from c l k n
  unfolding breach_from
  breach_from_prices zero k = refl
  breach_from_prices (suc n) k = rw (broken_at_prices k, breach_from_prices n (suc k))

  pub keeps_prices : keeps priced_so l ≡ keeps c l
  unfolding keeps breach
  keeps_prices = rw (breach_from_prices (last c + DD c) 0)
