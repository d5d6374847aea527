-- What holds of the rules and of the profit, one field for each promise; proofs/Promises proves them all. T b says that
-- the test b passes. Definitions only. Assumes nothing.
use Rattle.std.specs.Prelude.{◌≡◌, ◌↔◌, List, ◌++◌, ℕ, ◌≤◌, ◌<◌, T, ℤ, pos, ◌+ℤ◌, ◌*ℤ◌, length, get_or}
use Rattle.std.proofs.Math.Option.{some}
use Rattle.cases.specs.declared.Case.{Case}
use Rattle.cases.specs.declared.Breach.{Breach}
use Rattle.day.specs.Marks.{y, y_back, z}
use Rattle.day.specs.Rules.{breach, keeps}
use Rattle.day.specs.Profit.{profit_of, profit_by}
use Rattle.cases.specs.Refusals.{refusal_of}
use Rattle.day.specs.Words.{Starts, Stops, StartsBack, marking_of, inside_of, Ordered, KeepsAll, earned, earned_at}
use Rattle.day.specs.Words.{Breaks}
use Rattle.day.specs.Automaton.{Runs, Final, first, LateStop}

pub record Promises : Type 0 where
  -- ---- rules and profit
  -- what the marks y, y(k−i+1) and z mark
  pub starts : (c : Case) (l : List ℕ) (k : ℕ) → (y c l k ≡ 1) ↔ Starts c l k
  pub starts_back : (c : Case) (l : List ℕ) (k i : ℕ) → (y_back c l k i ≡ 1) ↔ StartsBack c l k i
  pub stops : (c : Case) (l : List ℕ) (k : ℕ) → (z c l k ≡ 1) ↔ Stops c l k
  -- a list keeps every rule exactly if it is of T outputs and every hour keeps every rule that it is held to
  pub kept : (c : Case) (l : List ℕ) → T (keeps c l) ↔ ((length l ≡ c.hours) × KeepsAll c (marking_of c l))
  -- and, for a case within the limits, exactly if the unit's states run through it
  pub runs : (c : Case) (l : List ℕ) → refusal_of c ≡ 0
      → T (keeps c l)
      ↔ ((length l ≡ c.hours)
      × LateStop c
      × Runs c Final (Ordered c) 0 (first c c.upstage c.downstage c.initial.0) l)
  -- a list that keeps every rule with no mark outside the day, as without request F-5, keeps every rule and earns the
  -- same
  pub kept_before : (c : Case) (l : List ℕ) → refusal_of c ≡ 0 → c.upstage ≡ 0 → length l ≡ c.hours
      → KeepsAll c (inside_of c l) → T (keeps c l) × (profit_of c l ≡ earned c (inside_of c l))
  -- the breach that is found is the first
  pub first_breach : (c : Case) (l : List ℕ) (b : Breach)
      → (breach c l ≡ some b) ↔ Breaks c (marking_of c l) b.hour.0 b.rule
  -- profit: what the energy of the day is sold for, less F for it, less A, B and C for its hours on-line, starts, stops
  pub profit : (c : Case) (l : List ℕ) → profit_of c l ≡ earned c (marking_of c l)
  -- a list that keeps every rule stays within the capacity
  pub capacity : (c : Case) (l : List ℕ) → refusal_of c ≡ 0 → T (keeps c l) → (k : ℕ) → k < c.hours
      → get_or l k 0 ≤ c.capacity.0
  -- profit by what an hour costs: what the energy of the day is sold for, less the costs of its hours, less B and C; a
  -- table that has F·n + 2·A at every energy n gives a list that keeps the rules its plain profit
  pub profit_by_earned : (cost : ℕ → ℤ) (c : Case) (l : List ℕ) → profit_by cost c l ≡ earned_at cost c (marking_of c l)
  pub plain_table : (cost : ℕ → ℤ) (c : Case) (l : List ℕ) → refusal_of c ≡ 0
      → ((n : ℕ) → n ≤ 800 → cost n ≡ c.variable.0 *ℤ pos n +ℤ c.fixed.0 *ℤ pos 2) → T (keeps c l)
      → profit_by cost c l ≡ profit_of c l
  pub breach_append : (c : Case) (l m : List ℕ) → length l ≡ c.hours → breach c (l ++ m) ≡ breach c l
  pub profit_append : (c : Case) (l m : List ℕ) → length l ≡ c.hours → profit_of c (l ++ m) ≡ profit_of c l
