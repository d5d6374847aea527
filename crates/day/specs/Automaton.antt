-- A second view of a list that keeps every rule: the states of a unit from hour to hour. It is off-line for so many
-- hours, in a start-up or a shut-down at an entry counted from 1, or on-line at an output since so many hours. The
-- promise `runs` ties it to the rules; no entry rests on it. Definitions only. Assumes nothing.
use Rattle.std.specs.Prelude.{◌≡◌, List, [], ◌∷◌, ℕ, zero, suc, ◌+◌, ◌≤◌, ◌<◌}
use Rattle.cases.specs.declared.Case.{Case}
use Rattle.cases.specs.Symbols.{stage}

-- off d, up i, run r u (at output r since u hours), down i
pub data St : Type 0 where
  off : ℕ → St
  up : ℕ → St
  run : ℕ → ℕ → St
  down : ℕ → St

-- with output q the unit goes from one state to another
pub data Step (U : Case) (q : ℕ) : St → St → Type 0 where
  stay : (d : ℕ) → q ≡ 0 → Step U q (off d) (off (suc d))
  start : (d : ℕ) → q ≡ stage U.rise 1 → U.mindown.0 ≤ d → 1 < U.rises → Step U q (off d) (up 1)
  start1 : (d : ℕ) → q ≡ U.minimum.0 → U.mindown.0 ≤ d → U.rises ≡ 1 → Step U q (off d) (run q 1)
  climb : (i : ℕ) → q ≡ stage U.rise (suc i) → suc i < U.rises → Step U q (up i) (up (suc i))
  reach : (i : ℕ) → q ≡ U.minimum.0 → suc i ≡ U.rises → Step U q (up i) (run q (suc i))
  hold : (r u : ℕ) → U.minimum.0 ≤ q → q ≤ U.capacity.0 → q ≤ r + U.rampup.0 → r ≤ q + U.rampdown.0
      → Step U q (run r u) (run q (suc u))
  leave : (r u : ℕ) → q ≡ stage U.fall 2 → r ≡ U.minimum.0 → U.minup.0 < u + U.falls → 1 < U.falls
      → Step U q (run r u) (down 2)
  leave1 : (r u : ℕ) → q ≡ 0 → r ≡ U.minimum.0 → U.minup.0 ≤ u → U.falls ≡ 1 → Step U q (run r u) (off 1)
  sink : (i : ℕ) → q ≡ stage U.fall (suc i) → i < U.falls → Step U q (down i) (down (suc i))
  land : (i : ℕ) → q ≡ 0 → i ≡ U.falls → Step U q (down i) (off 1)

-- the unit runs through a list from state s at the end of hour k, each output as the hour's order allows, and ends in a
-- state that may be the last
abbrev pub Runs : Case → (St → Type 0) → (ℕ → ℕ → Type 0) → ℕ → St → List ℕ → Type 0
Runs U last obeys k s [] = last s
Runs U last obeys k s (q ∷ l) = (t : St) × Step U q s t × obeys (suc k) q × Runs U last obeys (suc k) t l

-- a day may end in any state (request F-5)
abbrev pub Final : St → Type 0
Final s = Unit {0}

-- the state in which a day opens, by its stages and its output: in a start-up, in a shut-down, off-line or on-line
abbrev pub first : Case → ℕ → ℕ → ℕ → St
first U (suc i) j n = up (suc i)
first U zero (suc j) n = down (suc j)
first U zero zero zero = off U.elapsed.0
first U zero zero (suc n) = run (suc n) U.elapsed.0

-- the stop of the shut-down in which a day opens, DD + 1 − stage hours on, keeps the minimum up time
abbrev pub LateStop : Case → Type 0
LateStop U = 1 ≤ U.downstage → U.minup.0 + U.downstage ≤ U.elapsed.0 + U.falls
