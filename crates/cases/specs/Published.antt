-- A second view of the limits and the layout: the published numbers field by field, and the bytes of a file at their
-- offsets (document 01, "Case file" and "Refusal list"; requests F-2, F-5 and F-6). The promises tie it to Limits,
-- Forms, Refusals and Layout; no entry rests on it. Definitions only. Assumes nothing.
use Rattle.std.specs.Prelude.{◌≡◌, ◌⊎◌, List, [], ◌∷◌, ◌++◌, ℕ, ◌+◌, ◌*◌, ◌-◌, ◌≤◌, ◌<◌, ℤ, pos, negsuc, ◌-ℤ◌}
use Rattle.std.specs.Prelude.{length, get_or, take, replicate, ◌≤ℤ◌}
use Rattle.cases.specs.declared.Case.{Case}
use Rattle.cases.specs.Symbols.{stage, hourly, priced}
use Rattle.cases.specs.Layout.{no_output, no_mills}

-- ---- the limits that each number stands for, for any limit of the hours and of the minimum times
pub record CountsTo (most : ℕ) (c : Case) : Type 0 where
  pub rises : (1 ≤ c.rises) × (c.rises ≤ 8)
  pub falls : (1 ≤ c.falls) × (c.falls ≤ 8)
  pub hours : (1 ≤ c.hours) × (c.hours ≤ most)

pub record RatesTo (most : ℕ) (c : Case) : Type 0 where
  pub rampup : (1 ≤ c.rampup.0) × (c.rampup.0 ≤ 400)
  pub rampdown : (1 ≤ c.rampdown.0) × (c.rampdown.0 ≤ 400)
  pub minup : (1 ≤ c.minup.0) × (c.minup.0 ≤ most)
  pub mindown : (1 ≤ c.mindown.0) × (c.mindown.0 ≤ most)

module _ (c : Case) where
  pub record Outputs : Type 0 where
    pub minimum : (1 ≤ c.minimum.0) × (c.minimum.0 ≤ c.capacity.0)
    pub capacity : c.capacity.0 ≤ 400

  pub record Costs : Type 0 where
    pub variable : (pos 0 ≤ℤ c.variable.0) × (c.variable.0 ≤ℤ pos 1000000)
    pub fixed : (pos 0 ≤ℤ c.fixed.0) × (c.fixed.0 ≤ℤ pos 100000000)
    pub startcost : (pos 0 ≤ℤ c.startcost.0) × (c.startcost.0 ≤ℤ pos 100000000)
    pub stopcost : (pos 0 ≤ℤ c.stopcost.0) × (c.stopcost.0 ≤ℤ pos 100000000)

  pub record Trajectories : Type 0 where
    pub rise_from : 1 ≤ stage c.rise 1
    pub rise_to : stage c.rise c.rises ≡ c.minimum.0
    pub rising : (i : ℕ) → 1 ≤ i → i < c.rises → stage c.rise i < stage c.rise (i + 1)
    pub fall_from : stage c.fall 1 ≡ c.minimum.0
    pub fall_to : 1 ≤ stage c.fall c.falls
    pub falling : (i : ℕ) → 1 ≤ i → i < c.falls → stage c.fall (i + 1) < stage c.fall i

  pub record Opening : Type 0 where
    pub elapsed : (1 ≤ c.elapsed.0) × (c.elapsed.0 ≤ 10000)
    pub single : 1 ≤ c.upstage → c.downstage ≡ 0
    pub free : c.upstage ≡ 0 → c.downstage ≡ 0 → 1 ≤ c.initial.0
        → (c.minimum.0 ≤ c.initial.0) × (c.initial.0 ≤ c.capacity.0) × (c.rises ≤ c.elapsed.0)
    pub up : 1 ≤ c.upstage
        → (c.upstage < c.rises) × (c.initial.0 ≡ stage c.rise c.upstage) × (c.elapsed.0 ≡ c.upstage)
    pub down : 1 ≤ c.downstage
        → (2 ≤ c.downstage)
        × (c.downstage ≤ c.falls)
        × (c.initial.0 ≡ stage c.fall c.downstage)
        × (c.rises + c.downstage ≤ c.elapsed.0 + 1)

  pub record Orders : Type 0 where
    pub orders : (k : ℕ) → 1 ≤ k → k ≤ c.hours → hourly c.orders k ≤ 2

  pub record Prices : Type 0 where
    pub prices : (k : ℕ) → 1 ≤ k → k ≤ c.hours
        → (negsuc 9999999 ≤ℤ priced c.prices k) × (priced c.prices k ≤ℤ pos 10000000)

-- a record keeps the limits of this number
pub data LimitedTo (hours time : ℕ) (c : Case) : ℕ → Type 0 where
  limit2 : CountsTo hours c → LimitedTo hours time c 2
  limit3 : Outputs c → LimitedTo hours time c 3
  limit4 : RatesTo time c → LimitedTo hours time c 4
  limit5 : Costs c → LimitedTo hours time c 5
  limit6 : Trajectories c → LimitedTo hours time c 6
  limit7 : Opening c → LimitedTo hours time c 7
  limit8 : Orders c → LimitedTo hours time c 8
  limit13 : Prices c → LimitedTo hours time c 13

-- the limits, and those without request F-6
abbrev pub Counts : Case → Type 0
Counts = CountsTo 168

abbrev pub Limited : Case → ℕ → Type 0
Limited = LimitedTo 168 24

abbrev pub LimitedBefore : Case → ℕ → Type 0
LimitedBefore = LimitedTo 48 8

-- a record has no more hours and no longer minimum times than without request F-6
pub record NoLonger (c : Case) : Type 0 where
  pub hours : c.hours ≤ 48
  pub minup : c.minup.0 ≤ 8
  pub mindown : c.mindown.0 ≤ 8

-- the first of these numbers whose limits are not kept; 0 where all are
pub data FirstRefused (limited : ℕ → Type 0) : List ℕ → ℕ → Type 0 where
  none : FirstRefused limited [] 0
  here : {n : ℕ} {ns : List ℕ} → (limited n → ⊥) → FirstRefused limited (n ∷ ns) n
  later : {n m : ℕ} {ns : List ℕ} → limited n → FirstRefused limited ns m → FirstRefused limited (n ∷ ns) m

-- the order in which the numbers of a record are tested, and after 1, 2 and 12 those of a file
abbrev pub record_order : List ℕ
record_order = 2 ∷ 3 ∷ 4 ∷ 5 ∷ 6 ∷ 7 ∷ 8 ∷ 13 ∷ []

abbrev pub file_order : List ℕ
file_order = 1 ∷ 2 ∷ 12 ∷ 3 ∷ 4 ∷ 5 ∷ 6 ∷ 7 ∷ 8 ∷ 13 ∷ []

-- ---- the bytes of a file
-- the 16-bit and the 32-bit number that begins at byte i
abbrev pub word : List ℕ → ℕ → ℕ
word s i = get_or s i 0 + 256 * get_or s (i + 1) 0

abbrev pub long : List ℕ → ℕ → ℕ
long s i = word s i + 65536 * word s (i + 2)

-- the 32 bits of n as a number with a sign: from 2^31 on it is 2^32 less
pub data Signed (n : ℕ) : ℤ → Type 0 where
  above : n < 2147483648 → Signed n (pos n)
  below : 2147483648 ≤ n → Signed n (pos n -ℤ pos 4294967296)

-- a file without stages: of the old form, or of form 2 by its last two bytes
pub data Stageless (s : List ℕ) : Type 0 where
  old : word s 0 ≡ 16 → Stageless s
  two : word s 0 ≡ 20 → word s (length s - 2) ≡ 2 → Stageless s

-- Pair i stands at byte 4 i. The first offset is 16 in the old form and 20 in those that hold their number
module _ (s : List ℕ) where
  -- the sections follow one another to the end of the file
  pub record Chained : Type 0 where
    pub forms : (word s 0 ≡ 16) ⊎ (word s 0 ≡ 20)
    pub pairs : word s 0 ≤ length s
    pub rise : word s 4 ≡ word s 0 + word s 2
    pub fall : word s 8 ≡ word s 4 + word s 6
    pub hours : word s 12 ≡ word s 8 + word s 10
    pub old_end : word s 0 ≡ 16 → length s ≡ word s 12 + word s 14
    pub form : word s 0 ≡ 20 → word s 16 ≡ word s 12 + word s 14
    pub end : word s 0 ≡ 20 → length s ≡ word s 16 + word s 18

  -- their lengths are those of a record's counts
  pub record Measured (c : Case) : Type 0 where
    pub old_unit : Stageless s → word s 2 ≡ 32
    pub unit : (Stageless s → ⊥) → word s 2 ≡ 34
    pub rise : word s 6 ≡ 2 * c.rises
    pub fall : word s 10 ≡ 2 * c.falls
    pub old_hours : word s 0 ≡ 16 → word s 14 ≡ 3 * c.hours
    pub hours : word s 0 ≡ 20 → word s 14 ≡ 5 * c.hours
    pub form : word s 0 ≡ 20 → word s 18 ≡ 2

  -- the numbers of the file are those of a record, each at its place in its section
  pub record Holds (c : Case) : Type 0 where
    pub chained : Chained
    pub measured : Measured c
    pub capacity : word s (word s 0) ≡ c.capacity.0
    pub minimum : word s (word s 0 + 2) ≡ c.minimum.0
    pub rampup : word s (word s 0 + 4) ≡ c.rampup.0
    pub rampdown : word s (word s 0 + 6) ≡ c.rampdown.0
    pub minup : word s (word s 0 + 8) ≡ c.minup.0
    pub mindown : word s (word s 0 + 10) ≡ c.mindown.0
    pub variable : Signed (long s (word s 0 + 12)) c.variable.0
    pub fixed : Signed (long s (word s 0 + 16)) c.fixed.0
    pub startcost : Signed (long s (word s 0 + 20)) c.startcost.0
    pub stopcost : Signed (long s (word s 0 + 24)) c.stopcost.0
    pub initial : word s (word s 0 + 28) ≡ c.initial.0
    pub elapsed : word s (word s 0 + 30) ≡ c.elapsed.0
    pub no_stages : Stageless s → (c.upstage ≡ 0) × (c.downstage ≡ 0)
    pub upstage : (Stageless s → ⊥) → get_or s (word s 0 + 32) 0 ≡ c.upstage
    pub downstage : (Stageless s → ⊥) → get_or s (word s 0 + 33) 0 ≡ c.downstage
    pub rise : (i : ℕ) → i < c.rises → word s (word s 4 + 2 * i) ≡ (get_or c.rise i no_output).0
    pub fall : (i : ℕ) → i < c.falls → word s (word s 8 + 2 * i) ≡ (get_or c.fall i no_output).0
    pub old_prices : word s 0 ≡ 16 → (i : ℕ) → i < c.hours
        → Signed (word s (word s 12 + 3 * i)) (get_or c.prices i no_mills).0
    pub old_orders : word s 0 ≡ 16 → (i : ℕ) → i < c.hours
        → get_or s (word s 12 + 3 * i + 2) 0 ≡ get_or c.orders i 0
    pub prices : word s 0 ≡ 20 → (i : ℕ) → i < c.hours
        → Signed (long s (word s 12 + 5 * i)) (get_or c.prices i no_mills).0
    pub orders : word s 0 ≡ 20 → (i : ℕ) → i < c.hours
        → get_or s (word s 12 + 5 * i + 4) 0 ≡ get_or c.orders i 0

-- a file keeps the limits of this number: 1 and 2 by its pairs, 12 by its last two bytes, the others by the record that
-- it holds
pub data FileLimitedTo (hours time : ℕ) (s : List ℕ) : ℕ → Type 0 where
  file1 : Chained s → FileLimitedTo hours time s 1
  file2 : (c : Case) → Measured s c → CountsTo hours c → FileLimitedTo hours time s 2
  file12 : (word s 0 ≡ 20 → (word s (length s - 2) ≡ 2) ⊎ (word s (length s - 2) ≡ 3)) → FileLimitedTo hours time s 12
  held : (n : ℕ) (c : Case) → Holds s c → LimitedTo hours time c n → FileLimitedTo hours time s n

abbrev pub FileLimited : List ℕ → ℕ → Type 0
FileLimited = FileLimitedTo 168 24

abbrev pub FileLimitedBefore : List ℕ → ℕ → Type 0
FileLimitedBefore = FileLimitedTo 48 8

-- how many numbers a search of a record works in, by its minimum times
pub data WorksIn (c : Case) : ℕ → Type 0 where
  short : c.minup.0 ≤ 8 → c.mindown.0 ≤ 8 → WorksIn c 8192
  up : 8 < c.minup.0 → WorksIn c 32768
  down : 8 < c.mindown.0 → WorksIn c 32768

-- ---- the numbers of a record
-- the numbers of the unit and the counts; the costs
abbrev pub unit_numbers : Case → List ℕ
unit_numbers c =
    c.capacity.0 ∷ c.minimum.0 ∷ c.rampup.0 ∷ c.rampdown.0 ∷ c.minup.0 ∷ c.mindown.0 ∷ c.initial.0
    ∷ c.elapsed.0 ∷ c.upstage ∷ c.downstage ∷ c.rises ∷ c.falls ∷ c.hours ∷ []

abbrev pub costs : Case → List ℤ
costs c = c.variable.0 ∷ c.fixed.0 ∷ c.startcost.0 ∷ c.stopcost.0 ∷ []

-- n entries as they are, and zeros up to `size`
abbrev pub cut : {X : Type 0} → X → ℕ → ℕ → List X → List X
cut zero size n l = take n l ++ replicate (size - n) zero

-- d is c with the entries past its counts zero
pub record Zeroed (c d : Case) : Type 0 where
  pub unit : unit_numbers d ≡ unit_numbers c
  pub costs : costs d ≡ costs c
  pub rise : d.rise ≡ cut no_output 8 c.rises c.rise
  pub fall : d.fall ≡ cut no_output 8 c.falls c.fall
  pub prices : d.prices ≡ cut no_mills 168 c.hours c.prices
  pub orders : d.orders ≡ cut 0 168 c.hours c.orders

-- every number of a record is 0
pub record AllZero (c : Case) : Type 0 where
  pub unit : unit_numbers c ≡ replicate 13 0
  pub costs : costs c ≡ replicate 4 (pos 0)
  pub rise : c.rise ≡ replicate 8 no_output
  pub fall : c.fall ≡ replicate 8 no_output
  pub prices : c.prices ≡ replicate 168 no_mills
  pub orders : c.orders ≡ replicate 168 0

-- what a record has room for: its arrays are of 8 and of 168 entries
pub record Stored (c : Case) : Type 0 where
  pub rise : length c.rise ≡ 8
  pub fall : length c.fall ≡ 8
  pub prices : length c.prices ≡ 168
  pub orders : length c.orders ≡ 168
