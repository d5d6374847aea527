-- A second view of the rules: the marks by the outputs; each rule in the source's own form, with its minus signs, or in
-- the words of document 01, "Rules of a list", for any marks; the profit by its sums; the first breach; demand 3's
-- "earns less, or earns the same and is the higher"; and a number in decimal. The promises tie it to Marks,
-- Constraints, Rules, Profit, Best and Printed; no entry rests on it. Definitions only. Assumes nothing.
use Rattle.std.specs.Prelude.{◌≡◌, Bool, ◌||◌, cond, List, [], ◌∷◌, ℕ, zero, suc, ◌+◌, ◌*◌, ◌-◌, ◌≤◌, ◌<◌, T, leb}
use Rattle.std.specs.Prelude.{ltb, eqb, ℤ, pos, ◌+ℤ◌, ◌-ℤ◌, ◌*ℤ◌, length, get_or, ◌≤ℤ◌, ◌<ℤ◌}
use Rattle.cases.specs.declared.Case.{Case}
use Rattle.cases.specs.Symbols.{sum, bit, stage, hourly, priced}
use Rattle.day.specs.Marks.{p, y, y_back, z}
use Rattle.cases.specs.Refusals.{within}

-- ---- marks
module _ (c : Case) (l : List ℕ) where
  -- the unit starts in hour k of the day
  pub record Starts (k : ℕ) : Type 0 where
    pub inside : (1 ≤ k) × (k ≤ c.hours)
    pub off_line : p c l (k - 1) ≡ 0
    pub on_line : 1 ≤ p c l k

  -- no start sequence, which is UD hours from a start on, holds hour T; nor does that in which the day opens
  pub record Settled : Type 0 where
    pub started : (s : ℕ) → Starts s → s + c.rises ≤ c.hours
    pub opened : 1 ≤ c.upstage → c.rises < c.hours + c.upstage

  -- it stops in hour k of the day, or, where the day closes at PD(i), DD + 1 − i hours after it
  pub data Stops (k : ℕ) : Type 0 where
    stops_inside : 1 ≤ k → k ≤ c.hours → 1 ≤ p c l (k - 1) → p c l k ≡ 0 → Stops k
    stops_after : (i : ℕ) → 2 ≤ i → i ≤ c.falls → k + i ≡ c.hours + c.falls + 1
        → p c l c.hours ≡ stage c.fall i → Settled → Stops k

  -- y(k−i+1) is a start in the day, or that in which the day opens: k − i + 1 is 1 − stage
  pub data StartsBack (k i : ℕ) : Type 0 where
    starts_inside : (s : ℕ) → s + i ≡ k + 1 → Starts s → StartsBack k i
    starts_opening : 1 ≤ c.upstage → i ≡ k + c.upstage → StartsBack k i

-- outputs and marks: p(k), y(k), z(k), and y(k−i+1) for i from 1 on
pub record Marking : Type 0 where
  pub p : ℕ → ℕ
  pub y : ℕ → ℕ
  pub z : ℕ → ℕ
  pub back : ℕ → ℕ → ℕ

-- those of a list; and with no mark outside hours 1 to T
abbrev pub marking_of : Case → List ℕ → Marking
marking_of c l = record { p = p c l; y = y c l; z = z c l; back = y_back c l }

abbrev pub inside_of : Case → List ℕ → Marking
inside_of c l =
    record {
      p = p c l;
      y = y c l;
      z = λ k. cond (leb k c.hours) (z c l k) 0;
      back = λ k i. cond (ltb k i) 0 (y c l (k + 1 - i));
    }

-- ---- rules

-- s is the latest hour before k at which there is such an event
pub record Latest (event : ℕ → Type 0) (k s : ℕ) : Type 0 where
  pub earlier : s < k
  pub there : event s
  pub quiet : (i : ℕ) → s < i → i < k → event i → ⊥

-- at hour k the latest event is at least n hours back; with none, h + k − 1 is at least n
pub record Rested (event : ℕ → Type 0) (h n k : ℕ) : Type 0 where
  pub since : (s : ℕ) → Latest event k s → n ≤ k - s
  pub never : ((s : ℕ) → s < k → event s → ⊥) → n ≤ h + k - 1

-- the order of hour k is kept with output q; no output keeps an order above 2
pub record Ordered (c : Case) (k q : ℕ) : Type 0 where
  pub on_line : hourly c.orders k ≡ 1 → 1 ≤ q
  pub off_line : hourly c.orders k ≡ 2 → q ≡ 0
  pub known : hourly c.orders k ≤ 2

-- (a − b) × n
abbrev pub scaled : ℕ → ℕ → ℕ → ℤ
scaled a b n = (pos a -ℤ pos b) *ℤ pos n

-- f 1 + .. + f n
unfoldable pub sum_z : (ℕ → ℤ) → ℕ → ℤ
sum_z f zero = pos 0
sum_z f (suc n) = sum_z f n +ℤ f (suc n)

-- the sums of the constraints, with v(k)
module _ (c : Case) (m : Marking) where
  abbrev pub online : ℕ → ℕ
  online k = bit (ltb 0 (m.p k))

  -- start-ups and shut-downs that hour k lies in, with what they prescribe; stops in n hours from hour k
  abbrev pub ups : ℕ → ℕ
  ups k = sum (λ i. m.back k i) c.rises

  abbrev pub downs : ℕ → ℕ
  downs k = sum (λ i. m.z (k + i)) c.falls

  abbrev pub up_output : ℕ → ℕ
  up_output k = sum (λ i. stage c.rise i * m.back k i) c.rises

  abbrev pub down_output : ℕ → ℕ
  down_output k = sum (λ i. stage c.fall i * m.z (k + c.falls + 1 - i)) c.falls

  abbrev pub stops : ℕ → ℕ → ℕ
  stops n k = sum (λ i. m.z (k + i - 1)) n

-- hour k keeps the rule of this number
pub data Kept (c : Case) (m : Marking) (k : ℕ) : ℕ → Type 0 where
  kept1 : (scaled (online c m k) (downs c m k + ups c m k) c.minimum.0 +ℤ pos (up_output c m k)) ≤ℤ pos (m.p k)
      → Kept c m k 1
  kept2 : (scaled (online c m k) (downs c m k + ups c m k) c.minimum.0 +ℤ pos (down_output c m k)) ≤ℤ pos (m.p k)
      → Kept c m k 2
  kept3 : pos (m.p k) ≤ℤ (pos (up_output c m k) +ℤ scaled (online c m k) (ups c m k) c.capacity.0) → Kept c m k 3
  kept4 : pos (m.p k) ≤ℤ (pos (down_output c m k) +ℤ scaled (online c m k) (downs c m k) c.capacity.0)
      → Kept c m k 4
  kept5 : (pos (m.p k) -ℤ pos (m.p (k - 1)))
      ≤ℤ (pos (c.capacity.0 * ups c m k) +ℤ scaled (online c m k) (ups c m k) c.rampup.0) → Kept c m k 5
  kept6 : (pos (m.p (k - 1)) -ℤ pos (m.p k))
      ≤ℤ (pos (c.capacity.0 * stops c m c.falls k)
      +ℤ scaled (online c m (k - 1)) (stops c m c.falls k) c.rampdown.0) → Kept c m k 6
  kept7 : pos (m.y k) -ℤ pos (m.z k) ≡ pos (online c m k) -ℤ pos (online c m (k - 1)) → Kept c m k 7
  kept8 : ups c m k ≤ online c m k → Kept c m k 8
  kept9 : downs c m k ≤ online c m k → Kept c m k 9
  kept10 : m.y k + stops c m (c.rises + c.falls - 1) k ≤ 1 → Kept c m k 10
  kept11 : scaled (downs c m k + ups c m k) 1 (stage c.rise c.rises) ≤ℤ pos (m.p k) → Kept c m k 11
  kept12 : scaled (downs c m k + ups c m k) 1 (stage c.fall 1) ≤ℤ pos (m.p k) → Kept c m k 12
  kept21 : (m.z k ≡ 1 → Rested (λ s. m.y s ≡ 1) c.elapsed.0 c.minup.0 k) → Kept c m k 21
  kept22 : (m.y k ≡ 1 → Rested (λ s. m.z s ≡ 1) c.elapsed.0 c.mindown.0 k) → Kept c m k 22
  kept23 : Ordered c k (m.p k) → Kept c m k 23

-- the rules that an hour is held to: (2) and (4) at hour 0, all of them from hour 1 to T, 21 above it
abbrev pub tested : Case → ℕ → ℕ → Bool
tested c zero n = eqb n 2 || eqb n 4
tested c (suc k) n = cond (ltb k c.hours) (within 1 12 n || within 21 23 n) (eqb n 21)

-- every hour keeps every rule that it is held to; the last that a stop after T can stand in is T + DD − 1
abbrev pub KeepsAll : Case → Marking → Type 0
KeepsAll c m = (k n : ℕ) → k < c.hours + c.falls → T (tested c k n) → Kept c m k n

-- what hours 1 to T sell their energy for, in half-mills, and what they spend: F for it, A, B and C for hours on-line,
-- starts and stops; so much is the profit
abbrev pub sold : Case → Marking → ℤ
sold c m = sum_z (λ k. priced c.prices k *ℤ pos (m.p k + m.p (k - 1))) c.hours

abbrev pub spent : Case → Marking → ℤ
spent c m =
    c.variable.0 *ℤ pos (sum (λ k. m.p k + m.p (k - 1)) c.hours)
    +ℤ (c.fixed.0 *ℤ pos (2 * sum (online c m) c.hours)
    +ℤ (c.startcost.0 *ℤ pos (2 * sum m.y c.hours) +ℤ c.stopcost.0 *ℤ pos (2 * sum m.z c.hours)))

abbrev pub earned : Case → Marking → ℤ
earned c m = sold c m -ℤ spent c m

-- the same by what an hour costs at its energy: the cost of every hour, less that of no energy for those off-line
abbrev pub spent_at : (ℕ → ℤ) → Case → Marking → ℤ
spent_at cost c m =
    (sum_z (λ k. cost (m.p k + m.p (k - 1))) c.hours -ℤ cost 0 *ℤ pos (c.hours - sum (online c m) c.hours))
    +ℤ (c.startcost.0 *ℤ pos (2 * sum m.y c.hours) +ℤ c.stopcost.0 *ℤ pos (2 * sum m.z c.hours))

abbrev pub earned_at : (ℕ → ℤ) → Case → Marking → ℤ
earned_at cost c m = sold c m -ℤ spent_at cost c m

-- the first breach is that of rule n at hour k: no rule is broken earlier, none of a lower number then, and that one is
pub record Breaks (c : Case) (m : Marking) (k n : ℕ) : Type 0 where
  pub inside : k < c.hours + c.falls
  pub held : T (tested c k n)
  pub broken : Kept c m k n → ⊥
  pub lower : (i : ℕ) → i < n → T (tested c k i) → Kept c m k i
  pub earlier : (i j : ℕ) → i < k → T (tested c i j) → Kept c m i j

-- m earns less than l, or earns the same and is the higher at the first hour where the two differ
pub data Beaten (earns : List ℕ → ℤ) (l m : List ℕ) : Type 0 where
  less : earns m <ℤ earns l → Beaten earns l m
  higher : earns m ≡ earns l → (k : ℕ) → ((i : ℕ) → i < k → get_or m i 0 ≡ get_or l i 0) → get_or l k 0 < get_or m k 0
      → Beaten earns l m

-- the number that digits hold after those of `so`, the most significant first
unfoldable pub value_of : ℕ → List ℕ → ℕ
value_of so [] = so
value_of so (d ∷ ds) = value_of (10 * so + (d - 48)) ds

-- the text is n in decimal: digits that hold it, and no leading zero
pub record Spells (n : ℕ) (text : List ℕ) : Type 0 where
  pub holds : value_of 0 text ≡ n
  pub some : 0 < length text
  pub digit : (i : ℕ) → i < length text → (48 ≤ get_or text i 0) × (get_or text i 0 ≤ 57)
  pub first : 1 < length text → 48 < get_or text 0 0
