-- A second view of the calendar (request F-3): its windows by their places in a list, the published limits of lists and
-- day, and the orders that they give. The promises tie it to Calendar; no entry rests on it. Definitions only. Assumes
-- nothing.
use Rattle.std.specs.Prelude.{◌≡◌, List, [], ◌∷◌, ℕ, suc, ◌+◌, ◌*◌, ◌≤◌, ◌<◌, length, get_or}

-- window i of a list, from 0: its first hour, and the hour after its last
abbrev pub begin : List ℕ → ℕ → ℕ
begin l i = get_or l (2 * i) 0

abbrev pub end : List ℕ → ℕ → ℕ
end l i = get_or l (2 * i) 0 + get_or l (2 * i + 1) 0

-- a list of windows: pairs, none empty, none past hour 8,784, each at or after the end of the one before
pub record Windows (l : List ℕ) : Type 0 where
  pub count : ℕ
  pub whole : length l ≡ 2 * count
  pub held : (i : ℕ) → i < count → begin l i < end l i
  pub inside : (i : ℕ) → i < count → end l i ≤ 8784
  pub apart : (i : ℕ) → suc i < count → end l i ≤ begin l (suc i)

-- hour t of the year is in one of them
pub data InWindow (l : List ℕ) (t : ℕ) : Type 0 where
  window : (i : ℕ) → 2 * i + 1 < length l → begin l i ≤ t → t < end l i → InWindow l t

-- lists and day keep the limits of this number
pub data CalendarLimited (on off : List ℕ) (first hours : ℕ) : ℕ → Type 0 where
  limit14 : Windows on → Windows off → (23 ≤ hours) × (hours ≤ 25) → first + hours ≤ 8784
      → CalendarLimited on off first hours 14
  limit15 : ((t : ℕ) → first ≤ t → t < first + hours → InWindow on t → InWindow off t → ⊥)
      → CalendarLimited on off first hours 15

-- the order in which the two are tested
abbrev pub calendar_order : List ℕ
calendar_order = 14 ∷ 15 ∷ []

-- the order that the lists give hour t of the year
pub data GivesOrder (on off : List ℕ) (t : ℕ) : ℕ → Type 0 where
  free : (InWindow on t → ⊥) → (InWindow off t → ⊥) → GivesOrder on off t 0
  on_line : InWindow on t → GivesOrder on off t 1
  off_line : InWindow off t → GivesOrder on off t 2
