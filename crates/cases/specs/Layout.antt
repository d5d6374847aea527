-- The case file (document 01, "Case file"; requests F-2 and F-5): the bytes of a case, and the case of a file, by
-- offsets and by the widths of its form. Definitions only. Assumes nothing.
use Rattle.std.specs.Prelude.{cond, List, [], ◌∷◌, ◌++◌, ℕ, zero, suc, ◌+◌, ◌*◌, ◌-◌, ◌/◌, ◌%◌, ◌<◌, ltb, eqb, ℤ}
use Rattle.std.specs.Prelude.{pos, negsuc, ◌-ℤ◌, length, get_or, take, drop}
use Rattle.cases.specs.declared.Case.{Case}
use Rattle.quantities.specs.declared.Output.{Output}
use Rattle.quantities.specs.declared.Hour.{Hour}
use Rattle.quantities.specs.declared.Mills.{Mills}
use Rattle.cases.specs.Limits.{most_stages, most_hours, longs, half_longs}
use Rattle.cases.specs.Symbols.{high, low, RU, RD, up_time, down_time, F, A, B, C, p0, h, up_stage, down_stage}
use Rattle.cases.specs.Forms.{Form, old_form, newest, numbered, form_numbered, entry_length, pairs_length}

-- the number that bytes hold, least significant first
unfoldable pub number : List ℕ → ℕ
number [] = 0
number (b ∷ bs) = b + 256 * number bs

-- the number in `width` bytes at an offset
unfoldable pub number_at : List ℕ → ℕ → ℕ → ℕ
number_at bytes offset width = number (take width (drop offset bytes))

-- offset and length in pair i of a file, i from 0: unit, start-up trajectory, shut-down trajectory, hours, form number
unfoldable pub offset_at : List ℕ → ℕ → ℕ
offset_at file i = number_at file (4 * i) 2

unfoldable pub length_at : List ℕ → ℕ → ℕ
length_at file i = number_at file (4 * i + 2) 2

-- where section i ends
unfoldable pub end_at : List ℕ → ℕ → ℕ
end_at file i = offset_at file i + length_at file i

-- every entry is a byte
pub record AllBytes (s : List ℕ) : Type 0 where
  pub byte : (i : ℕ) → get_or s i 0 < 256

-- f 0, .., f (n − 1)
unfoldable pub listed : {X : Type 0} → (ℕ → X) → ℕ → List X
listed f zero = []
listed f (suc n) = listed f n ++ (f n ∷ [])

-- f 0, .., f (n − 1), end to end
unfoldable pub joined : (ℕ → List ℕ) → ℕ → List ℕ
joined f zero = []
joined f (suc n) = joined f n ++ f n

-- a number in `width` bytes, least significant first
unfoldable pub bytes : ℕ → ℕ → List ℕ
bytes zero n = []
bytes (suc width) n = n % 256 ∷ bytes width (n / 256)

-- an array of `size` entries: f for the first n, and `rest` past them
unfoldable pub padded : {X : Type 0} → X → (ℕ → X) → ℕ → ℕ → List X
padded rest f n size = listed (λ i. cond (ltb i n) (f i) rest) size

-- 0 MW, and 0 mills
abbrev pub no_output : Output
no_output = record { 0 = 0 }

abbrev pub no_mills : Mills
no_mills = record { 0 = pos 0 }

-- the signed 32-bit number whose bits are those of n, and back; what is below 2^31 stays as it is
unfoldable pub signed : ℕ → ℤ
signed n = cond (ltb n half_longs) (pos n) (pos n -ℤ pos longs)

unfoldable pub unsigned : ℤ → ℕ
unsigned (pos n) = n
unsigned (negsuc n) = longs - suc n

-- how a day opens: p(0), h, start-up stage and shut-down stage
pub record Opening : Type 0 where
  pub initial : Output
  pub elapsed : Hour
  pub upstage : ℕ
  pub downstage : ℕ

abbrev pub opening_of : Case → Opening
opening_of c =
    record { initial = c.initial; elapsed = c.elapsed; upstage = c.upstage; downstage = c.downstage }

-- the record with this opening, these arrays (PU, PD, prices and orders) and this T in place of its own
abbrev pub remade : Case → Opening → List Output → List Output → List Mills → List ℕ → ℕ → Case
remade c opening rise fall prices orders hours =
    record {
      capacity = c.capacity;
      minimum = c.minimum;
      rampup = c.rampup;
      rampdown = c.rampdown;
      minup = c.minup;
      mindown = c.mindown;
      variable = c.variable;
      fixed = c.fixed;
      startcost = c.startcost;
      stopcost = c.stopcost;
      initial = opening.initial;
      elapsed = opening.elapsed;
      upstage = opening.upstage;
      downstage = opening.downstage;
      rise = rise;
      fall = fall;
      prices = prices;
      orders = orders;
      rises = c.rises;
      falls = c.falls;
      hours = hours;
    }

-- with these arrays alone
abbrev pub with_arrays : Case → List Output → List Output → List Mills → List ℕ → Case
with_arrays c rise fall prices orders = remade c (opening_of c) rise fall prices orders c.hours

-- the record with the entries past its counts zero
unfoldable pub zeroed : Case → Case
zeroed c =
    with_arrays c (padded no_output (λ i. get_or c.rise i no_output) c.rises most_stages)
    (padded no_output (λ i. get_or c.fall i no_output) c.falls most_stages)
    (padded no_mills (λ i. get_or c.prices i no_mills) c.hours most_hours)
    (padded 0 (λ i. get_or c.orders i 0) c.hours most_hours)

-- ---- writing
-- numbers in fields of these widths, one after the other; a field without a number is 0
unfoldable pub field_bytes : List ℕ → List ℕ → List ℕ
field_bytes [] ns = []
field_bytes (w ∷ ws) [] = bytes w 0 ++ field_bytes ws []
field_bytes (w ∷ ws) (n ∷ ns) = bytes w n ++ field_bytes ws ns

module _ (c : Case) where
  -- how many entries each section has, and the numbers of entry k of each, with the number of the form
  abbrev pub counts_of : List ℕ
  counts_of = 1 ∷ c.rises ∷ c.falls ∷ c.hours ∷ 1 ∷ []

  abbrev pub numbers_of : ℕ → ℕ → List (List ℕ)
  numbers_of form k =
      (high c ∷ low c ∷ RU c ∷ RD c ∷ up_time c ∷ down_time c ∷ unsigned (F c) ∷ unsigned (A c) ∷ unsigned (B c)
      ∷ unsigned (C c) ∷ p0 c ∷ h c ∷ up_stage c ∷ down_stage c ∷ [])
      ∷ ((get_or c.rise k no_output).0 ∷ [])
      ∷ ((get_or c.fall k no_output).0 ∷ [])
      ∷ (unsigned (get_or c.prices k no_mills).0 ∷ get_or c.orders k 0 ∷ [])
      ∷ (form ∷ [])
      ∷ []

  -- a form with its number
  module _ (f : ℕ × Form) where
    -- the bytes of section i, how many there are, and where they begin
    unfoldable pub section_bytes : ℕ → List ℕ
    section_bytes i = joined (λ k. field_bytes (get_or f.1 i []) (get_or (numbers_of f.0 k) i [])) (get_or counts_of i 0)

    unfoldable pub section_length : ℕ → ℕ
    section_length i = entry_length f.1 i * get_or counts_of i 0

    unfoldable pub section_from : ℕ → ℕ
    section_from zero = pairs_length f.1
    section_from (suc i) = section_from i + section_length i

    -- the file in this form: a pair of offset and length for each section, and the sections
    unfoldable pub pair_bytes : List ℕ
    pair_bytes = joined (λ i. bytes 2 (section_from i) ++ bytes 2 (section_length i)) (length f.1)

    unfoldable pub file_of : List ℕ
    file_of = pair_bytes ++ joined section_bytes (length f.1)

  -- the file of a case: only the newest form is written
  abbrev pub bytes_of : List ℕ
  bytes_of = file_of newest

-- ---- reading
-- section i of a file: the part that begins at its own offset
unfoldable pub section_at : List ℕ → ℕ → List ℕ
section_at file i = take (length_at file i) (drop (offset_at file i) file)

-- field j, from 0, of an entry of these widths that begins at an offset; 0 where an entry has no such field
unfoldable pub field_at : List ℕ → List ℕ → ℕ → ℕ → ℕ
field_at [] part at j = 0
field_at (w ∷ ws) part at zero = number_at part at w
field_at (w ∷ ws) part at (suc j) = field_at ws part (at + w) j

-- the number in the form section of a file with five pairs; 0 where it is empty
unfoldable pub form_number_at : List ℕ → ℕ
form_number_at file = number_at (section_at file 4) 0 2

-- the form of a file, by its first offset and its form number
unfoldable pub form_of : List ℕ → Form
form_of file =
    cond (eqb (offset_at file 0) (pairs_length old_form.1)) old_form.1 (form_numbered numbered (form_number_at file))

module _ (f : Form) (file : List ℕ) where
  -- how many entries section i has, and field j of its entry k
  unfoldable pub entries_at : ℕ → ℕ
  entries_at i = length_at file i / entry_length f i

  unfoldable pub entry_at : ℕ → ℕ → ℕ → ℕ
  entry_at i k j = field_at (get_or f i []) (section_at file i) (entry_length f i * k) j

  -- the case that a file holds in this form; entries past a count are zero
  unfoldable pub case_in : Case
  case_in =
      record {
        capacity = record { 0 = entry_at 0 0 0 };
        minimum = record { 0 = entry_at 0 0 1 };
        rampup = record { 0 = entry_at 0 0 2 };
        rampdown = record { 0 = entry_at 0 0 3 };
        minup = record { 0 = entry_at 0 0 4 };
        mindown = record { 0 = entry_at 0 0 5 };
        variable = record { 0 = signed (entry_at 0 0 6) };
        fixed = record { 0 = signed (entry_at 0 0 7) };
        startcost = record { 0 = signed (entry_at 0 0 8) };
        stopcost = record { 0 = signed (entry_at 0 0 9) };
        initial = record { 0 = entry_at 0 0 10 };
        elapsed = record { 0 = entry_at 0 0 11 };
        upstage = entry_at 0 0 12;
        downstage = entry_at 0 0 13;
        rise = padded no_output (λ k. record { 0 = entry_at 1 k 0 }) (entries_at 1) most_stages;
        fall = padded no_output (λ k. record { 0 = entry_at 2 k 0 }) (entries_at 2) most_stages;
        prices = padded no_mills (λ k. record { 0 = signed (entry_at 3 k 0) }) (entries_at 3) most_hours;
        orders = padded 0 (λ k. entry_at 3 k 1) (entries_at 3) most_hours;
        rises = entries_at 1;
        falls = entries_at 2;
        hours = entries_at 3;
      }

-- the case of a file
unfoldable pub case_of : List ℕ → Case
case_of file = case_in (form_of file) file

-- the record of zeros that stands beside a refusal: what no bytes hold
unfoldable pub blank : Case
blank = case_of []
