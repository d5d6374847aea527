-- The bytes of an entry, and how many entries there may be, section by section; entries of a part. Assumes nothing.
use mathlib.Core.Path.{◌≡◌, refl}
use Prim.Native.Nat.{ℕ, zero, suc, ◌*◌, ◌/◌, ◌≤◌, ◌<◌}
use native.Mathlib.Decide.{dec_lt}
use native.Mathlib.Nat.{mul-div-le, mul-le-mul_left, mul-suc}
use native.Mathlib.Omega.{arith}
use lib.ListN.{length, get_or}
use Rattle.cases.specs.Limits.{most_stages}
use Rattle.cases.specs.Forms.{unit_widths, newest, most_entries, width, entry_length}
use Rattle.reader.specs.declared.forms.Form.{Form}
use Rattle.reader.specs.declared.forms.Form.TheVariants.{Old, Two, Three}
use Rattle.reader.specs.Tables.{table_of}

pub sections_four : (f : Form) → 4 ≤ length (table_of f)
sections_four Old = omega arith
sections_four Two = omega arith
sections_four Three = omega arith

pub unit_some : (f : Form) → width unit_widths ≤ entry_length (table_of f) 0
unit_some Old = omega arith
unit_some Two = omega arith
unit_some Three = omega arith

pub entry_stage : (f : Form) (i : ℕ) → (i ≡ 0 → ⊥) → i < 3 → 2 ≡ entry_length (table_of f) i
entry_stage f zero n h = absurd (n refl)
entry_stage Old (suc zero) n h = refl
entry_stage Two (suc zero) n h = refl
entry_stage Three (suc zero) n h = refl
entry_stage Old (suc (suc zero)) n h = refl
entry_stage Two (suc (suc zero)) n h = refl
entry_stage Three (suc (suc zero)) n h = refl
entry_stage f (suc (suc (suc i))) n h = absurd (omega arith)

-- an entry has bytes, no more than the newest form's unit, and so do as many entries as there may be
abbrev longest : ℕ
longest = entry_length newest.1 0

-- the bytes of an hour
pub hour_some : (f : Form) → 3 ≤ entry_length (table_of f) 3
hour_some Old = omega arith
hour_some Two = omega arith
hour_some Three = omega arith

-- and of an output of a trajectory there may be as many as stages
pub stages_most : (i : ℕ) → (i ≡ 0 → ⊥) → i < 3 → get_or most_entries i 0 ≡ most_stages
stages_most zero n h = absurd (n refl)
stages_most (suc zero) n h = refl
stages_most (suc (suc zero)) n h = refl
stages_most (suc (suc (suc i))) n h = absurd (omega arith)

-- ---- entries of a part
-- a part of no more bytes has no more entries
pub entries_le : (w n most : ℕ) → 0 < w → n ≤ w * most → n / w ≤ most
entries_le w n most some h = go (dec_lt most (n / w))
  where
    go : Dec (most < n / w) → n / w ≤ most
    go (yes l) = absurd (omega (arith, mul-div-le n w, mul-le-mul_left w l, mul-suc w most))
    go (no l) = omega arith
