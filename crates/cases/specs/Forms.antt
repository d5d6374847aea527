-- The forms of a case file (document 01, "Case file"; requests F-2 and F-5): one table of widths, from which reading,
-- writing, lengths and refusals 1, 2 and 12 follow. Definitions only. Assumes nothing.
use Rattle.std.specs.Prelude.{Bool, true, ◌&&◌, not, cond, List, [], ◌∷◌, ◌++◌, ℕ, ◌+◌, ◌*◌, eqb, length, get_or}
use Rattle.cases.specs.Limits.{most_stages, most_hours}

-- a form: for each section of the file the widths, in bytes, of the fields of an entry
abbrev pub Form : Type 0
Form = List (List ℕ)

-- the unit: capacity, minimum output, RU, RD, minimum up time, minimum down time, F, A, B, C, p(0), h; the start-up
-- stage and the shut-down stage, which may follow; the form number, a section of its own
abbrev pub unit_widths : List ℕ
unit_widths = 2 ∷ 2 ∷ 2 ∷ 2 ∷ 2 ∷ 2 ∷ 4 ∷ 4 ∷ 4 ∷ 4 ∷ 2 ∷ 2 ∷ []

abbrev pub stage_widths : List ℕ
stage_widths = 1 ∷ 1 ∷ []

abbrev pub number_section : Form
number_section = (2 ∷ []) ∷ []

-- a form whose unit goes on with these widths, whose price has this one, and with what follows the hours: unit,
-- start-up trajectory, shut-down trajectory, hours (price and order)
abbrev pub form_with : List ℕ → ℕ → Form → Form
form_with stages price more = (unit_widths ++ stages) ∷ (2 ∷ []) ∷ (2 ∷ []) ∷ (price ∷ 1 ∷ []) ∷ more

-- the forms by their numbers: the old one, which does not hold its number, form 2, and the newest
abbrev pub old_form : ℕ × Form
old_form = (1, form_with [] 2 [])

abbrev pub form2 : ℕ × Form
form2 = (2, form_with [] 4 number_section)

abbrev pub newest : ℕ × Form
newest = (3, form_with stage_widths 4 number_section)

-- the forms that hold their number
abbrev pub numbered : List (ℕ × Form)
numbered = newest ∷ form2 ∷ []

-- entries of each section, at the most; there is at least one
abbrev pub most_entries : List ℕ
most_entries = 1 ∷ most_stages ∷ most_stages ∷ most_hours ∷ 1 ∷ []

-- the form of a number; one that no form has is measured by the newest
unfoldable pub form_numbered : List (ℕ × Form) → ℕ → Form
form_numbered [] n = newest.1
form_numbered (f ∷ fs) n = cond (eqb n f.0) f.1 (form_numbered fs n)

-- no form has this number
unfoldable pub unknown : List (ℕ × Form) → ℕ → Bool
unknown [] n = true
unknown (f ∷ fs) n = not (eqb n f.0) && unknown fs n

-- the bytes of an entry
abbrev pub width : List ℕ → ℕ
width [] = 0
width (w ∷ ws) = w + width ws

-- the bytes of an entry of section i, and of all pairs
abbrev pub entry_length : Form → ℕ → ℕ
entry_length f i = width (get_or f i [])

abbrev pub pairs_length : Form → ℕ
pairs_length f = 4 * length f
