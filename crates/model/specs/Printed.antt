-- What the program prints for the bytes of an input, in ASCII (document 01, "A program reads a case from standard
-- input"), and what `print` answers and leaves in lent memory. Definitions only. Assumes nothing.
use Rattle.std.specs.Prelude.{cond, List, [], ◌∷◌, ◌++◌, ℕ, zero, suc, ◌+◌, ◌/◌, ◌%◌, ltb, ℤ, pos, negsuc, nat_abs}
use Rattle.std.specs.Prelude.{length, drop, Ok, Err}
use Rattle.std.proofs.Math.Option.{Option, none, some}
use Prim.Native.Char.{code}
use Prim.Native.String.{String, len, char_at}
use Rattle.cases.specs.declared.Case.{Case}
use Rattle.cases.specs.Limits.{most_input, most_hours, short_work}
use Rattle.cases.specs.Symbols.{last}
use Rattle.day.specs.Marks.{p}
use Rattle.day.specs.Profit.{energy, profit_of}
use Rattle.model.specs.Best.{best_day}
use Rattle.cases.specs.Layout.{listed}
use Rattle.cases.specs.Refusals.{refusal10}
use Rattle.cases.specs.Reads.{Writing, read_of}
use Rattle.cases.specs.Reads.{Outcome, Refused}

-- the bytes of a text of ASCII characters
abbrev pub ascii : String → List ℕ
ascii text = listed (λ i. code (char_at text i)) (len text)

-- the byte of a digit, 0 to 9
abbrev pub glyph : ℕ → ℕ
glyph d = code (char_at "0" 0) + d

-- the decimal digits of n, the most significant first and no leading zero, where `width` of them are enough
unfoldable pub digits : ℕ → ℕ → List ℕ
digits zero n = []
digits (suc width) n =
    let more = digits width (n / 10) ++ (glyph (n % 10) ∷ []) in
    cond (ltb n 10) (glyph n ∷ []) more

-- the decimal digits of n; n + 1 of them are always enough
unfoldable pub decimal : ℕ → List ℕ
decimal n = digits (suc n) n

-- a number, and the text after it
unfoldable pub field : ℕ → String → List ℕ
field n after = decimal n ++ ascii after

-- the sign of a number: nothing, or "-" below 0
unfoldable pub sign : ℤ → List ℕ
sign (pos n) = []
sign (negsuc n) = ascii "-"

-- "profit" and half-mills
unfoldable pub profit_line : ℤ → List ℕ
profit_line v = ascii "profit " ++ (sign v ++ field (nat_abs v) "\n")

-- "refused" and a number
unfoldable pub refused_line : ℕ → List ℕ
refused_line n = ascii "refused " ++ field n "\n"

-- an hour, its output in MW and its half-megawatt-hours
unfoldable pub hour_line : ℕ → ℕ → ℕ → List ℕ
hour_line k output halves = field k " " ++ (field output " " ++ field halves "\n")

-- the hours 1 to n of a list
unfoldable pub hour_lines : Case → List ℕ → ℕ → List ℕ
hour_lines c l zero = []
hour_lines c l (suc n) = hour_lines c l n ++ hour_line (suc n) (p c l (suc n)) (energy c l (suc n))

-- the day of a list that was found; with none, 11
unfoldable pub day_text : Case → Option (List ℕ) → List ℕ
day_text c none = refused_line 11
day_text c (some l) = profit_line (profit_of c l) ++ hour_lines c l (last c)

-- the best day of a case that was read, or its refusal; the numbers that are lent are those of short minimum times
-- (request F-6)
unfoldable pub read_text : Outcome → Case → List ℕ
read_text (Ok tt) c = let day = day_text c (best_day c) in cond (refusal10 c short_work most_hours) (refused_line 10) day
read_text (Err n) c = refused_line n.0

-- what the program prints for an input: 1 where it is longer than a case may be, whatever its bytes
unfoldable pub printed_of : List ℕ → List ℕ
printed_of input =
    let text = read_text (read_of input).outcome (read_of input).case in
    cond (ltb most_input (length input)) (refused_line 1) text

-- `print`: 10 where fewer bytes are lent than the text has; else the text comes first, and the bytes past it stay
unfoldable pub printing_of : List ℕ → List ℕ → Writing
printing_of input lent =
    let text = printed_of input in
    let done : Writing = record { answer = Ok (length text); lent = text ++ drop (length text) lent } in
    cond (ltb (length lent) (length text)) (record { answer = Refused 10; lent = lent }) done
