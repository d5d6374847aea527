-- A 64-bit float by its pattern, as IEEE 754 lays binary64 out: a sign, a field of 11 digits for the exponent, and the
-- digits of the fraction. Its value, and the nearest whole number to it. Definitions only. Assumes nothing.
use Rattle.std.specs.Prelude.{ℕ, zero, suc, ◌+◌, ◌*◌, ◌/◌, ◌%◌, ◌^◌}
use Rattle.std.specs.Float.Ieee.Nearest.{closest}

-- binary digits: of a fraction, of a value with its leading digit, and of a pattern without its sign
abbrev pub fraction_digits : ℕ
fraction_digits = 52

abbrev pub value_digits : ℕ
value_digits = 53

abbrev pub sign_place : ℕ
sign_place = 63

-- values are counted in units of 2 ^ -scale, the least value above 0
abbrev pub scale : ℕ
scale = 1074

-- the field that infinities have, and what is not a number
abbrev pub no_number : ℕ
no_number = 2047

-- the exponent's field of a pattern
abbrev pub field_of : ℕ → ℕ
field_of b = b % 2 ^ sign_place / 2 ^ fraction_digits

-- the digits of a pattern's fraction
abbrev pub fraction_of : ℕ → ℕ
fraction_of b = b % 2 ^ fraction_digits

-- the digits of a number with the field x and the fraction t, moved up by the field; a field of 0 has no leading digit
-- and counts as a field of 1
abbrev pub scaled : ℕ → ℕ → ℕ
scaled zero t = t
scaled (suc j) t = (2 ^ fraction_digits + t) * 2 ^ j

-- the size of a finite pattern's value, exact, in units
unfoldable pub units_of : ℕ → ℕ
units_of b = scaled (field_of b) (fraction_of b)

-- the whole number nearest to that value, a tie to the even one
unfoldable pub whole_of : ℕ → ℕ
unfolding units_of
whole_of b = closest (units_of b) (2 ^ scale)
