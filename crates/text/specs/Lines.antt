-- How long a text can get. Definitions only. Assumes nothing.
use Rattle.std.specs.Prelude.{ℕ, ◌+◌, ◌*◌}
use Rattle.cases.specs.Limits.{most_hours}

-- bytes of the profit's line, and of an hour's, at the most
abbrev pub profit_length : ℕ
profit_length = 28

abbrev pub hour_length : ℕ
hour_length = 17

-- bytes of a text, at the most: the profit's line, and a line for each hour
abbrev pub longest : ℕ
longest = profit_length + hour_length * most_hours
