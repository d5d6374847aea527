-- How many numbers the search holds in one place. Definitions only. Assumes nothing.
use Rattle.std.specs.Prelude.{ℕ, ◌+◌, ◌*◌}
use Rattle.cases.specs.Limits.{most_stages, most_hours, most_output, most_time}

-- a row: one for each output
abbrev pub row_length : ℕ
row_length = most_output

-- a side: the hours off-line from place 0 on, the start sequence, and the stop sequence
abbrev pub rises_at : ℕ
rises_at = most_time + 1

abbrev pub falls_at : ℕ
falls_at = rises_at + most_stages

abbrev pub side_length : ℕ
side_length = falls_at + most_stages

-- the entries of a day, and its end
abbrev pub entries_length : ℕ
entries_length = most_hours + 1

-- what is kept while the plan goes forward: places, of which each has room for a row and its side
abbrev pub place_length : ℕ
place_length = row_length + side_length

abbrev pub most_places : ℕ
most_places = 11

abbrev pub kept_length : ℕ
kept_length = most_places * place_length
