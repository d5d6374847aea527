-- How large the numbers of a search and of a profit can get, each with what it bounds. Definitions only. Assumes
-- nothing.
use Rattle.std.specs.Prelude.{ℕ, ◌+◌, ◌*◌, ◌^◌}
use Rattle.curve.specs.Cost as cost
use Rattle.cases.specs.Limits.{most_hours, most_output, most_variable, most_charge, most_price}
use Rattle.quantities.specs.Widths.{words}

-- megawatts: the outputs at the two ends of an hour together, the first being at most a ramp above the second
abbrev pub most_ends : ℕ
most_ends = 3 * most_output

-- those of a table of costs (request F-7): half-megawatt-hours of an hour, and half-mills of an entry
abbrev pub most_energy : ℕ
most_energy = cost.most_energy

abbrev pub most_cost : ℕ
most_cost = cost.most_cost

-- half-mills: what a half-megawatt-hour earns or loses; what an on-line hour, a start or a stop costs
abbrev pub most_margin : ℕ
most_margin = most_price + most_variable

abbrev pub most_fee : ℕ
most_fee = 2 * most_charge

-- half-mills: what an hour earns or loses; what the hours of a day do
abbrev pub most_earned : ℕ
most_earned = most_margin * most_ends + 3 * most_cost + most_fee

abbrev pub most_worth : ℕ
most_worth = most_hours * most_earned

-- half-mills: a line, which begins with what an hour earns and grows by a margin from output to output; an amount on it
-- less an entry of a table; that with what the hours of a day earn
abbrev pub most_line : ℕ
most_line = most_earned + most_margin * most_output

abbrev pub most_loaded : ℕ
most_loaded = most_line + most_cost

abbrev pub most_offer : ℕ
most_offer = most_loaded + most_worth

-- the size of the number that stands for no amount; and a size between the two: whatever a line adds, an amount stays
-- smaller, and that number larger
abbrev pub missing_size : ℕ
missing_size = 2 ^ 62

abbrev pub threshold_size : ℕ
threshold_size = 2 ^ 61

-- signed 64-bit numbers that are smaller than this fit, with either sign
abbrev pub signed_limit : ℕ
signed_limit = 2 ^ 63

-- half-mills, for a list of any 16-bit outputs: what an hour earns or loses, and what a day does
abbrev pub most_hour_profit : ℕ
most_hour_profit = most_margin * (2 * words) + 3 * most_fee

abbrev pub most_profit : ℕ
most_profit = most_hours * most_hour_profit

-- half-mills: a size that no such day comes to
abbrev pub profit_size : ℕ
profit_size = 2 ^ 50
