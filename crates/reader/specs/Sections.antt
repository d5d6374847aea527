-- What a section of a case file holds, by itself, and the case of the sections. Definitions only. Assumes nothing.
use Rattle.std.specs.Prelude.{List, [], ℕ, ◌*◌, ◌/◌, length, get_or}
use Rattle.cases.specs.declared.Case.{Case}
use Rattle.quantities.specs.declared.Output.{Output}
use Rattle.quantities.specs.declared.Mills.{Mills}
use Rattle.cases.specs.Limits.{most_stages, most_hours}
use Rattle.cases.specs.Forms.{Form as Table, entry_length}
use Rattle.cases.specs.Layout.{number_at, field_at, padded, signed, no_output, no_mills}
use Rattle.reader.specs.declared.sections.Trajectory.{Trajectory}
use Rattle.reader.specs.declared.sections.Day.{Day}

-- entry i of a trajectory; the price and the order byte of entry i of the hours, i from 0
abbrev pub stage_at : List ℕ → ℕ → Output
stage_at part i = record { 0 = number_at part (2 * i) 2 }

abbrev pub price_at : Table → List ℕ → ℕ → Mills
price_at f part i = record { 0 = signed (field_at (get_or f 3 []) part (entry_length f 3 * i) 0) }

abbrev pub order_at : Table → List ℕ → ℕ → ℕ
order_at f part i = field_at (get_or f 3 []) part (entry_length f 3 * i) 1

-- a trajectory: its outputs, and how many count
unfoldable pub trajectory_of : List ℕ → Trajectory
trajectory_of part =
    record {
      outputs = padded no_output (stage_at part) (length part / 2) most_stages;
      count = length part / 2;
    }

-- the hours in a form: their prices, their order bytes, and how many count
unfoldable pub day_of : Table → List ℕ → Day
day_of f part =
    record {
      prices = padded no_mills (price_at f part) (length part / entry_length f 3) most_hours;
      orders = padded 0 (order_at f part) (length part / entry_length f 3) most_hours;
      count = length part / entry_length f 3;
    }

-- the unit, with two trajectories and a day; a stage that the unit lacks is 0
unfoldable pub assembled : List ℕ → Trajectory → Trajectory → Day → Case
assembled unit rise fall day =
    record {
      capacity = record { 0 = number_at unit 0 2 };
      minimum = record { 0 = number_at unit 2 2 };
      rampup = record { 0 = number_at unit 4 2 };
      rampdown = record { 0 = number_at unit 6 2 };
      minup = record { 0 = number_at unit 8 2 };
      mindown = record { 0 = number_at unit 10 2 };
      variable = record { 0 = signed (number_at unit 12 4) };
      fixed = record { 0 = signed (number_at unit 16 4) };
      startcost = record { 0 = signed (number_at unit 20 4) };
      stopcost = record { 0 = signed (number_at unit 24 4) };
      initial = record { 0 = number_at unit 28 2 };
      elapsed = record { 0 = number_at unit 30 2 };
      upstage = get_or unit 32 0;
      downstage = get_or unit 33 0;
      rise = rise.outputs;
      fall = fall.outputs;
      prices = day.prices;
      orders = day.orders;
      rises = rise.count;
      falls = fall.count;
      hours = day.count;
    }
