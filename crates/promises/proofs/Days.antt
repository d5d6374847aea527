-- The known days, and the file and the text of case 7, by computation. Assumes nothing.
use mathlib.Core.Path.{◌≡◌, refl}
use mathlib.Core.List.{[], ◌∷◌, map}
use Rattle.cases.specs.Symbols.{sum, every, stage, hourly, priced}
use Rattle.day.specs.Marks.{p, v, y, y_back, starting, closes, z}
use Rattle.day.specs.Constraints.{stopping, start_output, stop_output, stops_within, rule1, rule2}
use Rattle.day.specs.Constraints.{rule3, rule4, rule5, rule6, rule7, rule8, rule9, rule10, rule11, rule12}
use Rattle.day.specs.Rules.{hours_since, rule21, rule22, rule23, day_rules, rules_at, broken_of, broken_at}
use Rattle.day.specs.Rules.{breach_from, breach, keeps}
use Rattle.day.specs.Profit.{energy, charge, profit_at, profit_to, profit_of}
use Rattle.model.specs.Best.{lower, leads, preceded, lists_of, foremost, best_among, best_of, best_by, best_day}
use Rattle.cases.specs.Forms.{old_form, form_numbered, unknown}
use Rattle.cases.specs.Layout.{number, number_at, offset_at, length_at, end_at, listed, joined, bytes, padded, signed}
use Rattle.cases.specs.Layout.{unsigned, zeroed, field_bytes, section_bytes, section_length, section_from, pair_bytes}
use Rattle.cases.specs.Layout.{file_of, bytes_of, section_at, field_at, form_number_at, form_of, entries_at, entry_at}
use Rattle.cases.specs.Layout.{case_in, case_of, blank}
use Rattle.cases.specs.Refusals.{fits, refusal1, refusal2_file, refusal12, refusal2, refusal3, refusal4, refusal5}
use Rattle.cases.specs.Refusals.{climbs, descends, refusal6, opens_free, opens_up, opens_down, refusal7, refusal8}
use Rattle.cases.specs.Refusals.{refusal13, refusal9, work_length, refusal10, first_of, tests, file_tests, refusal_of}
use Rattle.cases.specs.Reads.{reading_of, read_of}
use Rattle.model.specs.Answers.{judged, checked_of, check_of, cleared, planned, scheduled_of}
use Rattle.model.specs.Answers.{schedule_of}
use Rattle.model.specs.Printed.{ascii, digits, decimal, field, sign, profit_line, hour_line, hour_lines}
use Rattle.model.specs.Printed.{day_text, read_text, printed_of}
use Rattle.cases.specs.Published.{word}
use Rattle.promises.specs.Days.{of_verdict, of_plan, of_scheduling, outputs, mills, day_of, case7, best}
use Rattle.promises.specs.Days.{check, answer, known_days, Answered}

-- every definition that a known day computes with
unfoldable computed : Unit {0}
unfolding sum every stage hourly priced p v y y_back starting closes z stopping start_output stop_output stops_within rule1
    rule2 rule3 rule4 rule5 rule6 rule7 rule8 rule9 rule10 rule11 rule12 hours_since rule21 rule22 rule23 day_rules
    rules_at broken_of broken_at breach_from breach keeps energy charge profit_at profit_to profit_of lower leads preceded
    lists_of foremost best_among best_of best_by best_day form_numbered unknown number number_at offset_at length_at end_at
    listed joined
    bytes padded signed unsigned zeroed field_bytes section_bytes section_length section_from pair_bytes file_of section_at
    field_at form_number_at form_of entries_at entry_at case_in case_of blank fits refusal1 refusal2_file refusal12 refusal2
    refusal3 refusal4 refusal5 climbs descends refusal6 opens_free opens_up opens_down refusal7 refusal8 refusal13 refusal9
    work_length refusal10 first_of tests file_tests refusal_of reading_of read_of judged checked_of check_of cleared planned
    scheduled_of schedule_of of_verdict of_plan of_scheduling outputs mills day_of case7 best check answer known_days digits
    decimal field sign profit_line hour_line hour_lines day_text read_text printed_of
computed = tt

pub known_days_answered : Answered known_days
unfolding computed
known_days_answered = refl

pub case7_old : map (word (file_of case7 old_form)) (0 ∷ 2 ∷ 4 ∷ 6 ∷ 8 ∷ 10 ∷ 12 ∷ 14 ∷ [])
    ≡ 16 ∷ 32 ∷ 48 ∷ 4 ∷ 52 ∷ 4 ∷ 56 ∷ 9 ∷ []
unfolding computed
case7_old = refl

pub case7_pairs : map (word (bytes_of case7)) (0 ∷ 2 ∷ 4 ∷ 6 ∷ 8 ∷ 10 ∷ 12 ∷ 14 ∷ 16 ∷ 18 ∷ 77 ∷ [])
    ≡ 20 ∷ 34 ∷ 54 ∷ 4 ∷ 58 ∷ 4 ∷ 62 ∷ 15 ∷ 77 ∷ 2 ∷ 3 ∷ []
unfolding computed
case7_pairs = refl

pub case7_text : printed_of (file_of case7 old_form) ≡ ascii "profit -53\n1 2 5\n2 1 3\n3 0 1\n"
unfolding computed
case7_text = refl
