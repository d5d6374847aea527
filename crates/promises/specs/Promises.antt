-- Every promise: those of the case, of the day and of the answers, and what follows from the definitions together: the
-- next day, other prices, the known days. Definitions only. Assumes nothing.
use Rattle.std.specs.Prelude.{◌≡◌, ◌↔◌, List, [], ◌∷◌, ◌++◌, map, ℕ, ◌+◌, ◌≤◌, ◌<◌, T, ℤ, ◌+ℤ◌, length, get_or}
use Rattle.curve.specs.declared.Kind.{Kind}
use Rattle.curve.specs.Cost.{record_of, accepted}
use Rattle.cases.specs.declared.Case.{Case}
use Rattle.quantities.specs.declared.Mills.{Mills}
use Rattle.day.specs.Rules.{keeps}
use Rattle.day.specs.Profit.{profit_of}
use Rattle.cases.specs.Forms.{old_form}
use Rattle.cases.specs.Layout.{file_of, bytes_of}
use Rattle.cases.specs.Refusals.{work_length, refusal_of}
use Rattle.model.specs.Answers.{check_of, schedule_of}
use Rattle.model.specs.Calendar.{calendar_of}
use Rattle.model.specs.Curves.{check_by_curve_of, schedule_by_curve_of}
use Rattle.promises.specs.Next.{another_day, next_day, both_days}
use Rattle.model.specs.Printed.{ascii, printed_of}
use Rattle.cases.specs.Published.{FirstRefused, word}
use Rattle.model.specs.Windows.{CalendarLimited, calendar_order, GivesOrder}
use Rattle.promises.specs.Forecast.{with_prices, ordered, Row, Forecasts}
use Rattle.promises.specs.Days.{case7, known_days, Answered}
use Rattle.cases.specs.Promises.{Promises as CasesPromises}
use Rattle.day.specs.Promises.{Promises as DayPromises}
use Rattle.model.specs.Promises.{Promises as ModelPromises}
use Rattle.cases.specs.Reads.{Accepted}

pub record Promises : Type 0 where
  -- ---- those of each crate below
  pub cases : CasesPromises
  pub day : DayPromises
  pub model : ModelPromises
  -- the pairs of case 7 in the old form, as document 01 gives them, and in form 3
  pub case7_old : map (word (file_of case7 old_form)) (0 ∷ 2 ∷ 4 ∷ 6 ∷ 8 ∷ 10 ∷ 12 ∷ 14 ∷ [])
      ≡ 16 ∷ 32 ∷ 48 ∷ 4 ∷ 52 ∷ 4 ∷ 56 ∷ 9 ∷ []
  pub case7_pairs : map (word (bytes_of case7)) (0 ∷ 2 ∷ 4 ∷ 6 ∷ 8 ∷ 10 ∷ 12 ∷ 14 ∷ 16 ∷ 18 ∷ 77 ∷ [])
      ≡ 20 ∷ 34 ∷ 54 ∷ 4 ∷ 58 ∷ 4 ∷ 62 ∷ 15 ∷ 77 ∷ 2 ∷ 3 ∷ []
  -- two days back to back: a list of both keeps their rules exactly if its first part keeps those of the first day and
  -- its second part those of the next, which opens with what the first leaves; that opening is within the limits, and
  -- the profits add up
  pub next_opens : (c : Case) (l : List ℕ) (prices : List Mills) (orders : List ℕ) (n : ℕ) → refusal_of c ≡ 0
      → refusal_of (another_day c prices orders n) ≡ 0 → T (keeps c l) → refusal_of (next_day c l prices orders n) ≡ 0
  pub back_to_back : (c : Case) (l m : List ℕ) (prices : List Mills) (orders : List ℕ) (n : ℕ) → refusal_of c ≡ 0
      → refusal_of (another_day c prices orders n) ≡ 0 → c.hours + n ≤ 168 → length l ≡ c.hours → length m ≡ n
      → T (keeps (both_days c prices orders n) (l ++ m))
      ↔ (T (keeps c l) × T (keeps (next_day c l prices orders n) m))
  pub both_profits : (c : Case) (l m : List ℕ) (prices : List Mills) (orders : List ℕ) (n : ℕ) → length l ≡ c.hours
      → profit_of (both_days c prices orders n) (l ++ m) ≡ profit_of c l +ℤ profit_of (next_day c l prices orders n) m
  -- ---- other prices
  -- what a price forecast can do, of the search and the check; of the search by a calendar, with the check of the
  -- record that has the orders of the day; and of those by a curve. At each row the search has memory of its own, long
  -- enough, whatever it holds
  pub forecast : (c : Case) (work : Row c → List ℤ) (outputs : Row c → List ℕ)
      → ((f : Row c) → work_length c ≤ length (work f)) → ((f : Row c) → c.hours ≤ length (outputs f))
      → Forecasts {c = c} (record {
        search = λ f. schedule_of Accepted (with_prices c f.prices) (work f) (outputs f);
        check = λ f l. check_of Accepted (with_prices c f.prices) l;
      })
  pub calendar_forecast : (c : Case) (on off : List ℕ) (first hours : ℕ) (orders : List ℕ)
      → FirstRefused (CalendarLimited on off first hours) calendar_order 0 → c.hours ≡ hours
      → ((i : ℕ) → i < hours → GivesOrder on off (first + i) (get_or orders i 0))
      → ((f : Row (ordered c orders)) → refusal_of (with_prices c f.prices) ≡ 0)
      → (work : Row (ordered c orders) → List ℤ) (outputs : Row (ordered c orders) → List ℕ)
      → ((f : Row (ordered c orders)) → work_length c ≤ length (work f))
      → ((f : Row (ordered c orders)) → c.hours ≤ length (outputs f))
      → Forecasts {c = ordered c orders} (record {
        search = λ f. calendar_of Accepted (with_prices c f.prices) on off first hours (work f) (outputs f);
        check = λ f l. check_of Accepted (with_prices (ordered c orders) f.prices) l;
      })
  pub curve_forecast : (k : Kind) (c : Case) (table work : Row c → List ℤ) (outputs : Row c → List ℕ)
      → T (accepted (record_of k)) → ((f : Row c) → 801 ≤ length (table f))
      → ((f : Row c) → work_length c ≤ length (work f)) → ((f : Row c) → c.hours ≤ length (outputs f))
      → Forecasts {c = c} (record {
        search = λ f. (schedule_by_curve_of k Accepted (with_prices c f.prices) (table f) (work f) (outputs f)).answer;
        check = λ f l. (check_by_curve_of k Accepted (with_prices c f.prices) l (table f)).answer;
      })
  pub case7_text : printed_of (file_of case7 old_form) ≡ ascii "profit -53\n1 2 5\n2 1 3\n3 0 1\n"
  -- ---- the known days
  pub known_days_answered : Answered known_days
