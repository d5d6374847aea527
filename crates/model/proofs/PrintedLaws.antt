-- The bytes of each line, how many there are, and the text by what the search answers. Assumes nothing.
use mathlib.Core.Path.{◌≡◌, refl, sym, ap, ◌∙◌}
use mathlib.Core.Bool.{true, false, true≢false}
use mathlib.Core.Logic.{⊎_elim}
use mathlib.Core.List.{List, [], ◌∷◌, ◌++◌}
use mathlib.Core.Option.{Option, none, some}
use Prim.Native.Nat.{ℕ, zero, suc, ◌+◌, ◌*◌, ◌^◌, ◌≤◌, ◌<◌}
use native.Mathlib.Nat.{eq-or-lt_of_le}
use native.Mathlib.Decide.{dec_lt}
use native.Mathlib.Omega.{arith}
use native.Mathlib.Numerals.{add-one}
use borrow.Author.Tests.{lt-ltb, le-ltb, ltb-true}
use lib.IntN.{ℤ, pos, negsuc, nat_abs}
use lib.ListN.{length, get_or, drop, length-append, get_or-append}
use lib.Seq.{sets, take_at, drop_at}
use lib.Signed.{lt_z}
use Rattle.cases.specs.declared.Case.{Case}
use Rattle.quantities.specs.declared.HalfMills.{HalfMills}
use Rattle.cases.specs.Limits.{most_hours, most_input, short_work}
use Rattle.quantities.specs.Widths.{words}
use Rattle.cases.specs.Symbols.{last, p0}
use Rattle.day.specs.Marks.{p}
use Rattle.day.specs.Profit.{energy, profit_of}
use Rattle.model.specs.Best.{best_day}
use Rattle.cases.specs.Layout.{listed}
use Rattle.cases.specs.Refusals.{work_length, refusal10, refusal_of}
use Rattle.model.specs.Answers.{planned, schedule_of}
use Rattle.cases.specs.Reads.{read_of}
use Rattle.model.specs.Printed.{ascii, digits, decimal, field, sign, profit_line, refused_line, hour_line}
use Rattle.model.specs.Printed.{hour_lines, day_text, read_text, printed_of, printing_of}
use Rattle.model.specs.Promises.{WritesText}
use Rattle.cases.specs.Promises.{WritesNone}
use Rattle.model.proofs.DecimalLaws.{length_decimal}
use Rattle.day.proofs.KeepsLaws.{kept_length}
use Rattle.cases.proofs.LimitsLaws.{Limits, limits_of_refusal_of}
use Rattle.cases.proofs.SetsLaws.{sets_front}
use Rattle.model.proofs.BestLaws.{best_of_best_day}
use Rattle.cases.proofs.AcceptedLaws.{read_limits}
use Rattle.model.proofs.ScheduleLaws.{schedule_of_work, schedule_of_planned}
use Rattle.cases.specs.Reads.{Accepted, Outcome, Refused}
use Rattle.std.specs.Prelude.{Result, Ok, Err}
use Rattle.quantities.specs.declared.Refusal.{Refusal}

-- "refused " and "profit "
abbrev pub refused_word : List ℕ
refused_word = 114 ∷ 101 ∷ 102 ∷ 117 ∷ 115 ∷ 101 ∷ 100 ∷ 32 ∷ []

abbrev pub profit_word : List ℕ
profit_word = 112 ∷ 114 ∷ 111 ∷ 102 ∷ 105 ∷ 116 ∷ 32 ∷ []

-- each line, byte by byte
pub refused_line_is : (n : ℕ) → refused_line n ≡ refused_word ++ (decimal n ++ (10 ∷ []))
unfolding refused_line field listed
refused_line_is n = refl

pub sign_below : (v : ℤ) → lt_z v (pos 0) ≡ true → sign v ≡ 45 ∷ []
unfolding sign listed
sign_below (pos n) e = absurd (omega (arith, ltb-true n 0 e))
sign_below (negsuc n) e = refl

pub sign_above : (v : ℤ) → lt_z v (pos 0) ≡ false → sign v ≡ []
unfolding sign listed
sign_above (pos n) e = refl
sign_above (negsuc n) e = absurd (true≢false e)

pub profit_line_is : (v : ℤ) (m : ℕ) → m ≡ nat_abs v
    → profit_line v ≡ profit_word ++ (sign v ++ (decimal m ++ (10 ∷ [])))
unfolding profit_line field listed
profit_line_is v m e = rw e

pub hour_line_is : (k output halves : ℕ)
    → hour_line k output halves
    ≡ (decimal k ++ (32 ∷ [])) ++ ((decimal output ++ (32 ∷ [])) ++ (decimal halves ++ (10 ∷ [])))
unfolding hour_line field listed
hour_line_is k output halves = refl

-- how long each line is at the most: a profit has up to 19 digits, an hour 2, an output 5, half-megawatt-hours 6
abbrev pub profit_line_most : ℕ
profit_line_most = 28

abbrev pub hour_line_most : ℕ
hour_line_most = 3 + 1 + (5 + 1) + (6 + 1)

pub length_refused_line : (n : ℕ) → n < 1000 → length (refused_line n) ≤ 12
length_refused_line n h =
    rw (refused_line_is n) (simp length-append (omega (arith, length_decimal 2 n (omega arith))))

length_sign : (v : ℤ) → length (sign v) ≤ 1
unfolding sign listed
length_sign (pos n) = omega arith
length_sign (negsuc n) = omega arith

pub length_profit_line : (v : ℤ) → nat_abs v < 10 ^ 19 → length (profit_line v) ≤ profit_line_most
length_profit_line v h =
    rw (profit_line_is v (nat_abs v) refl)
    (simp length-append (omega (arith, length_sign v, length_decimal 18 (nat_abs v) h)))

pub length_hour_line : (k output halves : ℕ) → k < 10 ^ 3 → output < 10 ^ 5 → halves < 10 ^ 6
    → length (hour_line k output halves) ≤ hour_line_most
length_hour_line k output halves hk ho hh =
    rw (hour_line_is k output halves)
    (simp length-append
    (omega (
      arith,
      length_decimal 2 k (omega arith),
      length_decimal 4 output (omega arith),
      length_decimal 5 halves (omega arith),
    )))

module _ (c : Case) (l : List ℕ) where
  pub hour_lines_none : hour_lines c l 0 ≡ []
  unfolding hour_lines
  hour_lines_none = refl

  pub hour_lines_more : (i : ℕ) {before : ℕ} → before ≡ p c l i
      → hour_lines c l (i + 1) ≡ hour_lines c l i ++ hour_line (i + 1) (get_or l i 0) (get_or l i 0 + before)
  unfolding hour_lines energy p
  hour_lines_more i e = rw (add-one, e)

  -- fewer hours have no more bytes
  pub length_hour_lines_le : (i n : ℕ) → i ≤ n → length (hour_lines c l i) ≤ length (hour_lines c l n)
  unfolding hour_lines
  length_hour_lines_le i zero h =
      let e : i ≡ 0 = omega arith in
      omega (arith, ap (λ k. length (hour_lines c l k)) e)
  length_hour_lines_le i (suc n) h =
      let line = hour_line (suc n) (p c l (suc n)) (energy c l (suc n)) in
      ⊎_elim
      (λ e. omega (arith, ap (λ k. length (hour_lines c l k)) e))
      (λ g. omega (arith, length-append (hour_lines c l n) line, length_hour_lines_le i n (omega arith)))
      (eq-or-lt_of_le h)

  -- 16-bit outputs
  module _ (opening : p0 c < words) (outputs : (i : ℕ) → get_or l i 0 < words) where
    p_lt : (k : ℕ) → p c l k < words
    unfolding p
    p_lt zero = opening
    p_lt (suc k) = outputs k

    pub length_hour_lines : (n : ℕ) → n < 10 ^ 3 → length (hour_lines c l n) ≤ hour_line_most * n
    unfolding hour_lines energy
    length_hour_lines zero h = omega arith
    length_hour_lines (suc n) h =
        let now = p c l (suc n) in
        let halves = p c l (suc n) + p c l n in
        let a = p_lt (suc n) in
        let b = p_lt n in
        omega (
          arith,
          length-append (hour_lines c l n) (hour_line (suc n) now halves),
          length_hour_lines n (omega arith),
          length_hour_line (suc n) now halves h (omega arith) (omega arith),
        )

  -- what follows the hours of a list is not looked at
  p_append : (m : List ℕ) (k : ℕ) → k ≤ length l → p c (l ++ m) k ≡ p c l k
  unfolding p
  p_append m zero h = refl
  p_append m (suc k) h = get_or-append l m 0 k h

  hour_lines_append : (m : List ℕ) (n : ℕ) → n ≤ length l → hour_lines c (l ++ m) n ≡ hour_lines c l n
  unfolding hour_lines energy
  hour_lines_append m zero h = refl
  hour_lines_append m (suc n) h =
      let less : n ≤ length l = omega arith in
      rw (hour_lines_append m n less, p_append m (suc n) h, p_append m n less)

-- an input that is longer than a case may be, and one that is not
module _ (input : List ℕ) where
  pub printed_of_long : most_input < length input → printed_of input ≡ refused_line 1
  unfolding printed_of
  printed_of_long h = rw (lt-ltb most_input (length input) h)

  pub printed_of_read : length input ≤ most_input
      → printed_of input ≡ read_text (read_of input).outcome (read_of input).case
  unfolding printed_of
  printed_of_read h = rw (le-ltb most_input (length input) h)

-- ---- the promises of the text
pub printed_long : (input : List ℕ) → most_input < length input → printed_of input ≡ ascii "refused 1\n"
unfolding refused_line field decimal digits listed
printed_long input h = printed_of_long input h

pub printed_refused : (input : List ℕ) (n : ℕ) → length input ≤ most_input → (read_of input).outcome ≡ Refused n
    → printed_of input ≡ ascii "refused " ++ (decimal n ++ ascii "\n")
unfolding read_text refused_line field
printed_refused input n h e = printed_of_read input h ∙ ap (λ o. read_text o (read_of input).case) e

-- the text of a case that was read, by the numbers that its search works in
module _ (c : Case) (few : last c ≤ most_hours) where
  read_text_longer : short_work < work_length c → read_text Accepted c ≡ refused_line 10
  unfolding read_text refusal10
  read_text_longer h = rw (lt-ltb short_work (work_length c) h)

  read_text_day : work_length c ≤ short_work → read_text Accepted c ≡ day_text c (best_day c)
  unfolding read_text refusal10
  read_text_day h = rw (le-ltb short_work (work_length c) h, le-ltb most_hours (last c) few)

pub printed_longer : (input : List ℕ) → length input ≤ most_input → (read_of input).outcome ≡ Accepted
    → short_work < work_length (read_of input).case → printed_of input ≡ ascii "refused 10\n"
unfolding refused_line field decimal digits listed
printed_longer input h e w =
    let c = (read_of input).case in
    printed_of_read input h
    ∙ ap (λ o. read_text o c) e
    ∙ read_text_longer c (limits_of_refusal_of c (read_limits input e)).hours_le w

-- what `print` answers and leaves
module _ (input lent : List ℕ) where
  abbrev text : List ℕ
  text = printed_of input

  pub printed : length text ≤ length lent → WritesText text lent (printing_of input lent)
  unfolding printing_of
  printed h =
      rw (le-ltb (length lent) (length text) h)
      (record {
        numbers = refl;
        front = take_at text (drop (length text) lent) (length text) refl;
        beyond = drop_at text (drop (length text) lent) (length text) refl;
      })

  pub unprinted : length lent < length text → WritesNone 10 lent (printing_of input lent)
  unfolding printing_of
  unprinted h =
      rw (lt-ltb (length lent) (length text) h) (record { numbers = refl; untouched = refl })

  pub printing_of_short : length lent < length (printed_of input)
      → record { answer = Refused 10; lent = lent } ≡ printing_of input lent
  unfolding printing_of
  printing_of_short h = rw (lt-ltb (length lent) (length (printed_of input)) h)

  pub printing_of_done : length (printed_of input) ≤ length lent
      → record { answer = Ok (length (printed_of input)); lent = sets lent 0 (printed_of input) }
      ≡ printing_of input lent
  unfolding printing_of
  printing_of_done h =
      rw (le-ltb (length lent) (length (printed_of input)) h, sets_front (printed_of input) lent h)

-- the text of a plan for a case, with the outputs as the search leaves them
unfoldable pub plan_text : Case → List ℕ → Result HalfMills Refusal → List ℕ
plan_text c outputs (Ok m) = profit_line m.0 ++ hour_lines c outputs (last c)
plan_text c outputs (Err n) = refused_line n.0

-- it is the text of the file, where as many numbers are lent as short minimum times ask for
module _ (file : List ℕ) (work : List ℤ) (outputs : List ℕ) (long : length work ≡ short_work)
    (room : most_hours ≤ length outputs) where
  abbrev c : Case
  c = (read_of file).case

  hours_room : refusal_of c ≡ 0 → last c ≤ length outputs
  hours_room e = omega (arith, (limits_of_refusal_of c e).hours_le)

  planned_text : refusal_of c ≡ 0 → (b : Option (List ℕ)) → best_day c ≡ b
      → day_text c b ≡ plan_text c (planned c (profit_of c) work outputs b).outputs
      (planned c (profit_of c) work outputs b).answer
  unfolding day_text plan_text planned
  planned_text e none d = refl
  planned_text e (some l) d =
      let n = kept_length c l (best_of_best_day c e d).kept in
      let rest = drop (length l) outputs in
      ap (λ t. profit_line (profit_of c l) ++ t) (sym (hour_lines_append c l rest (last c) (omega arith)))

  pub read_text_plan : (o : Outcome) → (read_of file).outcome ≡ o
      → read_text o c ≡ plan_text c (schedule_of o c work outputs).outputs (schedule_of o c work outputs).answer
  unfolding read_text plan_text schedule_of
  read_text_plan (Err n) e = refl
  read_text_plan (Ok tt) e =
      let z = read_limits file e in
      let few = (limits_of_refusal_of c z).hours_le in
      go z few (dec_lt short_work (work_length c))
    where
      go : refusal_of c ≡ 0 → last c ≤ most_hours → Dec (short_work < work_length c)
          → read_text Accepted c
          ≡ plan_text c (schedule_of Accepted c work outputs).outputs (schedule_of Accepted c work outputs).answer
      go z few (yes h) =
          read_text_longer c few h
          ∙ ap (λ s. plan_text c s.outputs s.answer) (sym (schedule_of_work c work outputs z (omega arith)))
      go z few (no h) =
          read_text_day c few (omega arith)
          ∙ planned_text z (best_day c) refl
          ∙ ap (λ s. plan_text c s.outputs s.answer)
          (sym (schedule_of_planned c work outputs z (omega arith) (hours_room z)))

  -- a list is found only for a case within the limits
  pub found_limits : (o : Outcome) → (read_of file).outcome ≡ o → {m : HalfMills}
      → (schedule_of o c work outputs).answer ≡ Ok m → Limits c
  unfolding schedule_of
  found_limits (Err n) e f = let u : ◌≡◌ {A = ℕ} 0 1 = cc in absurd (omega arith)
  found_limits (Ok tt) e f = limits_of_refusal_of c (read_limits file e)
