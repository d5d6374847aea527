-- What the search by calendar answers, refusal by refusal, and the day that it searches. Assumes nothing.
use mathlib.Core.Path.{◌≡◌, refl, sym, ◌∙◌}
use mathlib.Core.Bool.{Bool, cond}
use mathlib.Core.List.{List, []}
use Prim.Native.Nat.{ℕ, ◌+◌, ◌<◌}
use native.Mathlib.Omega.{arith}
use borrow.Author.Tests.{eq-eqb, ne_eqb}
use lib.Dec.{eqb}
use lib.IntN.{ℤ}
use lib.ListN.{get_or}
use Rattle.cases.specs.declared.Case.{Case}
use Rattle.cases.specs.Limits.{most_hours}
use Rattle.cases.specs.Symbols.{last}
use Rattle.cases.specs.Layout.{with_arrays, zeroed}
use Rattle.cases.specs.Refusals.{first_of, refusal_of}
use Rattle.model.specs.Answers.{schedule_of}
use Rattle.model.specs.Calendar.{filled_orders, calendar_tests, day_tests, calendar_of}
use Rattle.cases.specs.Published.{FirstRefused}
use Rattle.model.specs.Promises.{FindsRefused}
use Rattle.model.specs.Windows.{CalendarLimited, calendar_order, GivesOrder}
use Rattle.cases.proofs.RefusalsLaws.{first_of_append}
use Rattle.cases.proofs.LayoutLaws.{padded_same}
use Rattle.model.proofs.ScheduleLaws.{unplanned, schedule_of_refused}
use Rattle.model.proofs.AnswersLaws.{refused_finds, schedule_zeroed}
use Rattle.model.proofs.YearLaws.{clash, filled_given}
use Rattle.quantities.specs.declared.Refusal.{Refusal}
use Rattle.cases.specs.Reads.{Accepted, Outcome, Refused}
use Rattle.std.specs.Prelude.{Err}

-- the orders of the day alone matter to the search
schedule_orders : (c : Case) (work : List ℤ) (outputs os qs : List ℕ)
    → ((i : ℕ) → i < last c → get_or os i 0 ≡ get_or qs i 0)
    → schedule_of Accepted (with_arrays c c.rise c.fall c.prices os) work outputs
    ≡ schedule_of Accepted (with_arrays c c.rise c.fall c.prices qs) work outputs
unfolding zeroed
schedule_orders c work outputs os qs h =
    let with : List ℕ → Case = λ o. with_arrays c c.rise c.fall c.prices o in
    let same = padded_same 0 (λ i. get_or os i 0) (λ i. get_or qs i 0) (last c) most_hours h in
    sym (schedule_zeroed (with os) work outputs) ∙ rw same (schedule_zeroed (with qs) work outputs)

module _ (c : Case) (on off : List ℕ) (first hours : ℕ) (work : List ℤ) (outputs : List ℕ) where
  -- the tests of lists and day, and then further ones
  first_of_calendar : (more : List (ℕ × Bool)) → first_of (calendar_tests on off first hours more)
      ≡ (let n = first_of (calendar_tests on off first hours []) in cond (eqb n 0) (first_of more) n)
  unfolding calendar_tests
  first_of_calendar more = first_of_append (calendar_tests on off first hours []) more tt

  by_number : (o : Outcome) (n : ℕ) → first_of (calendar_tests on off first hours (day_tests hours o c)) ≡ n
      → (n ≡ 0 → ⊥) → calendar_of o c on off first hours work outputs ≡ unplanned n work outputs
  unfolding calendar_of
  by_number o n e h = rw (e, ne_eqb n 0 h)

  -- ---- refusal by refusal
  pub calendar_of_clash : (o : Outcome) {n : ℕ} → first_of (calendar_tests on off first hours []) ≡ n → (n ≡ 0 → ⊥)
      → calendar_of o c on off first hours work outputs ≡ unplanned n work outputs
  calendar_of_clash o {n} e h = by_number o n (first_of_calendar (day_tests hours o c) ∙ rw (e, ne_eqb n 0 h)) h

  module _ (e : first_of (calendar_tests on off first hours []) ≡ 0) where
    next : (o : Outcome)
        → first_of (calendar_tests on off first hours (day_tests hours o c)) ≡ first_of (day_tests hours o c)
    next o = first_of_calendar (day_tests hours o c) ∙ rw e

    searched : (o : Outcome) → first_of (day_tests hours o c) ≡ 0 → calendar_of o c on off first hours work outputs
        ≡ schedule_of o (with_arrays c c.rise c.fall c.prices (filled_orders on off first hours)) work outputs
    unfolding calendar_of
    searched o d = let f = next o ∙ d in rw f

    pub calendar_of_unread : {o : Outcome} {r : Refusal} → o ≡ Err r
        → calendar_of o c on off first hours work outputs ≡ unplanned r.0 work outputs
    unfolding first_of
    calendar_of_unread {o} {r} e =
        rw e (searched (Err r) refl ∙ schedule_of_refused _ work outputs {o = Err r} refl)

    pub calendar_of_other : (last c ≡ hours → ⊥)
        → calendar_of Accepted c on off first hours work outputs ≡ unplanned 2 work outputs
    unfolding first_of
    calendar_of_other h = by_number Accepted 2 (next Accepted ∙ rw (ne_eqb (last c) hours h)) (λ d. omega arith)

    module _ (same : last c ≡ hours) where
      own : first_of (day_tests hours Accepted c) ≡ refusal_of c
      unfolding first_of refusal_of
      own = rw (eq-eqb (last c) hours same)

      pub calendar_of_outside : (refusal_of c ≡ 0 → ⊥)
          → calendar_of Accepted c on off first hours work outputs ≡ unplanned (refusal_of c) work outputs
      calendar_of_outside h = by_number Accepted (refusal_of c) (next Accepted ∙ own) h

      pub calendar_of_day : refusal_of c ≡ 0 → calendar_of Accepted c on off first hours work outputs
          ≡ schedule_of Accepted (with_arrays c c.rise c.fall c.prices (filled_orders on off first hours)) work
          outputs
      calendar_of_day d = searched Accepted (own ∙ d)

-- ---- the same by the published limits of lists and day
module _ (c : Case) (on off : List ℕ) (first hours : ℕ) (work : List ℤ) (outputs : List ℕ) where
  pub refused_calendar : (o : Outcome) (n : ℕ) → FirstRefused (CalendarLimited on off first hours) calendar_order n
      → (n ≡ 0 → ⊥) → FindsRefused n work outputs (calendar_of o c on off first hours work outputs)
  refused_calendar o n f h =
      rw (calendar_of_clash c on off first hours work outputs o (clash on off first hours n f) h)
      (refused_finds c work outputs n)

  module _ (f : FirstRefused (CalendarLimited on off first hours) calendar_order 0) where
    pub unread_calendar : (n : ℕ)
        → FindsRefused n work outputs (calendar_of (Refused n) c on off first hours work outputs)
    unread_calendar n =
        let e = clash on off first hours 0 f in
        rw (calendar_of_unread c on off first hours work outputs e {o = Refused n} refl)
        (refused_finds c work outputs n)

    pub other_day : (last c ≡ hours → ⊥)
        → FindsRefused 2 work outputs (calendar_of Accepted c on off first hours work outputs)
    other_day h =
        rw (calendar_of_other c on off first hours work outputs (clash on off first hours 0 f) h)
        (refused_finds c work outputs 2)

    pub refused_day : last c ≡ hours → (refusal_of c ≡ 0 → ⊥)
        → FindsRefused (refusal_of c) work outputs (calendar_of Accepted c on off first hours work outputs)
    refused_day same h =
        rw (calendar_of_outside c on off first hours work outputs (clash on off first hours 0 f) same h)
        (refused_finds c work outputs (refusal_of c))

    pub filled_day : (orders : List ℕ) → last c ≡ hours → refusal_of c ≡ 0
        → ((i : ℕ) → i < hours → GivesOrder on off (first + i) (get_or orders i 0))
        → calendar_of Accepted c on off first hours work outputs
        ≡ schedule_of Accepted (with_arrays c c.rise c.fall c.prices orders) work outputs
    filled_day orders same d given =
        calendar_of_day c on off first hours work outputs (clash on off first hours 0 f) same d
        ∙ schedule_orders c work outputs (filled_orders on off first hours) orders
        (λ i h. let k : i < hours = omega (arith, same) in filled_given on off first hours f i k (given i k))
