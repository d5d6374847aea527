-- A call by a curve past the tests of the curve, of the reading and of its record, and what it answers where one of
-- them refuses. Assumes nothing.
use mathlib.Core.Path.{◌≡◌, refl, sym, ap, ◌∙◌}
use mathlib.Core.Bool.{Bool, true, false, cond, true≢false}
use mathlib.Core.List.{List}
use Prim.Native.Nat.{ℕ}
use borrow.Author.Tests.{eqb-true, eqb-false}
use lib.Dec.{T, eqb}
use lib.IntN.{ℤ}
use Rattle.laws.proofs.Tests.{true_to_t, false_to_not}
use Rattle.curve.specs.declared.Kind.{Kind}
use Rattle.curve.specs.Cost.{record_of, accepted}
use Rattle.cases.specs.declared.Case.{Case}
use Rattle.cases.specs.Refusals.{refusal_of}
use Rattle.cases.specs.Reads.{outcome_number}
use Rattle.model.specs.Curves.{not_checked, check_by_curve_of, not_searched, schedule_by_curve_of}
use Rattle.model.proofs.CurvesLaws.{check_by_curve_of_sixteen, check_by_curve_of_refused, check_by_curve_of_outside}
use Rattle.model.proofs.CurvesLaws.{schedule_by_curve_of_sixteen, schedule_by_curve_of_refused}
use Rattle.model.proofs.CurvesLaws.{schedule_by_curve_of_outside}
use Rattle.curves.specs.Entered.{read_of, entered_of}
use Rattle.cases.specs.Reads.{Accepted, Outcome, Refused}
use Rattle.std.specs.Prelude.{Err, Ok}

abbrev stands : Outcome → Bool
stands (Ok tt) = true
stands (Err n) = false

-- all three pass
pub record Entered (k : Kind) (o : Outcome) (c : Case) : Type 0 where
  pub curve : T (accepted (record_of k))
  pub reading : o ≡ Accepted
  pub within : refusal_of c ≡ 0

module _ (k : Kind) (c : Case) where
  pub entered : (o : Outcome) → entered_of (record_of k) o c ≡ Accepted → Entered k o c
  entered o h = go (accepted (record_of k)) refl h
    where
      inside : (t : Bool) → eqb (refusal_of c) 0 ≡ t → cond t Accepted (Refused (refusal_of c)) ≡ Accepted
          → refusal_of c ≡ 0
      inside true e x = eqb-true (refusal_of c) 0 e
      inside false e x = absurd (true≢false (sym (ap stands x)))

      past : T (accepted (record_of k)) → (p : Outcome) → read_of p c ≡ Accepted → Entered k p c
      past good (Ok tt) x =
          record { curve = good; reading = refl; within = inside (eqb (refusal_of c) 0) refl x }
      past good (Err n) x = absurd (true≢false (sym (ap stands x)))

      go : (t : Bool) → accepted (record_of k) ≡ t → cond t (read_of o c) (Refused 16) ≡ Accepted → Entered k o c
      go true e x = past (true_to_t (accepted (record_of k)) e) o x
      go false e x = absurd (true≢false (sym (ap stands x)))

  -- what is asked, where each of the three tests is answered by its number
  module _ {X : Type 0} (asked : Outcome → X) (refused : ℕ → X)
      (sixteen : (T (accepted (record_of k)) → ⊥) → (o : Outcome) → asked o ≡ refused 16)
      (stopped : T (accepted (record_of k)) → (n : ℕ) → asked (Refused n) ≡ refused n)
      (outside : T (accepted (record_of k)) → (refusal_of c ≡ 0 → ⊥) → asked Accepted ≡ refused (refusal_of c)) where
    numbered : (o : Outcome) (n : ℕ) → entered_of (record_of k) o c ≡ Refused n → asked o ≡ refused n
    numbered o n h = go (accepted (record_of k)) refl h
      where
        beyond : T (accepted (record_of k)) → (t : Bool) → eqb (refusal_of c) 0 ≡ t
            → cond t Accepted (Refused (refusal_of c)) ≡ Refused n → asked Accepted ≡ refused n
        beyond good true e x = absurd (true≢false (ap stands x))
        beyond good false e x = outside good (eqb-false (refusal_of c) 0 e) ∙ ap refused (ap outcome_number x)

        past : T (accepted (record_of k)) → (p : Outcome) → read_of p c ≡ Refused n → asked p ≡ refused n
        past good (Ok tt) x = beyond good (eqb (refusal_of c) 0) refl x
        past good (Err m) x = stopped good m.0 ∙ ap refused (ap outcome_number x)

        go : (t : Bool) → accepted (record_of k) ≡ t → cond t (read_of o c) (Refused 16) ≡ Refused n
            → asked o ≡ refused n
        go true e x = past (true_to_t (accepted (record_of k)) e) o x
        go false e x = sixteen (false_to_not (accepted (record_of k)) e) o ∙ ap refused (ap outcome_number x)

  pub check_refused : (l : List ℕ) (table : List ℤ) (o : Outcome) (n : ℕ) → entered_of (record_of k) o c ≡ Refused n
      → check_by_curve_of k o c l table ≡ not_checked k n table
  check_refused l table =
      numbered (λ o. check_by_curve_of k o c l table) (λ n. not_checked k n table)
      (λ bad o. check_by_curve_of_sixteen k bad o c l table)
      (λ good. check_by_curve_of_refused k good c l table) (λ good. check_by_curve_of_outside k good c l table)

  pub schedule_refused : (table work : List ℤ) (outputs : List ℕ) (o : Outcome) (n : ℕ)
      → entered_of (record_of k) o c ≡ Refused n
      → schedule_by_curve_of k o c table work outputs ≡ not_searched k n table work outputs
  schedule_refused table work outputs =
      numbered (λ o. schedule_by_curve_of k o c table work outputs) (λ n. not_searched k n table work outputs)
      (λ bad o. schedule_by_curve_of_sixteen k bad o c table work outputs)
      (λ good. schedule_by_curve_of_refused k good c table work outputs)
      (λ good. schedule_by_curve_of_outside k good c table work outputs)
