-- The text of a file by the plan that was answered and the outputs that were left. Assumes nothing.
use mathlib.Core.Path.{◌≡◌, refl, sym, ap, ◌∙◌, subst}
use mathlib.Core.List.{List, ◌++◌}
use Prim.Native.Nat.{ℕ, ◌≤◌, ◌<◌, ◌^◌}
use native.Mathlib.Omega.{arith}
use lib.IntN.{ℤ, pos, negsuc, nat_abs}
use lib.ListN.{length}
use mir.Syntax.{w64}
use mir.Val.{SFits}
use Rattle.quantities.specs.declared.HalfMills.{HalfMills}
use Rattle.cases.specs.declared.Reading.{Reading}
use Rattle.cases.specs.Limits.{most_hours, short_work}
use Rattle.cases.specs.Reads.{read_of}
use Rattle.model.specs.Answers.{schedule_of}
use Rattle.model.specs.Printed.{profit_line, refused_line, hour_lines, read_text}
use Rattle.cases.proofs.LimitsLaws.{Limits}
use Rattle.model.proofs.PrintedLaws.{plan_text, read_text_plan, found_limits}
use Rattle.std.specs.Prelude.{Result, Ok, Err}
use Rattle.quantities.specs.declared.Refusal.{Refusal}

-- an amount of 64 bits has at most 19 digits
pub abs_of_fits : (v : ℤ) → SFits w64 v → nat_abs v < 10 ^ 19
abs_of_fits (pos n) f = omega (arith, f.sfits)
abs_of_fits (negsuc n) f = omega (arith, f.sfits)

module _ (file : List ℕ) (work : List ℤ) (outputs : List ℕ) (long : length work ≡ short_work)
    (room : most_hours ≤ length outputs) {r : Reading} (e : r ≡ read_of file) {plan : Result HalfMills Refusal} {left : List ℕ}
    (answered : plan ≡ (schedule_of r.outcome r.case work outputs).answer)
    (kept : left ≡ (schedule_of r.outcome r.case work outputs).outputs) where
  told : read_text (read_of file).outcome (read_of file).case ≡ plan_text r.case left plan
  told = rw (answered, kept, e) (read_text_plan file work outputs long room (read_of file).outcome refl)

  pub told_refused : {r : Refusal} → plan ≡ Err r
      → read_text (read_of file).outcome (read_of file).case ≡ refused_line r.0
  unfolding plan_text
  told_refused d = told ∙ ap (plan_text r.case left) d

  pub told_found : {m : HalfMills} → plan ≡ Ok m
      → read_text (read_of file).outcome (read_of file).case
      ≡ profit_line m.0 ++ hour_lines r.case left r.case.hours
  unfolding plan_text
  told_found d = told ∙ ap (plan_text r.case left) d

  pub limits_found : {m : HalfMills} → plan ≡ Ok m → Limits r.case
  limits_found d =
      let q = ap (λ x. (schedule_of x.outcome x.case work outputs).answer) e in
      subst (λ x. Limits x.case) (sym e)
      (found_limits file work outputs long room (read_of file).outcome refl (sym q ∙ sym answered ∙ d))
