-- A comparison is made by the two verdicts.
use borrow.Author.Rules.{rules}
use mathlib.Core.Path.{◌≡◌, refl, ap, ◌∙◌, sym}
use mathlib.Core.Bool.{Bool, cond}
use mathlib.Core.List.{List}
use Prim.Native.Nat.{ℕ}
use Rattle.quantities.specs.declared.HalfMills.{HalfMills}
use Rattle.cases.specs.declared.Reading.{Reading}
use Rattle.cases.specs.declared.Verdict.{Verdict}
use Rattle.cases.specs.declared.Verdict.TheVariants.{Passes, Breaks}
use Rattle.cases.specs.declared.Comparison.TheVariants.{First, Second}
use Rattle.day.specs.Profit.{profit_of}
use Rattle.model.specs.Best.{leads}
use Rattle.model.specs.Answers.{check_of}
use Rattle.model.specs.Compared.{preferred, compared_of}
use Rattle.model.proofs.VerdictLaws.{check_of_passes}
use Rattle.model.proofs.ComparedLaws.{compared_of_by}
use Rattle.offers.proofs.compare.Goals as goal
use Rattle.offers.proofs.compare.Goals.{In_ok-two}
use Rattle.std.specs.Prelude.{Result, Ok, Err}
use Rattle.quantities.specs.declared.Refusal.{Refusal}

module _ (r : Reading) (a b : List ℕ) where
  -- the verdict of a list
  abbrev verdict : List ℕ → Result Verdict Refusal
  verdict l = check_of r.outcome r.case l

  -- the comparison by two verdicts
  by : {v w : Result Verdict Refusal} → v ≡ verdict a → w ≡ verdict b
      → preferred (leads (profit_of r.case) b a) v w ≡ compared_of r.outcome r.case a b
  by = compared_of_by r.outcome r.case a b

  -- two lists that pass, by the test whether the second comes before the first
  ranked : (own other : HalfMills) {t : Bool} → Ok (Passes own) ≡ verdict a → Ok (Passes other) ≡ verdict b
      → t ≡ leads (profit_of r.case) b a
      → cond t (Ok (Second other)) (Ok (First own)) ≡ compared_of r.outcome r.case a b
  ranked own other p q e = ap (λ (x : Bool). cond x (Ok (Second other)) (Ok (First own))) e ∙ by p q

-- a refused second check, whatever the first found
refused-two : (before : Bool) (refusal : Refusal) (v : Verdict) → preferred before (Ok v) (Err refusal) ≡ Err refusal
refused-two before refusal (Passes m) = refl
refused-two before refusal (Breaks b) = refl

-- what the two checks answered
said-one : (c : In_ok-two) {v : Verdict} → c.in_ok-one.one ≡ v → Ok v
    ≡ check_of c.args.reading.outcome c.args.reading.case c.args.first.now
said-one c e = sym (ap Ok e) ∙ c.in_ok-one.ensures

said-two : (c : In_ok-two) {v : Verdict} → c.in_ok-two.two ≡ v → Ok v
    ≡ check_of c.args.reading.outcome c.args.reading.case c.args.second.now
said-two c e = sym (ap Ok e) ∙ c.in_ok-two.ensures

pub returns-in_err-one : goal.returns-in_err-one
returns-in_err-one c =
    let same : c.from_residual.result ≡ Err c.in_err-one.field-0.0 = search rules in
    same ∙ by c.args.reading c.args.first.now c.args.second.now c.in_err-one.ensures refl

pub returns-in_err-two : goal.returns-in_err-two
returns-in_err-two c =
    let same : c.from_residual-in_err-two.result ≡ Err c.in_err-two.field-0.0 = search rules in
    same ∙ sym (refused-two _ _ c.in_ok-one.one)
    ∙ by c.args.reading c.args.first.now c.args.second.now c.in_ok-one.ensures c.in_err-two.ensures

pub comes_before-requires : goal.comes_before-requires
comes_before-requires c =
    let r = c.args.reading in
    let d = (goal.at.comes_before-requires c).In_ok-two in
    let m = c.in-Passes-Passes in
    (check_of_passes r.outcome r.case c.args.second.now _ (sym (said-two d m.is-1))).0
    ∙ sym (check_of_passes r.outcome r.case c.args.first.now _ (sym (said-one d m.is-0))).0

pub returns-then-comes_before : goal.returns-then-comes_before
returns-then-comes_before c =
    let r = c.args.reading in
    let d = (goal.at.returns-then-comes_before c).In_ok-two in
    let one = said-one d c.in-Passes-Passes.is-0 in
    let two = said-two d c.in-Passes-Passes.is-1 in
    ranked r c.args.first.now c.args.second.now _ _ one two
    (sym c.if-comes_before.true ∙ c.comes_before.ensures (profit_of r.case)
    (check_of_passes r.outcome r.case c.args.second.now _ (sym two)).1
    (check_of_passes r.outcome r.case c.args.first.now _ (sym one)).1)

pub returns-else-comes_before : goal.returns-else-comes_before
returns-else-comes_before c =
    let r = c.args.reading in
    let d = (goal.at.returns-else-comes_before c).In_ok-two in
    let one = said-one d c.in-Passes-Passes.is-0 in
    let two = said-two d c.in-Passes-Passes.is-1 in
    ranked r c.args.first.now c.args.second.now _ _ one two
    (sym c.if-comes_before.false ∙ c.comes_before.ensures (profit_of r.case)
    (check_of_passes r.outcome r.case c.args.second.now _ (sym two)).1
    (check_of_passes r.outcome r.case c.args.first.now _ (sym one)).1)

pub returns-in-Passes-Breaks : goal.returns-in-Passes-Breaks
returns-in-Passes-Breaks c =
    let d = (goal.at.returns-in-Passes-Breaks c).In_ok-two in
    by c.args.reading c.args.first.now c.args.second.now (said-one d c.in-Passes-Breaks.is-0)
    (said-two d c.in-Passes-Breaks.is-1)

pub returns-in-Breaks-Passes : goal.returns-in-Breaks-Passes
returns-in-Breaks-Passes c =
    let d = (goal.at.returns-in-Breaks-Passes c).In_ok-two in
    by c.args.reading c.args.first.now c.args.second.now (said-one d c.in-Breaks-Passes.is-0)
    (said-two d c.in-Breaks-Passes.is-1)

pub returns-in-Breaks-Breaks : goal.returns-in-Breaks-Breaks
returns-in-Breaks-Breaks c =
    let d = (goal.at.returns-in-Breaks-Breaks c).In_ok-two in
    by c.args.reading c.args.first.now c.args.second.now (said-one d c.in-Breaks-Breaks.is-0)
    (said-two d c.in-Breaks-Breaks.is-1)
