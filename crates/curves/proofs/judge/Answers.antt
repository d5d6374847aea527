-- `curves::judge` meets its contract: the breach that was found, or what the list earns by the table. Assumes nothing.
use Rattle.std.proofs.Common.{sym, ap, ◌≡◌, ◌∙◌, ℕ, ℤ, List}
use Rattle.curve.specs.declared.Kind.{Kind}
use Rattle.curve.specs.Cost.{table_of}
use Rattle.cases.specs.declared.Case.{Case}
use Rattle.cases.specs.declared.Verdict.TheVariants.{Passes}
use Rattle.day.specs.Profit.{profit_by}
use Rattle.model.specs.Answers.{judged}
use Rattle.model.specs.Curves.{earned_by}
use Rattle.day.proofs.KeepsLaws.{kept_of_none}
use Rattle.model.proofs.CheckLaws.{judged_none, judged_some}
use Rattle.machine.specs.Moves.{cost_at}
use Rattle.rules.proofs.BreachLaws.{found_none, found_some}
use Rattle.curves.proofs.SplitLaws.{long_of_kind, tabled_of_kind}
use Rattle.std.specs.Prelude.{Ok}
use Rattle.curves.proofs.judge.Goals as goal

-- what a list earns by the table
earned-kind : (k : Kind) {costs : List ℤ} → costs ≡ table_of k → (c : Case) (l : List ℕ)
    → profit_by (cost_at costs) c l ≡ earned_by k c l
unfolding earned_by
earned-kind k e c l = ap (λ (xs : List ℤ). profit_by (cost_at xs) c l) e

pub returns-in-Some : goal.returns-in-Some
returns-in-Some c =
    let case = c.args.case.now.case in
    let l = c.args.list.now in
    λ k u e. sym (ap (judged (earned_by k case l)) (c.in-Some.ensures ∙ found_some c.in-Some.breach)
    ∙ judged_some (earned_by k case l) c.in-Some.breach)

pub by_table-requires : goal.by_table-requires
by_table-requires c = let (k, u, e) = c.requires.usable in (tabled_of_kind u e, long_of_kind u e)

pub earned-requires : goal.earned-requires
earned-requires c =
    let none = c.in-None.ensures ∙ found_none in
    record {
      keeps = kept_of_none c.args.case.now.case c.args.list.now c.requires.list_len none;
      by_index = (_, c.by_table.ensures.1);
    }

pub returns-in-None : goal.returns-in-None
returns-in-None c =
    let case = c.args.case.now.case in
    let l = c.args.list.now in
    λ k u e.
    let sum = c.earned.ensures _ c.by_table.ensures.1 ∙ earned-kind k e case l in
    ap (λ (x : ℤ). Ok (Passes (record { 0 = x }))) sum
    ∙ sym (ap (judged (earned_by k case l)) (c.in-None.ensures ∙ found_none) ∙ judged_none (earned_by k case l))
