-- `curves::find` meets its contract: the rates and what is shown of the table are what an hour costs by it. Assumes
-- nothing.
use Rattle.std.proofs.Common.{arith, ap, ◌∙◌, ◌≡◌, ℕ, List, ℤ}
use Rattle.std.proofs.lemmas.List.{length-take}
use Rattle.curve.specs.declared.Kind.{Kind}
use Rattle.curve.specs.Cost.{table_of}
use Rattle.cases.specs.declared.Case.{Case}
use Rattle.model.specs.Best.{best_by}
use Rattle.model.specs.Answers.{Scheduling, planned}
use Rattle.model.specs.Curves.{earned_by}
use Rattle.machine.specs.Moves.{cost_at}
use Rattle.best.specs.Searched.{searched_by}
use Rattle.curves.proofs.SplitLaws.{long_of_kind, tabled_of_kind}
use Rattle.curves.proofs.find.Goals as goal

-- what is searched by the table is searched by what lists earn by it
searched_kind : (k : Kind) {costs : List ℤ} → costs ≡ table_of k → (c : Case) (work : List ℤ) (outputs : List ℕ)
    → searched_by (cost_at costs) c work outputs
    ≡ planned c (earned_by k c) work outputs (best_by (earned_by k c) c)
unfolding earned_by
searched_kind k e c work outputs = ap (λ (xs : List ℤ). searched_by (cost_at xs) c work outputs) e

pub split_of-split-requires : goal.split_of-split-requires
split_of-split-requires c = let (k, u, e) = c.requires.usable in (tabled_of_kind u e, long_of_kind u e)

pub slice_bounds-find-end : goal.slice_bounds-find-end
slice_bounds-find-end c =
    let (k, u, e) = c.requires.usable in
    let split = c.split_of-split in
    omega (arith, length-take split.result.shown c.args.costs.now, long_of_kind u e, split.ensures.0)

pub returns : goal.returns
returns c =
    let case = c.args.case.now.case in
    let work = c.args.work.now in
    let outputs = c.args.outputs.now in
    let pays = c.split_of-split.ensures.1 in
    record {
      answer = λ k u e. c.find.ensures.answer _ pays
          ∙ ap (λ (z : Scheduling). z.answer) (searched_kind k e case work outputs);
      work = λ k u e. c.find.ensures.work _ pays
          ∙ ap (λ (z : Scheduling). z.work) (searched_kind k e case work outputs);
      outputs = λ k u e. c.find.ensures.outputs _ pays
          ∙ ap (λ (z : Scheduling). z.outputs) (searched_kind k e case work outputs);
    }
