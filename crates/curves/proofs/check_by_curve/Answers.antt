-- `curves::check_by_curve`: a curve, reading or record that is refused, a list of another length, a table that is too
-- short, else the verdict by the filled table.
use borrow.Author.Rules.{rules}
use native.Mathlib.Omega.{arith}
use mathlib.Core.Path.{◌≡◌, sym, ap, ◌∙◌}
use lib.ListN.{drop, length-take}
use mathlib.Core.List.{◌++◌}
use Rattle.std.specs.Prelude.{Err}
use Rattle.cases.specs.Reads.{Accepted}
use Rattle.curve.specs.Cost.{costs_length, curved_of, record_of, Usable, table_of}
use Rattle.curve.proofs.HeldLaws.{kind_held}
use Rattle.model.specs.Curves.{check_by_curve_of}
use Rattle.model.proofs.CurvesLaws.{check_by_curve_of_length, check_by_curve_of_short, check_by_curve_of_judged}
use Rattle.curves.proofs.EnteredLaws.{Entered, entered, check_refused}
use Rattle.curves.proofs.FilledLaws.{filled, front}
use Rattle.curves.proofs.check_by_curve.Goals as goal
use Rattle.curves.proofs.check_by_curve.Goals.{In_ok-admitted, After-fill}

-- past the tests of the curve, of the reading and of its record
module _ (c : In_ok-admitted) where
  passed : Entered c.args.kind c.args.reading.outcome c.args.reading.case
  passed = entered _ _ _ (rw c.record_of-curve.ensures at c.in_ok-admitted.ensures.ok.1)

  usable : Usable c.args.kind
  usable = record { floats = kind_held c.args.kind c.well_formed.1.0; passes = passed.curve }

  -- the record that was admitted is the one that was read
  read : check_by_curve_of c.args.kind c.args.reading.outcome c.args.reading.case c.args.list.now c.args.table.now
      ≡ check_by_curve_of c.args.kind Accepted c.in_ok-admitted.admitted.case c.args.list.now c.args.table.now
  read =
      ap (λ o. check_by_curve_of c.args.kind o c.args.reading.case c.args.list.now c.args.table.now) passed.reading
      ∙ ap (λ x. check_by_curve_of c.args.kind Accepted x c.args.list.now c.args.table.now)
      (sym c.in_ok-admitted.ensures.ok.0)

-- the table after it was filled
module _ (c : After-fill) where
  drawn : c.fill.new.table ≡ table_of (curved_of (record_of c.args.kind)) ++ drop costs_length c.args.table.now
  drawn = rw c.record_of-curve.ensures at c.fill.ensures

pub returns-in_err-admitted : goal.returns-in_err-admitted
returns-in_err-admitted c =
    let told = rw c.record_of-curve.ensures at c.in_err-admitted.ensures.err in
    let same : c.from_residual.result ≡ Err c.in_err-admitted.field-0.0 = search rules in
    let e = sym (check_refused c.args.kind c.args.reading.case c.args.list.now c.args.table.now _ _ told) in
    record { answer = same ∙ ap (λ f. f.answer) e; table = ap (λ f. f.table) e }

pub returns-then-list-admitted : goal.returns-then-list-admitted
returns-then-list-admitted c =
    let d = (goal.at.returns-then-list-admitted c).In_ok-admitted in
    let e = sym (read d ∙ check_by_curve_of_length c.args.kind (passed d).curve _ _ _
    c.in_ok-admitted.admitted.within c.if-list-admitted.true) in
    record { answer = ap (λ f. f.answer) e; table = ap (λ f. f.table) e }

pub returns-then-table-lt-COSTS : goal.returns-then-table-lt-COSTS
returns-then-table-lt-COSTS c =
    let d = (goal.at.returns-then-table-lt-COSTS c).In_ok-admitted in
    let e = sym (read d ∙ check_by_curve_of_short c.args.kind (passed d).curve _ _ _
    c.in_ok-admitted.admitted.within c.if-list-admitted.false c.if-table-lt-COSTS.true) in
    record { answer = ap (λ f. f.answer) e; table = ap (λ f. f.table) e }

pub fill-requires : goal.fill-requires
fill-requires c =
    let d = (goal.at.fill-requires c).In_ok-admitted in
    (rw c.record_of-curve.ensures (passed d).curve, omega (arith, c.if-table-lt-COSTS.false))

pub slice_bounds-judge-end-2 : goal.slice_bounds-judge-end-2
slice_bounds-judge-end-2 c =
    omega (arith, length-take costs_length c.fill.new.table, c.fill.auto.table, c.if-table-lt-COSTS.false)

pub judge-requires : goal.judge-requires
judge-requires c =
    let d = (goal.at.judge-requires c).In_ok-admitted in
    let f = (goal.at.judge-requires c).After-fill in
    record {
      list_len = c.if-list-admitted.false;
      usable = (c.args.kind, usable d, front (usable d) c.args.table.now (drawn f));
    }

pub returns : goal.returns
returns c =
    let d = (goal.at.returns c).In_ok-admitted in
    let f = (goal.at.returns c).After-fill in
    let e = sym (read d ∙ check_by_curve_of_judged c.args.kind (passed d).curve _ _ _
    c.in_ok-admitted.admitted.within c.if-list-admitted.false c.if-table-lt-COSTS.false) in
    record {
      answer = c.judge.ensures c.args.kind (usable d) (front (usable d) c.args.table.now (drawn f)) ∙ ap (λ f. f.answer) e;
      table = filled (usable d) c.args.table.now (drawn f) ∙ ap (λ f. f.table) e;
    }
