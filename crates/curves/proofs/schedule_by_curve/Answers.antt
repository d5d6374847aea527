-- `curves::schedule_by_curve`: a curve, reading or record that is refused, memory that is too short, else the search by
-- the filled table.
use borrow.Author.Rules.{rules}
use native.Mathlib.Omega.{arith}
use mathlib.Core.Path.{◌≡◌, sym, ap, ◌∙◌}
use Prim.Native.Nat.{◌<◌}
use lib.ListN.{length, drop, length-take}
use mathlib.Core.List.{◌++◌}
use mathlib.Core.Logic.{◌⊎◌, inl, inr}
use Rattle.std.specs.Prelude.{Err}
use Rattle.cases.specs.Reads.{Accepted}
use Rattle.curve.specs.Cost.{costs_length, curved_of, record_of, Usable, table_of}
use Rattle.curve.proofs.HeldLaws.{kind_held}
use Rattle.cases.specs.Symbols.{last}
use Rattle.cases.specs.Refusals.{work_length}
use Rattle.model.specs.Curves.{not_searched, schedule_by_curve_of}
use Rattle.model.proofs.CurvesLaws.{schedule_by_curve_of_short, schedule_by_curve_of_planned}
use Rattle.curves.proofs.EnteredLaws.{Entered, entered, schedule_refused}
use Rattle.curves.proofs.FilledLaws.{filled, front}
use Rattle.curves.proofs.schedule_by_curve.Goals as goal
use Rattle.curves.proofs.schedule_by_curve.Goals.{In_ok-admitted, After-fill}

-- past the tests of the curve, of the reading and of its record
module _ (c : In_ok-admitted) where
  passed : Entered c.args.kind c.args.reading.outcome c.args.reading.case
  passed = entered _ _ _ (rw c.record_of-curve.ensures at c.in_ok-admitted.ensures.ok.1)

  usable : Usable c.args.kind
  usable = record { floats = kind_held c.args.kind c.well_formed.1.0; passes = passed.curve }

  -- the record that was admitted is the one that was read
  read : schedule_by_curve_of c.args.kind c.args.reading.outcome c.args.reading.case c.args.table.now
      c.args.work.now c.args.outputs.now
      ≡ schedule_by_curve_of c.args.kind Accepted c.in_ok-admitted.admitted.case c.args.table.now c.args.work.now
      c.args.outputs.now
  read =
      ap (λ o. schedule_by_curve_of c.args.kind o c.args.reading.case c.args.table.now c.args.work.now
      c.args.outputs.now) passed.reading
      ∙ ap (λ x. schedule_by_curve_of c.args.kind Accepted x c.args.table.now c.args.work.now c.args.outputs.now)
      (sym c.in_ok-admitted.ensures.ok.0)

-- the table after it was filled
module _ (c : After-fill) where
  drawn : c.fill.new.table ≡ table_of (curved_of (record_of c.args.kind)) ++ drop costs_length c.args.table.now
  drawn = rw c.record_of-curve.ensures at c.fill.ensures

pub returns-in_err-admitted : goal.returns-in_err-admitted
returns-in_err-admitted c =
    let told = rw c.record_of-curve.ensures at c.in_err-admitted.ensures.err in
    let same : c.from_residual.result ≡ Err c.in_err-admitted.field-0.0 = search rules in
    let e = sym (schedule_refused c.args.kind c.args.reading.case c.args.table.now c.args.work.now c.args.outputs.now _ _ told) in
    record {
      answer = same ∙ ap (λ f. f.answer.answer) e;
      table = ap (λ f. f.table) e;
      work = ap (λ f. f.answer.work) e;
      outputs = ap (λ f. f.answer.outputs) e;
    }

-- memory that is too short
short : (d : In_ok-admitted)
    → (length d.args.table.now < costs_length) ⊎ ((length d.args.work.now < work_length d.in_ok-admitted.admitted.case)
    ⊎ (length d.args.outputs.now < last d.in_ok-admitted.admitted.case))
    → not_searched d.args.kind 10 d.args.table.now d.args.work.now d.args.outputs.now
    ≡ schedule_by_curve_of d.args.kind d.args.reading.outcome d.args.reading.case d.args.table.now d.args.work.now
    d.args.outputs.now
short d h =
    sym (read d ∙ schedule_by_curve_of_short d.args.kind (passed d).curve _ _ _ _ d.in_ok-admitted.admitted.within h)

pub returns-then-table-lt-COSTS : goal.returns-then-table-lt-COSTS
returns-then-table-lt-COSTS c =
    let e = short (goal.at.returns-then-table-lt-COSTS c).In_ok-admitted (inl c.if-table-lt-COSTS.true) in
    record {
      answer = ap (λ f. f.answer.answer) e;
      table = ap (λ f. f.table) e;
      work = ap (λ f. f.answer.work) e;
      outputs = ap (λ f. f.answer.outputs) e;
    }

pub returns-then-work-n : goal.returns-then-work-n
returns-then-work-n c =
    let e = short (goal.at.returns-then-work-n c).In_ok-admitted (inr (inl (rw c.work_of-n.ensures at c.if-work-n.true))) in
    record {
      answer = ap (λ f. f.answer.answer) e;
      table = ap (λ f. f.table) e;
      work = ap (λ f. f.answer.work) e;
      outputs = ap (λ f. f.answer.outputs) e;
    }

pub returns-then-outputs-admitted : goal.returns-then-outputs-admitted
returns-then-outputs-admitted c =
    let e = short (goal.at.returns-then-outputs-admitted c).In_ok-admitted (inr (inr c.if-outputs-admitted.true)) in
    record {
      answer = ap (λ f. f.answer.answer) e;
      table = ap (λ f. f.table) e;
      work = ap (λ f. f.answer.work) e;
      outputs = ap (λ f. f.answer.outputs) e;
    }

pub fill-requires : goal.fill-requires
fill-requires c =
    let d = (goal.at.fill-requires c).In_ok-admitted in
    (rw c.record_of-curve.ensures (passed d).curve, omega (arith, c.if-table-lt-COSTS.false))

pub slice_bounds-find-end-2 : goal.slice_bounds-find-end-2
slice_bounds-find-end-2 c =
    omega (arith, length-take costs_length c.fill.new.table, c.fill.auto.table, c.if-table-lt-COSTS.false)

pub find-requires : goal.find-requires
find-requires c =
    let d = (goal.at.find-requires c).In_ok-admitted in
    let f = (goal.at.find-requires c).After-fill in
    record {
      n_value = (c.work_of-n.ensures, c.if-work-n.false, c.if-outputs-admitted.false);
      usable = (c.args.kind, usable d, front (usable d) c.args.table.now (drawn f));
    }

pub returns : goal.returns
returns c =
    let d = (goal.at.returns c).In_ok-admitted in
    let f = (goal.at.returns c).After-fill in
    let shown = front (usable d) c.args.table.now (drawn f) in
    let long = rw c.work_of-n.ensures at c.if-work-n.false in
    let e = sym (read d ∙ schedule_by_curve_of_planned c.args.kind (passed d).curve _ _ _ _
    c.in_ok-admitted.admitted.within c.if-table-lt-COSTS.false long c.if-outputs-admitted.false) in
    record {
      answer = c.find.ensures.answer c.args.kind (usable d) shown ∙ ap (λ f. f.answer.answer) e;
      table = filled (usable d) c.args.table.now (drawn f) ∙ ap (λ f. f.table) e;
      work = c.find.ensures.work c.args.kind (usable d) shown ∙ ap (λ f. f.answer.work) e;
      outputs = c.find.ensures.outputs c.args.kind (usable d) shown ∙ ap (λ f. f.answer.outputs) e;
    }
