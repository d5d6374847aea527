-- The loop of `cells::scan` keeps what its invariant says, and each sum stays within 64 bits. Assumes nothing.
use Rattle.std.proofs.Common.{◌≡◌, ℕ, ◌+◌, ◌-◌, ◌≤◌, ℤ, nat_abs, ◌+ℤ◌, refl, ap, ◌∙◌, arith, rules, true, false}
use Rattle.std.specs.Int.Signed.{lt_z}
use Rattle.laws.proofs.Magnitude.{abs_sub}
use Rattle.machine.specs.Bounds.{most_worth, most_line, most_loaded, missing_size}
use Rattle.machine.proofs.Table.BoundsLaws.{worth_below}
use Rattle.machine.proofs.Table.CodedLaws.{coded_abs}
use Rattle.window.specs.Rows.{sloped, threshold}
use Rattle.window.proofs.SlopeLaws.{sloped_start, sloped_next, sloped_abs}
use Rattle.cells.proofs.LeadLaws.{scan_start, scan_step, leads_none, leads_some}
use Rattle.cells.proofs.scan.Goals as goal
use Rattle.cells.proofs.scan.Goals.{After-cost_at-spent, After-difference}

-- the amount of an output
amount : (c : After-cost_at-spent) → nat_abs c.loop-p.t.0 ≤ most_line
amount c =
    rw c.loop-p.invariant.amount
    (sloped_abs c.args.line.first.0 c.args.line.slope.0 (c.loop-p.p - c.args.a.0)
    c.requires.first_bound.0 c.requires.first_bound.1 (omega (arith, c.loop-p-test.true)))

-- that less the table's entry
loaded : (c : After-difference) → nat_abs c.difference.result.0 ≤ most_loaded
loaded c =
    let h = amount (goal.at.sum-worth-requires c).After-cost_at-spent in
    rw c.difference.ensures
    (omega (arith, abs_sub c.loop-p.t.0 c.cost_at-spent.result.0, h, c.cost_at-spent.ensures.1))

pub loop-p-init : goal.loop-p-init
loop-p-init c =
    let e : c.args.a.0 - c.args.a.0 ≡ 0 = omega arith in
    record {
      amount = rw e (sloped_start c.args.line.first.0 c.args.line.slope.0);
      leads = λ f h. rw c.nothing-best.ensures
          (scan_start f c.args.row.now c.args.costs.now c.args.lo.0 c.args.r.0 c.args.a.0 c.args.b.0
          c.args.line.first.0 c.args.line.slope.0 c.args.a.0 refl);
    }

pub difference-requires : goal.difference-requires
difference-requires c =
    omega (arith, amount (goal.at.difference-requires c).After-cost_at-spent, c.cost_at-spent.ensures.1)

pub sum-worth-requires : goal.sum-worth-requires
sum-worth-requires c =
    let (f, h) = c.requires.by_index in
    let p = c.loop-p.p in
    let small : nat_abs c.value_at-v.result.0 ≤ missing_size =
    rw (c.value_at-v.ensures, h.at p (omega arith) c.loop-p-test.true)
    (coded_abs most_worth worth_below (h.size p (omega arith) c.loop-p-test.true)) in
    omega (arith, loaded (goal.at.sum-worth-requires c).After-difference, small)

pub after-t-requires : goal.after-t-requires
after-t-requires c = omega (arith, amount (goal.at.after-t-requires c).After-cost_at-spent, c.requires.first_bound.1)

pub loop-p-preserved : goal.loop-p-preserved
loop-p-preserved c =
    let a = c.args.a.0 in
    let p = c.loop-p.p in
    let e : p - a + 1 ≡ p + 1 - a = omega arith in
    record {
      amount =
          c.after-t.ensures ∙ ap (λ (x : ℤ). x +ℤ c.args.line.slope.0) c.loop-p.invariant.amount
          ∙ sloped_next c.args.line.first.0 c.args.line.slope.0 (p - a)
          ∙ ap (λ (n : ℕ). sloped c.args.line.first.0 c.args.line.slope.0 n) e;
      leads = λ f h. rw c.better-best.ensures
          (scan_step f c.args.row.now c.args.costs.now c.args.lo.0 c.args.r.0 a c.args.b.0
          c.args.line.first.0 c.args.line.slope.0 p c.loop-p.best c.difference.result.0
          c.sum-worth.result.0 h (omega arith) c.loop-p-test.true
          (rw (c.difference.ensures, c.cost_at-spent.ensures.0, c.loop-p.invariant.amount) refl)
          (loaded (goal.at.loop-p-preserved c).After-difference)
          (c.sum-worth.ensures ∙ ap (λ (x : ℤ). c.difference.result.0 +ℤ x) c.value_at-v.ensures)
          (c.loop-p.invariant.leads f h));
    }

pub returns-then-lt : goal.returns-then-lt
returns-then-lt c = λ f h.
    let e : c.loop-p.p ≡ c.args.b.0 = omega arith in
    let t : lt_z threshold c.loop-p.best.worth.0 ≡ true = search rules in
    leads_some (rw e at (c.loop-p.invariant.leads f h)) t

pub returns-else-lt : goal.returns-else-lt
returns-else-lt c = λ f h.
    let e : c.loop-p.p ≡ c.args.b.0 = omega arith in
    let t : lt_z threshold c.loop-p.best.worth.0 ≡ false = search rules in
    c.nothing.ensures ∙ leads_none (rw e at (c.loop-p.invariant.leads f h)) t
