-- Each hour of the loop of `rows::lock_down` looks at the cells that the next one comes to. Assumes nothing.
use Rattle.std.proofs.Common.{◌≡◌, ℕ, suc, ◌+◌, ◌-◌, ◌*◌, ◌≤◌, min, refl, ap, ◌∙◌, arith}
use Rattle.cells.specs.Ahead.{tariffs}
use Rattle.cells.specs.Table.{cells_of}
use Rattle.cells.proofs.Ends.{row_at, row_fewer, reach_step}
use Rattle.rows.proofs.lock_down.Goals as goal
use Rattle.rows.proofs.lock_down.Goals.{After-reached-seen}

-- the cells that are looked at
seen_is : (c : After-reached-seen) → c.reached-seen.result
    ≡ min (c.args.m + (c.loop-h.h - c.args.k.0) * c.args.day.now.unit.rampup.0) (cells_of c.args.day.now.unit)
seen_is c =
    let u = c.args.day.now.unit in
    let e : c.loop-h.h - 1 + 1 - c.args.k.0 ≡ c.loop-h.h - c.args.k.0 = omega (arith, c.loop-h-test.true) in
    c.reached-seen.ensures ∙ ap (λ (d : ℕ). min (c.args.m + d * u.rampup.0) (cells_of u)) e

pub lock_hour-requires : goal.lock_hour-requires
lock_hour-requires c =
    let u = c.args.day.now.unit in
    let (j, r) = c.requires.n_bound.2 in
    let up : c.loop-h.h ≡ suc (c.loop-h.h - 1) = omega (arith, c.loop-h-test.true) in
    record {
      k_lt_hours = (
        omega (arith, c.loop-h-test.true, c.requires.n_bound.0),
        (
          j + (c.args.k.0 + c.args.n.0 - c.loop-h.h),
          rw (seen_is (goal.at.lock_hour-requires c).After-reached-seen)
              (row_at u _ up refl (c.loop-h.invariant.row j r)),
        ),
      );
    }

pub loop-h-preserved : goal.loop-h-preserved
loop-h-preserved c =
    let day = c.args.day.now in
    let u = day.unit in
    let k = c.args.k.0 in
    let end = k + c.args.n.0 in
    let h : ℕ = c.loop-h.h - 1 in
    let up : c.loop-h.h ≡ suc h = omega (arith, c.loop-h-test.true) in
    let d : ℕ = h - k in
    let far : c.loop-h.h - k ≡ suc d = omega (arith, c.loop-h-test.true) in
    let m = min (c.args.m + d * u.rampup.0) (cells_of u) in
    let s = seen_is (goal.at.loop-h-preserved c).After-reached-seen in
    let seen : min (m + u.rampup.0) (cells_of u) ≤ c.reached-seen.result = rw (s, far) (reach_step u c.args.m d) in
    record {
      above = omega (arith, c.loop-h-test.true);
      row = λ j r.
          row_at u (tariffs day) refl (omega (arith, c.loop-h-test.true, c.loop-h.auto.h))
          (c.lock_hour.ensures (j + (end - c.loop-h.h)) m (omega arith) seen
          (rw s (row_at u (tariffs day) up refl (c.loop-h.invariant.row j r))));
    }

pub returns : goal.returns
returns c =
    let u = c.args.day.now.unit in
    let e : c.loop-h.h ≡ c.args.k.0 = omega (arith, c.loop-h.invariant.above, c.loop-h-test.false) in
    λ j r. row_fewer _ (omega (arith, c.requires.n_bound.1)) (row_at u _ e (omega arith) (c.loop-h.invariant.row j r))
