-- An empty row where the hour is ordered off-line, else the window between two lines, one added with no test for none,
-- the other where the largest is settled. Assumes nothing.
use Rattle.std.proofs.Common.{◌*◌, ◌≤◌, nat_abs, arith}
use Rattle.laws.proofs.Magnitude.{abs_mul_le}
use Rattle.cases.specs.Limits.{most_output}
use Rattle.machine.specs.Bounds.{most_margin}
use Rattle.machine.specs.Lengths.{row_length}
use Rattle.cells.specs.Ahead.{tariff}
use Rattle.choices.proofs.Scanned.{row_small}
use Rattle.window.specs.Rows.{Gentle}
use Rattle.window.proofs.SlopeLaws.{lifted_roomy}
use Rattle.rows.proofs.Opens.{open_empty, open_line}
use Rattle.rows.proofs.open_row.Goals as goal

pub widest-requires-clause-sized : goal.widest-requires-clause-sized
widest-requires-clause-sized c =
    let hour = c.args.hour.now in
    let f = hour.fit in
    let (w, j, x) = c.requires.by_index in
    let few : c.args.n ≤ row_length = omega (arith, x.row.few, f.capacity_le, f.minimum_pos) in
    let first_small : nat_abs c.multiple.result.0 ≤ most_margin * most_output =
    rw c.multiple.ensures (abs_mul_le hour.terms.margin.0 {m = most_output} hour.fair.margin_le
    (omega (arith, f.minimum_le, f.capacity_le))) in
    let gentle : Gentle c.multiple.result.0 hour.terms.margin.0 =
    record { first_le = omega arith; slope_le = hour.fair.margin_le } in
    record {
      long = omega (arith, x.row.few, x.row.long, c.lift.ensures.long);
      few = few;
      down_le = f.rampdown_le;
      up_le = f.rampup_le;
      roomy = lifted_roomy (row_small hour.unit j _ _ x (omega arith)) gentle few c.lift.ensures;
      gentle = record { first_le = c.head_of.ensures.1; slope_le = hour.fair.margin_le };
    }

pub returns-then-hour-eq2 : goal.returns-then-hour-eq2
returns-then-hour-eq2 c =
    let hour = c.args.hour.now in
    λ w j x. open_empty hour.unit hour.fit (tariff hour) hour.fair w x.sized j _ _ _ x.row c.if-hour-eq2.true
    c.empty.ensures

pub returns-else-hour-eq2 : goal.returns-else-hour-eq2
returns-else-hour-eq2 c =
    let hour = c.args.hour.now in
    λ w j x. open_line hour.unit hour.fit (tariff hour) hour.fair w x.sized j _ _ _ x.row
    (rw c.multiple.ensures at c.lift.ensures) _ c.if-hour-eq2.false (rw c.head_of.ensures.0 at c.widest.ensures)
