-- The cell of the minimum output has the better of a stop and of what it had. Assumes nothing.
use Rattle.std.proofs.Common.{◌≡◌, ◌∙◌, refl, rules}
use Rattle.laws.specs.Range.{larger}
use Rattle.cells.specs.Ahead.{tariff}
use Rattle.choices.proofs.Scanned.{worth_abs}
use Rattle.choices.proofs.Chosen.{sunk_sum}
use Rattle.rows.proofs.Stops.{row_leave}
use Rattle.rows.proofs.leave.Goals as goal

pub offered-x-requires : goal.offered-x-requires
offered-x-requires c =
    let hour = c.args.hour.now in
    let (w, z, o, e) = c.requires.sized in
    record {
      p_bound = (
        rw c.sunk_at-q.ensures (sunk_sum hour.fit hour.unit.minimum.0 1 hour.fit.minimum_le),
        rw e (worth_abs z _),
      );
    }

pub returns : goal.returns
unfolding larger
returns c =
    let hour = c.args.hour.now in
    let best : c.max-best.result.0 ≡ larger c.offered-x.result.0 c.value_at.result.0 = search rules in
    λ w z o e. rw c.store.ensures
    (row_leave hour.unit hour.fit (tariff hour) w 0 hour.fair z c.args.row.now refl o _
    (best ∙ rw (c.offered-x.ensures, c.value_at.ensures, c.sunk_at-q.ensures, e) refl))
