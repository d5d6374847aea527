-- On-line the choice is a stop, where one may begin, or an output within the ramps. Assumes nothing.
use Rattle.std.proofs.Common.{◌≡◌, false, ◌∙◌, rules}
use Rattle.machine.specs.Moves.{leaves}
use Rattle.choices.proofs.Chosen.{sunk_sum, chosen_leave, chosen_stay}
use Rattle.choices.proofs.Scanned.{worth_abs}
use Rattle.choices.proofs.choose_run.Goals as goal
use Rattle.choices.proofs.choose_run.Goals.{else-eq-via-then-eq+else-eq-2, else-eq-via-else-eq}

pub offered-requires : goal.offered-requires
offered-requires c =
    let (w, x, e) = c.requires.across in
    let z : c.args.j.0 ≡ 0 = search rules in
    record {
      p_bound = (
        rw c.sunk_at-q.ensures (sunk_sum c.args.hour.now.fit c.args.r.0 1 c.requires.minimum_le_r.1),
        rw (e z) (worth_abs x.sized _),
      );
    }

pub returns-then-eq-2 : goal.returns-then-eq-2
returns-then-eq-2 c =
    let hour = c.args.hour.now in
    let (lo, hi) = c.requires.minimum_le_r in
    let z : c.args.j.0 ≡ 0 = search rules in
    let m : c.args.r.0 ≡ hour.unit.minimum.0 = search rules in
    λ w x e. c.better.ensures
    ∙ rw (
      c.lone.ensures,
      c.offered.ensures,
      e z,
      c.sunk_at-q.ensures,
      c.across-on.ensures w c.args.j.0 x,
    )
    (chosen_leave hour.fit hour.fair x.sized c.args.r c.args.j lo hi z m)

pub returns-else-eq : goal.returns-else-eq
unfolding leaves
returns-else-eq c =
    let hour = c.args.hour.now in
    let (lo, hi) = c.requires.minimum_le_r in
    let stays : leaves hour.unit c.args.r.0 c.args.j.0 ≡ false =
    elim c.else-eq.branch
    [ else-eq-via-then-eq+else-eq-2 b ↦ search rules | else-eq-via-else-eq b ↦ search rules ] in
    λ w x e. c.across-on.ensures w c.args.j.0 x
    ∙ chosen_stay hour.fit hour.fair x.sized c.args.r c.args.j lo hi stays
