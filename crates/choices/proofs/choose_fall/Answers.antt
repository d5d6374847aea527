-- In a stop sequence the choice is the next output. Assumes nothing.
use Rattle.std.proofs.Common.{◌∙◌}
use Rattle.choices.proofs.Chosen.{fall_sum, chosen_fall}
use Rattle.choices.proofs.Scanned.{worth_abs}
use Rattle.choices.proofs.choose_fall.Goals as goal

pub offered-requires : goal.offered-requires
offered-requires c =
    let (w, b) = c.requires.beside in
    record {
      p_bound = (
        rw c.sunk_at-q.ensures (fall_sum c.args.hour.now.fit c.args.i),
        rw (c.fallen_worth-v.ensures w b.side) (worth_abs b.sized _),
      );
    }

pub returns : goal.returns
returns c =
    let hour = c.args.hour.now in
    λ w b. c.lone.ensures
    ∙ rw (c.offered.ensures, c.fallen_worth-v.ensures w b.side, c.sunk_at-q.ensures)
    (chosen_fall hour.fit hour.fair b.sized c.args.i)
