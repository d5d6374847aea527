-- `broken::broken_at` meets its contract: each group stands before those after it. Assumes nothing.
use Rattle.std.proofs.Common.{sym, ap, ◌∙◌}
use Rattle.day.specs.Rules.{broken_of}
use Rattle.day.proofs.BreachLaws.{broken_at_inside, day_rules_are}
use Rattle.broken.specs.Groups.{ramp, commitment, overlap, terms}
use Rattle.broken.proofs.broken_at.Goals as goal

pub returns : goal.returns
returns c =
    let case = c.args.hour.now.counts.case.now.case in
    let l = c.args.hour.now.counts.list.now in
    let k = c.args.hour.now.hour.0 in
    λ some inside e o.
    let last = overlap case l (terms case l) in
    let middle = commitment case l last in
    c.broken_limit.ensures (ramp case l middle)
    (c.broken_ramp-ramp.ensures middle
    (c.broken_commitment-commitment.ensures last
    (c.broken_overlap-overlap.ensures (terms case l) (c.broken_terms-terms.ensures e o))))
    ∙ ap (broken_of k) (sym (day_rules_are case l)) ∙ sym (broken_at_inside case l k some inside)
