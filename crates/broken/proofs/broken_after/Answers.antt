-- `broken::broken_after` meets its contract: rule 21 is the only one that is tested above T. Assumes nothing.
use Rattle.std.proofs.Common.{sym, ◌∙◌}
use Rattle.day.proofs.BreachLaws.{rule21_is, broken_of_none, broken_at_after}
use Rattle.broken.proofs.FirstLaws.{rest, next, tried}
use Rattle.broken.proofs.NumbersLaws.{timed}
use Rattle.broken.proofs.broken_after.Goals as goal

pub returns : goal.returns
returns c =
    let case = c.args.case.now in
    λ l k late mark held.
    let test = c.kept_time.ensures ∙ timed case.minup.0 mark held.is ∙ sym (rule21_is case l k) in
    tried (next c.first.ensures test (rest (sym (broken_of_none k)))) ∙ sym (broken_at_after case l k late)
