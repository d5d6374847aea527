-- `best::wipe::clear` meets its contract: the first n numbers are filled with 0. Assumes nothing.
use Rattle.std.proofs.Common.{arith, ap, ◌≡◌, ◌++◌, ◌∙◌, pos, length, take, drop, replicate, length-take}
use Rattle.model.specs.Answers.{cleared}
use Rattle.best.proofs.wipe.clear.Goals as goal

pub returns : goal.returns
unfolding cleared
returns c =
    let work = c.args.work.now in
    let e : length (take c.args.n work) ≡ c.args.n = omega (arith, length-take c.args.n work) in
    ap (λ l. l ++ drop c.args.n work) (c.fill.ensures.after (λ y z. z) ∙ ap (λ k. replicate k (pos 0)) e)
