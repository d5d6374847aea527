-- `costs::fill` meets its contract. Assumes nothing.
use Rattle.std.proofs.Common.{◌≡◌, ◌∙◌, ◌++◌, ℕ, ℤ, pos, List, ap, set, drop, arith}
use Rattle.curve.specs.Cost.{costs_length, entry_of, curved_of, firsts, table_of}
use Rattle.curve.proofs.FirstsLaws.{firsts_more}
use Rattle.costs.proofs.fill.Goals as goal

pub loop-n-preserved : goal.loop-n-preserved
loop-n-preserved c =
    let n = c.loop-n.n in
    let f = entry_of (curved_of c.args.curve) in
    c.store.ensures
    ∙ ap (λ (x : ℤ). set c.loop-n.table n x) c.entry_at.ensures
    ∙ ap (λ (t : List ℤ). set t n (pos (f n))) c.loop-n.invariant
    ∙ firsts_more n f c.args.table.now (omega arith)

pub returns : goal.returns
unfolding table_of
returns c =
    let e : c.loop-n.n ≡ costs_length = omega arith in
    c.loop-n.invariant ∙ ap (λ (x : ℕ). firsts x (entry_of (curved_of c.args.curve)) ++ drop x c.args.table.now) e
