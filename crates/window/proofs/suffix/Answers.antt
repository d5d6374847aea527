-- From the end of the row or of the block back to place b.
use Rattle.std.proofs.Common.{◌≡◌, ◌+◌, ◌-◌, arith}
use Rattle.window.proofs.SuffixLaws.{suffixes_start, suffixes_step, suffixes_end}
use Rattle.money.proofs.OrderLaws.{larger_swapped}
use Rattle.window.proofs.suffix.Goals as goal

pub loop-i-init : goal.loop-i-init
loop-i-init c = suffixes_start c.none-top.ensures c.min-i.ensures

pub loop-i-preserved : goal.loop-i-preserved
loop-i-preserved c =
    let l = c.loop-i in
    let e : l.i ≡ l.i - 1 + 1 = omega arith in
    rw c.store.ensures
    (suffixes_step _ (omega (arith, c.requires)) (rw e at l.invariant) (omega arith)
    (cc (larger_swapped l.top c.value_at.result c.max-top.ensures, c.value_at.ensures)))

pub returns : goal.returns
returns c = suffixes_end c.loop-i.invariant (omega arith)
