-- From place to place of the part, all before z.
use Rattle.std.proofs.Common.{◌≡◌, arith}
use Rattle.window.proofs.SlideLaws.{
  sliding_long,
  sliding_floor,
  sliding_answer,
  sliding_line,
  sliding_on,
  carried_step,
}
use Rattle.money.proofs.OrderLaws.{larger_swapped}
use Rattle.window.proofs.pass.Goals as goal

pub taken-next-requires-clause-n_in_bounds : goal.taken-next-requires-clause-n_in_bounds
taken-next-requires-clause-n_in_bounds c =
    let s = sliding_on c.loop-i.invariant c.requires.sliding in
    (sliding_long s, sliding_floor s)

pub settle-requires : goal.settle-requires
settle-requires c =
    let s = sliding_on c.loop-i.invariant c.requires.sliding in
    rw (larger_swapped c.loop-i.top c.suffix_at-before.result c.max.ensures, c.suffix_at-before.ensures)
    (sliding_answer s (omega (arith, c.up_to-e.ensures, c.up_to.ensures, c.loop-i-test.true)))

pub after-amount-requires : goal.after-amount-requires
after-amount-requires c =
    let s = sliding_on c.loop-i.invariant c.requires.sliding in
    sliding_line s (omega (arith, c.up_to-e.ensures, c.up_to.ensures, c.loop-i-test.true))

pub loop-i-preserved : goal.loop-i-preserved
loop-i-preserved c =
    rw c.store.ensures
    (carried_step c.loop-i.invariant _ _ _
    (omega (arith, c.up_to-e.ensures, c.up_to.ensures, c.loop-i-test.true))
    (cc (
      c.settle.ensures,
      larger_swapped c.loop-i.top c.suffix_at-before.result c.max.ensures,
      c.suffix_at-before.ensures,
    ))
    c.taken-next.ensures c.after-amount.ensures)

pub returns-clause-carried : goal.returns-clause-carried
returns-clause-carried c =
    let e : c.loop-i.i ≡ c.up_to-e.result = omega (arith, c.up_to-e.ensures) in
    rw (← e) c.loop-i.invariant
