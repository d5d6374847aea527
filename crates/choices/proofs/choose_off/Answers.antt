-- Off-line the choice is to stay, and to start where the minimum down time is over. Assumes nothing.
use Rattle.std.proofs.Common.{◌≡◌, ℕ, ◌+◌, ◌≤◌, ◌<◌, min, get_or, pos, ap, ◌∙◌, arith, rules}
use Rattle.machine.specs.Coded.{coded}
use Rattle.machine.specs.Moves.{idle, Worths}
use Rattle.cells.specs.Table.{Beside}
use Rattle.choices.proofs.Chosen.{chosen_wait, chosen_off}
use Rattle.choices.proofs.choose_off.Goals as goal
use Rattle.choices.proofs.choose_off.Goals.{After-value_at-v}

-- what the cell of the hour after holds
stayed : (c : After-value_at-v) (w : Worths) → Beside c.args.hour.now.unit w c.args.side.now
    → c.value_at-v.result.0 ≡ coded (w (idle (min (c.args.d.0 + 1) c.args.hour.now.unit.mindown.0)))
stayed c w b =
    let u = c.args.hour.now.unit in
    let e : c.min-next.result.0 ≡ min (c.args.d.0 + 1) u.mindown.0 = search rules in
    let h = c.args.hour.now.fit.mindown_pos in
    c.value_at-v.ensures ∙ ap (λ (n : ℕ). get_or c.args.side.now n (pos 0)) e
    ∙ b.side.offs (min (c.args.d.0 + 1) u.mindown.0) (omega arith) (omega arith)

pub returns-then-lt : goal.returns-then-lt
returns-then-lt c =
    let hour = c.args.hour.now in
    let early : c.args.d.0 < hour.unit.mindown.0 = search rules in
    λ w b e. c.lone-stay.ensures
    ∙ rw (c.offered.ensures, stayed (goal.at.returns-then-lt c).After-value_at-v w b)
    (chosen_wait hour.fit hour.fair b.sized c.args.d early)

pub returns : goal.returns
returns c =
    let hour = c.args.hour.now in
    let over : hour.unit.mindown.0 ≤ c.args.d.0 = search rules in
    λ w b e. c.better.ensures
    ∙ rw (
      c.lone-stay.ensures,
      c.lone.ensures,
      c.offered.ensures,
      c.offered-2.ensures,
      stayed (goal.at.returns c).After-value_at-v w b,
      c.risen_worth-x.ensures w b.side e,
    )
    (chosen_off hour.fit hour.fair b.sized c.args.d over)
