-- No output where the hour is ordered off-line, else the scan of the window. Assumes nothing.
use Rattle.std.proofs.Common.{◌≡◌, ◌+◌, ◌≤◌, min, refl, ◌∙◌, arith, rules}
use Rattle.machine.specs.Moves.{lowest, reach}
use Rattle.cells.specs.Ahead.{tariff}
use Rattle.choices.proofs.Scanned.{row_held, across_none, across_scanned}
use Rattle.choices.proofs.across.Goals as goal
use Rattle.choices.proofs.across.Goals.{After-head_of}

-- the window
low : (c : After-head_of) → c.max-a.result.0 ≡ lowest c.args.hour.now.unit c.args.r.0
unfolding lowest
low c = search rules

top : (c : After-head_of)
    → c.plus-b.result.0 ≡ min (c.args.r.0 + c.args.hour.now.unit.rampup.0) c.args.hour.now.unit.capacity.0 + 1
top c = search rules

pub returns-then-hour-eq2 : goal.returns-then-hour-eq2
returns-then-hour-eq2 c =
    let hour = c.args.hour.now in
    let (lo, hi) = c.requires.minimum_le_r in
    λ w j x. c.nothing.ensures
    ∙ across_none hour.unit hour.fit (tariff hour) c.args.r.0 lo hi w j c.if-hour-eq2.true

pub scan-requires-clause-by_index : goal.scan-requires-clause-by_index
scan-requires-clause-by_index c =
    let hour = c.args.hour.now in
    let (w, j, x) = c.requires.by_index in
    let (lo, hi) = c.requires.minimum_le_r in
    let above : hour.unit.minimum.0 ≤ c.max-a.result.0 = search rules in
    let below : c.plus-b.result.0 ≤ hour.unit.capacity.0 + 1 =
    omega (arith, top (goal.at.scan-requires-clause-by_index c).After-head_of) in
    (_, row_held hour.unit hour.fit (tariff hour) c.args.r.0 lo hi w j hour.fair x.sized x.row _ _ above below)

pub returns : goal.returns
unfolding reach
returns c =
    let hour = c.args.hour.now in
    let (lo, hi) = c.requires.minimum_le_r in
    let above : hour.unit.minimum.0 ≤ c.max-a.result.0 = search rules in
    let h = (goal.at.returns c).After-head_of in
    let b = top h in
    let a = low h in
    let below : c.plus-b.result.0 ≤ hour.unit.capacity.0 + 1 = omega (arith, b) in
    λ w j x. c.scan.ensures _
    (row_held hour.unit hour.fit (tariff hour) c.args.r.0 lo hi w j hour.fair x.sized x.row _ _ above below)
    ∙ across_scanned hour.unit hour.fit (tariff hour) c.args.r.0 lo hi w j hour.fair x.sized c.if-hour-eq2.false
    _ _ _ a (rw (a, b) refl) c.head_of.ensures.0
