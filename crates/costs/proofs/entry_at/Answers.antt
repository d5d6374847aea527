-- `costs::entry_at` meets its contract: the cost is a number whose pattern `round_bits` takes, and the entry fits.
-- Assumes nothing.
use Rattle.std.proofs.Common.{◌≡◌, sym, ap, ◌∙◌, ℕ, ◌≤◌, ◌<◌, ◌^◌, pos}
use mathlib.Core.Path.{subst}
use mathlib.Core.Bool.{not}
use native.Mathlib.Nat.{lt_of_le_of_lt}
use lib.Dec.{T, lit<}
use lib.Ieee.{Float, binary64, is_nan, to_bits}
use mir.Syntax.{w64}
use mir.ValLaws.{to_z_pos}
use Rattle.curve.specs.Pattern.{sign_place, scale, field_of, whole_of}
use Rattle.curve.specs.Cost.{most_cost, curved_of, entry_of}
use Rattle.curve.proofs.CostLaws.{curved_fits, good, cost_number, cost_field, entry_most}
use Rattle.costs.proofs.entry_at.Goals as goal
use Rattle.costs.proofs.entry_at.Goals.{After-round_bits-whole}

-- what `round_bits` gives is the entry
entry_is : (c : After-round_bits-whole) → c.round_bits-whole.result ≡ entry_of (curved_of c.args.curve) c.args.n
unfolding entry_of
entry_is c = c.round_bits-whole.ensures ∙ ap (λ (x : Float). whole_of (to_bits binary64 x)) c.cost_at-cost.ensures

small : (c : After-round_bits-whole) → c.round_bits-whole.result < 2 ^ sign_place
small c =
    let k = curved_of c.args.curve in
    let held = curved_fits c.args.curve.a c.args.curve.b c.args.curve.c c.args.n in
    let l : most_cost < 2 ^ sign_place = lit< tt in
    lt_of_le_of_lt (subst (λ (x : ℕ). x ≤ most_cost) (sym (entry_is c))
    (entry_most k c.args.n held (good k c.requires.0) c.requires.1)) l

pub float_to_bits-bits : goal.float_to_bits-bits
float_to_bits-bits c =
    let k = curved_of c.args.curve in
    let held = curved_fits c.args.curve.a c.args.curve.b c.args.curve.c c.args.n in
    subst (λ (x : Float). T (not (is_nan x))) (sym c.cost_at-cost.ensures)
    (cost_number k c.args.n held (good k c.requires.0) c.requires.1)

pub round_bits-whole-requires : goal.round_bits-whole-requires
round_bits-whole-requires c =
    let k = curved_of c.args.curve in
    let held = curved_fits c.args.curve.a c.args.curve.b c.args.curve.c c.args.n in
    subst (λ (x : Float). field_of (to_bits binary64 x) ≤ scale) (sym c.cost_at-cost.ensures)
    (cost_field k c.args.n held (good k c.requires.0) c.requires.1)

pub overflow_cast-result : goal.overflow_cast-result
overflow_cast-result c = record { sfits = small (goal.at.overflow_cast-result c).After-round_bits-whole }

pub returns : goal.returns
returns c =
    let made = (goal.at.returns c).After-round_bits-whole in
    to_z_pos w64 c.round_bits-whole.result (small made) ∙ ap pos (entry_is made)
