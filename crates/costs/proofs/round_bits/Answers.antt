-- `costs::round_bits` meets its contract: below a half it is 0, and else the digits under a leading one are divided by
-- a power of two. Assumes nothing.
use Rattle.std.proofs.Common.{◌≡◌, sym, ap, ◌∙◌, ℕ, ◌+◌, ◌-◌, ◌/◌, ◌^◌, arith}
use mathlib.Core.Path.{ap₂}
use Rattle.std.specs.Float.Ieee.Nearest.{closest}
use Rattle.curve.specs.Pattern.{fraction_digits, scale, field_of, fraction_of}
use Rattle.curve.proofs.PatternLaws.{whole_small, whole_divided}
use Rattle.costs.proofs.round_bits.Goals as goal

pub returns-then-field : goal.returns-then-field
returns-then-field c =
    let field : c.low-field.result / 2 ^ fraction_digits ≡ field_of c.args.bits =
    ap (λ (x : ℕ). x / 2 ^ fraction_digits) c.low-field.ensures in
    sym (whole_small c.args.bits (omega (arith, field, c.if-field.true)))

pub returns : goal.returns
returns c =
    let b = c.args.bits in
    let field : c.low-field.result / 2 ^ fraction_digits ≡ field_of b =
    ap (λ (x : ℕ). x / 2 ^ fraction_digits) c.low-field.ensures in
    let digits : 2 ^ fraction_digits + c.low.result ≡ 2 ^ fraction_digits + fraction_of b =
    omega (arith, c.low.ensures) in
    c.nearest.ensures
    ∙ ap₂ (λ (x y : ℕ). closest x (2 ^ (scale + 1 - y))) digits field
    ∙ sym (whole_divided b (omega (arith, field, c.if-field.false)) c.requires)
