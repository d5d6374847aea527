-- `profit::hour_profit` meets its contract: the margin times the energy, less the charges. Assumes nothing.
use Rattle.std.proofs.Common.{arith, ap, ◌+◌, ◌*◌, ◌<◌, ◌≤◌, ◌≡◌, ◌∙◌, ℕ, ℤ, pos, nat_abs, ◌*ℤ◌}
use native.Mathlib.Nat.{mul-le-mul}
use Rattle.quantities.specs.Widths.{words}
use Rattle.machine.specs.Bounds.{most_margin}
use Rattle.laws.proofs.Magnitude.{abs_sub, abs_mul}
use Rattle.profit.proofs.EarnedLaws.{hour_of}
use Rattle.profit.proofs.hour_profit.Goals as goal

most : (over : ℤ) {p q : ℕ} → nat_abs over ≤ most_margin → p < words → q < words
    → nat_abs over * (p + q) ≤ most_margin * (2 * words)
most over h a b = mul-le-mul {n₂ = most_margin} {m₂ = 2 * words} h (omega arith)

-- what the energy of an hour is worth
worth : (over : ℤ) {gain : ℤ} {p q : ℕ} → nat_abs over ≤ most_margin → p < words → q < words
    → gain ≡ over *ℤ pos (p + q)
    → nat_abs gain ≤ most_margin * (2 * words)
worth over {gain} {p} {q} h a b e = omega (arith, ap nat_abs e, abs_mul over (p + q), most over h a b)

pub multiple-gain-requires : goal.multiple-gain-requires
multiple-gain-requires c =
    let small = most c.args.over.0 {p = c.from.result} {q = c.from-2.result} c.requires (omega arith) (omega arith) in
    (omega arith, omega arith)

pub charge_of-requires : goal.charge_of-requires
charge_of-requires c =
    let m = c.marks_of.ensures in
    omega (arith, m.online.most, m.wasonline.most, m.start.most, m.stop.most)

pub difference-requires : goal.difference-requires
difference-requires c =
    let gain = worth c.args.over.0 c.requires (omega arith) (omega arith) c.multiple-gain.ensures in
    omega (arith, c.charge_of.ensures.most)

pub returns : goal.returns
returns c =
    let gain = worth c.args.over.0 c.requires (omega arith) (omega arith) c.multiple-gain.ensures in
    let net = abs_sub c.multiple-gain.result.0 c.charge_of.result.0 in
    let energy = c.multiple-gain.ensures
    ∙ ap (λ n. c.args.over.0 *ℤ pos (n + c.from-2.result)) c.from.ensures
    ∙ ap (λ n. c.args.over.0 *ℤ pos (c.args.p.0 + n)) c.from-2.ensures in
    λ l k h. record {
      is = c.difference.ensures ∙ hour_of h c.marks_of.ensures energy c.charge_of.ensures.is;
      most = omega (arith, ap nat_abs c.difference.ensures, c.charge_of.ensures.most);
    }
