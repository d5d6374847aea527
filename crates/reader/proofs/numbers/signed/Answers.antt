-- `reader::numbers::signed` meets its contract: bits of the upper half are those of a number below 0. Assumes nothing.
use Rattle.std.proofs.Common.{◌≡◌, ◌∙◌, sym, ap, ℕ, suc, ◌-◌, ◌≤◌, ◌<◌, refl, Bool, true, false, ℤ, pos, negsuc}
use Rattle.std.proofs.Common.{◌-ℤ◌, arith}
use borrow.Author.Tests.{ltb-true, ltb-false}
use lib.Dec.{ltb}
use mir.Syntax.{w32}
use mir.Val.{to_z, of_z}
use mir.Facts.{to_z_pos, to_z-neg, of_z-to_z}
use Rattle.laws.proofs.Signed.{up, down, parts_eq, parts_sub}
use Rattle.cases.specs.Limits.{longs, half_longs}
use Rattle.cases.specs.Layout.{signed}
use Rattle.cases.proofs.FormsLaws.{signed_low, signed_high}
use Rattle.reader.proofs.numbers.signed.Goals as goal

-- what a number of 32 bits stands for
signed_is : (n : ℕ) → n < longs → to_z w32 n ≡ signed n
unfolding up down
signed_is n fits = go (ltb n half_longs) refl
  where
    go : (t : Bool) → ltb n half_longs ≡ t → to_z w32 n ≡ signed n
    go true e = let low : n < half_longs = ltb-true n half_longs e in to_z_pos w32 low ∙ sym (signed_low n low)
    go false e =
        let k : ℕ = longs - suc n in
        let high : half_longs ≤ n = ltb-false n half_longs e in
        let back : n ≡ longs - suc k = omega arith in
        let below : negsuc k ≡ pos n -ℤ pos longs =
        parts_eq (negsuc k) (pos n -ℤ pos longs) (omega (arith, parts_sub (pos n) (pos longs))) in
        ap (to_z w32) back ∙ to_z-neg w32 k (omega arith) ∙ below ∙ sym (signed_high n high)

pub returns : goal.returns
returns c =
    ap (λ (z : ℤ). to_z w32 (of_z w32 z)) c.cast_signed.ensures
    ∙ ap (to_z w32) (of_z-to_z c.ranges.bits)
    ∙ signed_is c.args.bits c.ranges.bits.fits
