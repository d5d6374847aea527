-- The bytes of a number by the library's method, and a part of the lent bytes written over. Assumes nothing.
use Rattle.std.proofs.Common.{◌≡◌, ◌∙◌, refl, sym, ap, ℕ, ◌+◌, ◌-◌, ◌/◌, ◌%◌, ◌≤◌, List, [], ◌∷◌, ◌++◌}
use Rattle.std.proofs.Common.{append_assoc, take, drop, drop-drop, length, arith, ℤ, pos, negsuc}
use Rattle.std.proofs.lemmas.List.Edits.{sets, sets-eq}
use Rattle.std.specs.Int.{w16, w32, to_le_bytes, cast_unsigned}
use borrow.Rule.Slice.PartMut.{put_mid}
use Rattle.quantities.specs.Widths.{words}
use Rattle.cases.specs.Layout.{bytes, unsigned}

pub bytes_two : (n : ℕ) → to_le_bytes w16 n ≡ bytes 2 n
unfolding bytes
bytes_two n = refl

pub bytes_four : (n : ℕ) → to_le_bytes w32 n ≡ bytes 4 n
unfolding bytes
bytes_four n =
    let second : n / words ≡ n / 256 / 256 = omega arith in
    let third : n / 16777216 ≡ n / 256 / 256 / 256 = omega arith in
    λ i. n % 256 ∷ n / 256 % 256 ∷ second i % 256 ∷ third i % 256 ∷ []

pub unsigned_is : (z : ℤ) → cast_unsigned w32 z ≡ unsigned z
unfolding unsigned
unsigned_is (pos n) = refl
unsigned_is (negsuc n) = refl

pub written : (at k : ℕ) (xs ys zs : List ℕ) → ys ≡ zs → length zs ≡ k → at + k ≤ length xs
    → put_mid at (at + k - at) xs ys ≡ sets xs at zs
written at k xs ys zs e l room =
    ap (λ (m : ℕ). put_mid at m xs ys) (omega arith)
    ∙ ap (λ (s : List ℕ). take at xs ++ (s ++ drop k (drop at xs))) e
    ∙ ap (λ (r : List ℕ). take at xs ++ (zs ++ r)) (drop-drop k at xs ∙ ap (λ (m : ℕ). drop (at + m) xs) (sym l))
    ∙ sym (append_assoc (take at xs) zs _)
    ∙ sym (sets-eq zs xs at (omega (arith, l, room)))
