-- Laws of a text that is put at a place: nothing, one byte more, and one text after the other. Assumes nothing.
use mathlib.Core.Path.{◌≡◌, refl, sym, ap, ◌∙◌}
use mathlib.Core.List.{List, [], ◌++◌}
use Prim.Native.Nat.{ℕ, ◌+◌, ◌≤◌}
use native.Mathlib.Nat.{add-zero}
use native.Mathlib.Omega.{arith}
use lib.ListN.{length, take, drop, length-append}
use lib.Seq.{sets, length-sets, take_at}
use Rattle.cases.proofs.SetsLaws.{sets_next, sets_front}
use Rattle.lines.specs.Puts.{Puts}

pub puts_none : (l : List ℕ) (at : ℕ) → Puts l at [] l at
puts_none l at = record { bytes = refl; place = sym (add-zero at) }

-- where both have room, the first has it
pub room_first : (xs ys : List ℕ) (at n : ℕ) → at + length (xs ++ ys) ≤ n → at + length xs ≤ n
room_first xs ys at n h = omega (arith, length-append xs ys)

module _ {l l₁ : List ℕ} {at n : ℕ} (xs ys : List ℕ) (a : Puts l at xs l₁ n) where
  -- one text after the other
  pub puts_then : {l₂ : List ℕ} {m : ℕ} → Puts l₁ n ys l₂ m → Puts l at (xs ++ ys) l₂ m
  puts_then b =
      record {
        bytes = sets_next l xs ys at (length xs) refl a.bytes (b.bytes ∙ ap (λ k. sets l₁ k ys) a.place);
        place = omega (arith, a.place, b.place, length-append xs ys);
      }

  -- and the second, after the first
  pub room_then : at + length (xs ++ ys) ≤ length l → n + length ys ≤ length l₁
  room_then h =
      let e : length l₁ ≡ length l = ap length a.bytes ∙ length-sets l at xs in
      omega (arith, a.place, length-append xs ys)

-- a text that was put from the front
pub puts_front : {l after : List ℕ} {n : ℕ} (text : List ℕ) → Puts l 0 text after n → length text ≤ length l
    → take n after ≡ text
puts_front {l} {after} {n} text a h =
    let e : length text ≡ n = omega (arith, a.place) in
    ap (take n) (a.bytes ∙ sets_front text l h) ∙ take_at text (drop (length text) l) n e
