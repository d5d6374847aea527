-- `padded::front` meets its contract: the entries before n are those of the array, and the others are untouched.
-- Assumes nothing.
use Rattle.std.proofs.Common.{◌≡◌, ◌∙◌, ap, refl, ℕ, ◌-◌, ◌<◌, ◌≤◌, Bool, true, false, cond, List, ◌++◌, length}
use Rattle.std.proofs.Common.{get_or, take, drop, arith, length-append, length-drop}
use Rattle.std.proofs.Math.ListN.{replicate, length-replicate, get_or-append}
use Rattle.std.proofs.lemmas.List.{length-take-le, get_or-take, get_or-append_right, drop-replicate, get_or-replicate}
use borrow.Author.Tests.{ltb-true, ltb-false}
use lib.Dec.{ltb}
use Rattle.cases.specs.Layout.{padded}
use Rattle.cases.proofs.LayoutLaws.{padded_by}
use Rattle.padded.proofs.front.Goals as goal

module _ {X : Type 0} (rest : X) (xs ys : List X) (n size : ℕ) where
  abbrev past : List X
  past = drop n (replicate size rest)

  front_padded : n ≤ size → n ≤ length xs → ys ≡ take n xs → ys ++ past ≡ padded rest (λ i. get_or xs i rest) n size
  front_padded room long is = padded_by rest rest _ n size (ys ++ past)
      (omega (arith, length-append ys past, length-drop n (replicate size rest), length-replicate size rest, front))
      (λ i h. at i h (ltb i n) refl)
    where
      front : length ys ≡ n
      front = ap length is ∙ length-take-le n xs long

      at : (i : ℕ) → i < size → (t : Bool) → ltb i n ≡ t → get_or (ys ++ past) i rest ≡ cond t (get_or xs i rest) rest
      at i h true e =
          let l : i < n = ltb-true i n e in
          get_or-append ys past rest i (omega (arith, front)) ∙ ap (λ (l : List X). get_or l i rest) is
          ∙ get_or-take n xs i rest l
      at i h false e =
          let l : n ≤ i = ltb-false i n e in
          get_or-append_right ys past n i rest front l
          ∙ ap (λ (l : List X). get_or l (i - n) rest) (drop-replicate n size rest)
          ∙ get_or-replicate (size - n) (i - n) rest rest (omega arith)

pub returns : goal.returns
returns g c =
    front_padded c.args.rest c.args.all.now c.copy_from_slice.new.self c.args.n g.row.N c.requires (omega arith)
    c.copy_from_slice.ensures.after
