-- The marks of the hours that windows hold: between two places of a day those of one window, and hour by hour those
-- of a list. Assumes nothing.
use mathlib.Core.Path.{◌≡◌, refl, sym, ◌∙◌}
use mathlib.Core.Bool.{Bool, true, false, ◌&&◌, ◌||◌, cond}
use mathlib.Core.List.{List, [], ◌∷◌, ◌++◌}
use Prim.Native.Nat.{ℕ, ◌+◌, ◌-◌, ◌≤◌, ◌<◌, min}
use native.Mathlib.Omega.{arith}
use borrow.Author.Tests.{lt-ltb}
use lib.Dec.{ltb}
use lib.ListN.{length, get_or, take, drop, replicate}
use lib.Seq.{ext_get_or}
use Rattle.std.proofs.lemmas.Bool.Decides.{nat_tests}
use Rattle.std.proofs.lemmas.Grind.{common_steps}
use Rattle.std.proofs.lemmas.List.{get_or-append_right, get_or_append_left, get_or-take, get_or-drop, get_or-replicate}
use Rattle.std.proofs.lemmas.List.{length-append, length-drop, length-replicate, length-take-le}
use Rattle.cases.specs.Limits.{most_hours}
use Rattle.cases.specs.Layout.{listed}
use Rattle.model.specs.Calendar.{spans, covers}
use Rattle.cases.proofs.LayoutLaws.{length_listed, get_d_listed}
use Rattle.orders.specs.Marked.{marked, overlaid}

-- a list with one number at m places from a on, in place of its own
module _ (xs : List ℕ) (a m mark : ℕ) (room : a + m ≤ length xs) where
  long_between : length (take a xs ++ (replicate m mark ++ drop m (drop a xs))) ≡ length xs
  long_between = grind (arith, common_steps, length-append, length-drop, length-replicate, length-take-le)

  inside : (i : ℕ) → a ≤ i → i < a + m → get_or (take a xs ++ (replicate m mark ++ drop m (drop a xs))) i 0 ≡ mark
  inside i p q =
      grind (arith, get_or-append_right, get_or_append_left, get_or-replicate, length-replicate, length-take-le)

  below : (i : ℕ) → i < a → get_or (take a xs ++ (replicate m mark ++ drop m (drop a xs))) i 0 ≡ get_or xs i 0
  below i p = grind (arith, get_or_append_left, get_or-take, length-take-le)

  above : (i : ℕ) → a + m ≤ i → get_or (take a xs ++ (replicate m mark ++ drop m (drop a xs))) i 0 ≡ get_or xs i 0
  above i p = grind (arith, get_or-append_right, get_or-drop, length-replicate, length-take-le)

-- the places of the hours of a day that a window holds
module _ (day hours mark first n : ℕ) (room : hours ≤ most_hours) (xs : List ℕ) (long : length xs ≡ most_hours)
    (a m : ℕ) (begin : a ≡ min (first - day) hours) (end : a + m ≡ min (first + n - day) hours) where
  at : (i : ℕ) → get_or (take a xs ++ (replicate m mark ++ drop m (drop a xs))) i 0
      ≡ cond (ltb i hours && spans first n (day + i)) mark (get_or xs i 0)
  unfolding spans
  at i =
      let fit : a + m ≤ length xs = omega arith in
      grind (arith, nat_tests, inside, below, above)

  pub marked_between : take a xs ++ (replicate m mark ++ drop m (drop a xs)) ≡ marked day hours mark first n xs
  unfolding marked
  marked_between =
      let f : ℕ → ℕ = λ i. cond (ltb i hours && spans first n (day + i)) mark (get_or xs i 0) in
      let same = long_between xs a m mark (omega arith) ∙ long in
      ext_get_or 0 (take a xs ++ (replicate m mark ++ drop m (drop a xs))) (listed f most_hours)
      (same ∙ sym (length_listed f most_hours))
      (λ i h. at i ∙ sym (get_d_listed f 0 most_hours i (omega (arith, same))))

-- the mark of an hour of the day, with the windows of a list
module _ (day hours mark : ℕ) (room : hours ≤ most_hours) (i : ℕ) (h : i < hours) where
  get_d_marked : (first n : ℕ) (marks : List ℕ)
      → get_or (marked day hours mark first n marks) i 0 ≡ cond (spans first n (day + i)) mark (get_or marks i 0)
  unfolding marked
  get_d_marked first n marks =
      get_d_listed (λ i. cond (ltb i hours && spans first n (day + i)) mark (get_or marks i 0)) 0 most_hours i
      (omega arith)
      ∙ rw (lt-ltb i hours h) refl

  pub get_d_overlaid : (l marks : List ℕ)
      → get_or (overlaid day hours mark l marks) i 0 ≡ cond (covers l (day + i)) mark (get_or marks i 0)
  unfolding overlaid covers
  get_d_overlaid [] marks = refl
  get_d_overlaid (first ∷ []) marks = refl
  get_d_overlaid (first ∷ n ∷ l) marks =
      get_d_overlaid l (marked day hours mark first n marks)
      ∙ rw (get_d_marked first n marks) (go (spans first n (day + i)) (covers l (day + i)))
    where
      go : (s t : Bool) → cond t mark (cond s mark (get_or marks i 0)) ≡ cond (s || t) mark (get_or marks i 0)
      go true true = refl
      go true false = refl
      go false t = refl
