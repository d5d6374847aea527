-- A list that is filled from the front with the values of a function. Assumes nothing.
use mathlib.Core.Path.{◌≡◌, refl, sym, ap, ◌∙◌}
use mathlib.Core.Logic.{inl, inr}
use mathlib.Core.List.{List, [], ◌∷◌, ◌++◌}
use Prim.Native.Nat.{ℕ, zero, suc, ◌+◌, ◌<◌}
use native.Mathlib.Nat.{eq-or-lt_of_le, le_of_suc-le-suc, le_refl, le_trans, le-suc}
use native.Mathlib.Numerals.{add-one}
use native.Mathlib.Omega.{arith}
use lib.IntN.{ℤ, pos}
use lib.ListN.{length, get_or, set, drop, length-append, get_or-append}
use lib.Seq.{drop-cons, append_snoc, set_at, get_or_at}
use Rattle.curve.specs.Cost.{firsts}

pub firsts_length : (n : ℕ) (f : ℕ → ℕ) → length (firsts n f) ≡ n
firsts_length zero f = refl
firsts_length (suc n) f =
    length-append (firsts n f) (pos (f n) ∷ []) ∙ ap (λ (x : ℕ). x + 1) (firsts_length n f) ∙ add-one n

-- one more value in a list
pub firsts_more : (n : ℕ) (f : ℕ → ℕ) (l : List ℤ) → n < length l
    → set (firsts n f ++ drop n l) n (pos (f n)) ≡ firsts (n + 1) f ++ drop (n + 1) l
firsts_more n f l h =
    ap (λ (x : List ℤ). set (firsts n f ++ x) n (pos (f n))) (drop-cons l n (pos 0) h)
    ∙ set_at (firsts n f) (get_or l n (pos 0)) (drop (suc n) l) (pos (f n)) n (firsts_length n f)
    ∙ sym (append_snoc (firsts n f) (pos (f n)) (drop (suc n) l))
    ∙ ap (λ (x : ℕ). firsts x f ++ drop x l) (sym (add-one n))

-- what stands at a place
pub firsts_at : (n i : ℕ) (f : ℕ → ℕ) → i < n → get_or (firsts n f) i (pos 0) ≡ pos (f i)
firsts_at zero i f h = absurd (omega arith)
firsts_at (suc n) i f h =
    let last = pos (f n) ∷ [] in
    elim (eq-or-lt_of_le (le_of_suc-le-suc h)) [
      | inl e ↦
          ap (λ (j : ℕ). get_or (firsts n f ++ last) j (pos 0)) e
          ∙ get_or_at (firsts n f) (pos (f n)) [] (pos 0) n (firsts_length n f)
          ∙ ap (λ (j : ℕ). pos (f j)) (sym e)
      | inr k ↦
          let l : i < length (firsts n f) = omega (arith, firsts_length n f) in
          get_or-append (firsts n f) last (pos 0) i l ∙ firsts_at n i f k
    ]

-- equal values make equal lists
pub firsts_same : (n : ℕ) (f g : ℕ → ℕ) → ((i : ℕ) → i < n → f i ≡ g i) → firsts n f ≡ firsts n g
firsts_same zero f g h = refl
firsts_same (suc n) f g h =
    ap (λ (x : List ℤ). x ++ (pos (f n) ∷ [])) (firsts_same n f g (λ i k. h i (le_trans k (le-suc n))))
    ∙ ap (λ (x : ℕ). firsts n g ++ (pos x ∷ [])) (h n (le_refl (suc n)))
