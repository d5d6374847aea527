-- A test of a list's first entries, by the library's word and by the definitions': what stands for an entry past the
-- end passes. Assumes nothing.
use Rattle.std.proofs.Common.{◌≡◌, ◌+◌, ◌∙◌, refl, sym, ap, arith, ℕ, zero, suc, Bool, true, false, List, [], ◌∷◌}
use Rattle.std.proofs.Common.{get_or, take}
use mathlib.Core.Bool.{◌&&◌}
use Rattle.std.proofs.Math.Bool.{and-true}
use Rattle.std.specs.List.{list_all}
use Rattle.cases.specs.Symbols.{every}

-- a test before two that agree
after : (b s t u : Bool) → s ≡ (t && u) → (b && s) ≡ ((b && t) && u)
after true s t u e = e
after false s t u e = refl

module _ {X : Type 0} (p : X → Bool) (d : X) (ok : p d ≡ true) where
  all_more : (l : List X) (n : ℕ) → list_all p (take (suc n) l) ≡ (list_all p (take n l) && p (get_or l n d))
  all_more [] zero = sym ok
  all_more [] (suc n) = sym ok
  all_more (x ∷ l) zero = and-true (p x)
  all_more (x ∷ l) (suc n) = after (p x) _ _ _ (all_more l n)

  pub all_next : (l : List X) (n : ℕ) → list_all p (take (n + 1) l) ≡ (list_all p (take n l) && p (get_or l n d))
  all_next l n = let e : n + 1 ≡ suc n = omega arith in ap (λ m. list_all p (take m l)) e ∙ all_more l n

  pub all_every : (f : ℕ → Bool) (l : List X) → ((i : ℕ) → p (get_or l i d) ≡ f (suc i))
      → (n : ℕ) → list_all p (take n l) ≡ every f n
  unfolding every
  all_every f l e zero = refl
  all_every f l e (suc n) = all_more l n ∙ (λ j. all_every f l e n j && e n j)
