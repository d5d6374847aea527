-- A list that is written place by place, in either direction. Assumes nothing.
use mathlib.Core.Path.{◌≡◌, refl, sym, ap, ◌∙◌}
use mathlib.Core.Logic.{⊎_elim}
use mathlib.Core.List.{List}
use Prim.Native.Nat.{ℕ, ◌+◌, ◌≤◌, ◌<◌}
use native.Mathlib.Omega.{arith}
use native.Mathlib.Nat.{eq-or-lt_of_le}
use lib.ListN.{length, get_or, set, length-set}
use lib.Seq.{get_or-set_same, get_or-set_other}
use Rattle.laws.specs.Placed.{Part}

module _ {A : Type 0} (d : A) where
  pub part_start : (xs : List A) (at a b : ℕ) (v : ℕ → A) → b ≤ a → Part d xs xs at a b v
  part_start xs at a b v h = record { long = refl; done = λ k l m. absurd (omega arith); other = λ k off. refl }

  -- one place is written, and every other is as it was
  module _ (ys : List A) (at : ℕ) (x : A) (room : at < length ys) where
    here : (k : ℕ) → k ≡ at → get_or (set ys at x) k d ≡ x
    here k e = rw e (get_or-set_same ys at x d room)

    there : (k : ℕ) → (k ≡ at → ⊥) → get_or (set ys at x) k d ≡ get_or ys k d
    there k n = get_or-set_other ys at k x d n

  module _ {xs ys : List A} {at a b : ℕ} {v : ℕ → A} (x : A) where
    pub part_up : Part d xs ys at a b v → a ≤ b → at + b < length xs → x ≡ v b
        → Part d xs (set ys (at + b) x) at a (b + 1) v
    part_up p h room e =
        let r : at + b < length ys = omega (arith, p.long) in
        record {
          long = length-set ys (at + b) x ∙ p.long;
          done = λ k l m. ⊎_elim
              (λ q. here ys (at + b) x r (at + k) (omega arith) ∙ e ∙ ap v (sym q))
              (λ q. there ys (at + b) x r (at + k) (λ z. omega arith) ∙ p.done k l q)
              (eq-or-lt_of_le (let w : k ≤ b = omega arith in w));
          other = λ k off. there ys (at + b) x r k (off b h (omega arith))
              ∙ p.other k (λ j l m. off j l (omega arith));
        }

    pub part_down : Part d xs ys at (a + 1) b v → a < b → at + a < length xs → x ≡ v a
        → Part d xs (set ys (at + a) x) at a b v
    part_down p h room e =
        let r : at + a < length ys = omega (arith, p.long) in
        record {
          long = length-set ys (at + a) x ∙ p.long;
          done = λ k l m. ⊎_elim
              (λ q. here ys (at + a) x r (at + k) (omega arith) ∙ e ∙ ap v q)
              (λ q. there ys (at + a) x r (at + k) (λ z. omega arith) ∙ p.done k (omega arith) m)
              (eq-or-lt_of_le l);
          other = λ k off. there ys (at + a) x r k (off a (omega arith) h)
              ∙ p.other k (λ j l m. off j (omega arith) m);
        }
