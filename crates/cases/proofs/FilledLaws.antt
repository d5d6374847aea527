-- Laws of an array that a loop fills from the front: no entry yet, one more, and all of them. Assumes nothing.
use mathlib.Core.Path.{◌≡◌, refl, sym, ap, ◌∙◌}
use mathlib.Core.Bool.{Bool, true, false, cond}
use mathlib.Core.Logic.{⊎_elim}
use mathlib.Core.List.{List}
use Prim.Native.Nat.{ℕ, ◌+◌, ◌≤◌, ◌<◌}
use native.Mathlib.Nat.{eq-or-lt_of_le}
use native.Mathlib.Omega.{arith}
use lib.Dec.{ltb}
use lib.ListN.{length, get_or, set, replicate, length-set, length-replicate, get_or-replicate}
use lib.Seq.{get_or-set_same, get_or-set_other}
use borrow.Author.Tests.{lt-ltb, le-ltb, ltb-true, ltb-false}
use Rattle.cases.specs.Layout.{padded}
use Rattle.cases.proofs.LayoutLaws.{length_padded, get_d_padded_in, get_d_padded_past, padded_by}

module _ {X : Type 0} (rest : X) (f : ℕ → X) where
  padded_start : (size : ℕ) → replicate size rest ≡ padded rest f 0 size
  padded_start size =
      padded_by rest rest f 0 size (replicate size rest) (length-replicate size rest)
      (λ i h. get_or-replicate size i rest rest h ∙ ap (λ t. cond t (f i) rest) (sym (le-ltb i 0 (omega arith))))

  -- entry n becomes f n
  padded_more : (n size : ℕ) (x : X) → n < size → x ≡ f n → set (padded rest f n size) n x ≡ padded rest f (n + 1) size
  padded_more n size x h e =
      padded_by rest rest f (n + 1) size (set xs n x) (length-set xs n x ∙ length_padded rest f n size)
      (λ i l. split i (ltb i n) refl l)
    where
      xs : List X
      xs = padded rest f n size

      split : (i : ℕ) (t : Bool) → ltb i n ≡ t → i < size → get_or (set xs n x) i rest ≡ cond (ltb i (n + 1)) (f i) rest
      split i true below l =
          let q : i < n = ltb-true i n below in
          rw (lt-ltb i (n + 1) (omega arith))
          (get_or-set_other xs n i x rest (λ z. omega arith) ∙ get_d_padded_in rest f n size rest i q l)
      split i false above l =
          ⊎_elim
          (λ q. rw (← q, lt-ltb n (n + 1) (omega arith))
          (get_or-set_same xs n x rest (omega (arith, length_padded rest f n size)) ∙ e))
          (λ q. rw (le-ltb i (n + 1) (omega arith))
          (get_or-set_other xs n i x rest (λ z. omega arith) ∙ get_d_padded_past rest f n size rest i (omega arith) l))
          (eq-or-lt_of_le (ltb-false i n above))

  padded_step : {xs : List X} (n size : ℕ) (x : X) → xs ≡ padded rest f n size → n < size → x ≡ f n
      → set xs n x ≡ padded rest f (n + 1) size
  padded_step n size x e h q = ap (λ t. set t n x) e ∙ padded_more n size x h q

  padded_end : {xs : List X} (i n size : ℕ) → xs ≡ padded rest f i size → i ≡ n → xs ≡ padded rest f n size
  padded_end i n size e q = e ∙ ap (λ k. padded rest f k size) q

-- i of the n entries that f gives are in place, in an array of `size`; past them stands `rest`
pub record Filled {X : Type 0} (rest : X) (f : ℕ → X) (n size : ℕ) (xs : List X) (i : ℕ) : Type 0 where
  pub few : i ≤ n
  pub long : length xs ≡ size
  pub holds : xs ≡ padded rest f i size

module _ {X : Type 0} (rest : X) (f : ℕ → X) (n size : ℕ) where
  pub filled_start : Filled rest f n size (replicate size rest) 0
  filled_start = record { few = omega arith; long = length-replicate size rest; holds = padded_start rest f size }

  pub filled_step : {xs : List X} {i : ℕ} (x : X) → Filled rest f n size xs i → i < n → n ≤ size → x ≡ f i
      → Filled rest f n size (set xs i x) (i + 1)
  filled_step {xs} {i} x p h room e =
      record {
        few = omega arith;
        long = length-set xs i x ∙ p.long;
        holds = padded_step rest f i size x p.holds (omega arith) e;
      }

  pub filled_end : {xs : List X} {i : ℕ} → Filled rest f n size xs i → n ≤ i → xs ≡ padded rest f n size
  filled_end {xs} {i} p h = padded_end rest f i n size p.holds (omega arith)
