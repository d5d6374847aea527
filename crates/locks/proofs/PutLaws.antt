-- A part of a list that is written over as a whole. Assumes nothing.
use Rattle.std.proofs.Common.{◌≡◌, ℕ, ◌+◌, ◌-◌, ◌≤◌, ◌<◌, List, length, get_or, take, arith, rules}
use Rattle.std.proofs.Common.{length-append, length-drop}
use Rattle.std.proofs.lemmas.Bool.{cases_lt}
use Rattle.std.proofs.lemmas.List.{places, length-take}
use mathlib.Core.Logic.{◌⊎◌, inl, inr}
use borrow.Rule.Slice.PartMut.{put_mid}
use Rattle.laws.specs.Placed.{Part, Outside}

module _ {A : Type 0} (d : A) (xs rs ys : List A) (off n k : ℕ) (e : k ≡ n) (room : off + n ≤ length xs)
    (long : n ≤ length rs) (same : ys ≡ take n rs) where
  beyond : (i : ℕ) → Outside i off 0 n → off ≤ i → (i < off + n) ⊎ (off + n ≤ i) → off + n ≤ i
  beyond i out h (inl l) = absurd (out (i - off) (omega arith) (omega arith) (omega arith))
  beyond i out h (inr l) = l

  beside : (i : ℕ) → Outside i off 0 n → (i < off) ⊎ (off ≤ i) → get_or (put_mid off k xs ys) i d ≡ get_or xs i d
  beside i out (inl h) = search (rules, places)
  beside i out (inr h) =
      let past : off + n ≤ i = beyond i out h (cases_lt i (off + n)) in
      search (rules, places)

  pub part_put : Part d xs (put_mid off k xs ys) off 0 n (λ i. get_or rs i d)
  part_put =
      record {
        long = simp (same, length-append, length-drop, length-take) (omega arith);
        done = λ i a b. search (rules, places);
        other = λ i out. beside i out (cases_lt i off);
      }
