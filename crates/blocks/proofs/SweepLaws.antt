-- A row that is filled block by block, and what it holds once it is settled. Assumes nothing.
use mathlib.Core.Path.{◌≡◌, refl, sym, ap, ◌∙◌}
use mathlib.Core.Bool.{Bool, true, false, cond}
use mathlib.Core.List.{List}
use Prim.Native.Nat.{ℕ, ◌+◌, ◌-◌, ◌≤◌, ◌<◌, min}
use native.Mathlib.Omega.{arith}
use borrow.Author.Tests.{ltb-true, ltb-false, lt-ltb, le-ltb}
use lib.Dec.{ltb}
use lib.IntN.{ℤ, pos, nat_abs}
use lib.ListN.{get_or}
use lib.Signed.{lt_z}
use Rattle.laws.specs.Range.{larger, largest}
use Rattle.laws.proofs.RangeLaws.{over_all, over_same, largest_clip}
use Rattle.machine.specs.Bounds.{most_energy}
use Rattle.machine.specs.Coded.{missing}
use Rattle.window.specs.Rows.{Written, cells, sloped, settled, Sized}
use Rattle.window.proofs.RowLaws.{written_in}
use Rattle.blocks.specs.Offers.{Bent, offered, offer_room}
use Rattle.blocks.specs.Sweeps.{reduced, Swept}
use Rattle.blocks.specs.Cuts.{top_of, Topped}
use Rattle.blocks.proofs.OfferLaws.{Ready, offered_abs}

-- two pieces that meet
pub written_join : {xs ys zs : List ℤ} {b c : ℕ} {v : ℕ → ℤ} → Written xs ys 0 b v → Written ys zs b c v → b ≤ c
    → Written xs zs 0 c v
written_join {zs = zs} {b} {c} {v} w u h =
    record {
      long = u.long ∙ w.long;
      done = λ k l m. go k l m (ltb k b) refl;
      other = λ k off. u.other k (λ j l m. off j (omega arith) m) ∙ w.other k (λ j l m. off j l (omega arith));
    }
  where
    go : (k : ℕ) → 0 ≤ k → k < c → (t : Bool) → ltb k b ≡ t → get_or zs (0 + k) (pos 0) ≡ v k
    go k l m true e =
        let i = ltb-true k b e in
        u.other (0 + k) (λ j p q r. omega arith) ∙ w.done k l i
    go k l m false e = u.done k (ltb-false k b e) m

-- the row can offer to its last place
pub sized_ready : {xs costs : List ℤ} (base : ℕ) {n rd ru : ℕ} {first slope : ℤ} → Sized xs n rd ru first slope
    → Bent costs → base + (n + n) ≤ most_energy + 2 → 0 < n → Ready xs costs (base + (n - 1)) n
sized_ready base z b m h = record { long = z.long; roomy = z.roomy; reach = omega arith; bent = b }

-- ---- from the most to the answer
larger_abs : (m : ℕ) (a b : ℤ) → nat_abs a ≤ m → nat_abs b ≤ m → nat_abs (larger a b) ≤ m
unfolding larger
larger_abs m a b h l = go (lt_z a b)
  where
    go : (t : Bool) → nat_abs (cond t b a) ≤ m
    go true = l
    go false = h

-- past the row nothing is offered
module _ (xs costs : List ℤ) (base n rd ru i : ℕ) where
  pub reduced_in : (q : ℕ) → q < n → reduced xs costs base n i q ≡ offered xs costs (base + i) q
  unfolding reduced
  reduced_in q h = simp (lt-ltb q n h)

  pub reduced_past : (q : ℕ) → n ≤ q → reduced xs costs base n i q ≡ missing
  unfolding reduced
  reduced_past q h = simp (le-ltb q n h)

  reduced_top : i < n → largest missing (reduced xs costs base n i) (i - rd) (i + ru + 1)
      ≡ top_of xs costs base n rd ru i
  reduced_top h =
      largest_clip missing (reduced xs costs base n i) n (i - rd) (i + ru + 1) reduced_past (omega arith)
      ∙ over_same larger missing (reduced xs costs base n i) (offered xs costs (base + i)) (i - rd)
      (min (i + ru + 1) n - (i - rd)) (λ j l m. reduced_in j (omega arith))

module _ {xs ys costs : List ℤ} (base : ℕ) {n rd ru : ℕ} {first slope : ℤ} (z : Sized xs n rd ru first slope)
    (w : Written xs ys 0 n (top_of xs costs base n rd ru)) where
  pub filled_topped : Bent costs → base + (n + n) ≤ most_energy + 2 → Topped ys n
  filled_topped b m =
      record {
        top_le = λ i h. rw (written_in w i (omega arith) h)
            (over_all (λ v. nat_abs v ≤ offer_room) (omega arith) (larger_abs offer_room)
            (offered xs costs (base + i)) (i - rd) (min (i + ru + 1) n - (i - rd))
            (λ j l o. offered_abs (sized_ready base z b m (omega arith)) (base + i) j (omega arith)));
      }

  -- the row is settled
  pub filled_swept : {zs : List ℤ} → Written ys zs 0 n (λ k. settled (sloped first slope k) (cells ys k))
      → Swept xs zs costs base n rd ru first slope
  filled_swept u =
      record {
        long = u.long ∙ w.long;
        at = λ i h. written_in u i (omega arith) h
            ∙ ap (settled (sloped first slope i))
            (written_in w i (omega arith) h ∙ sym (reduced_top xs costs base n rd ru i h));
      }
