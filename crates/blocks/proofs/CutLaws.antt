-- What a block leaves out is no better than what it looks at, for each place of the block; so the most that its window
-- offers is among the rest. Assumes nothing.
use mathlib.Core.Path.{◌≡◌, refl, subst}
use mathlib.Core.Bool.{Bool, true, false}
use mathlib.Core.Logic.{◌⊎◌, inl, inr}
use mathlib.Core.List.{List}
use Prim.Native.Nat.{ℕ, ◌+◌, ◌-◌, ◌≤◌, ◌<◌, min}
use native.Mathlib.Omega.{arith}
use borrow.Author.Tests.{ltb-true, ltb-false}
use lib.Dec.{ltb}
use lib.IntN.{ℤ, pos, ◌-ℤ◌}
use lib.Signed.{◌≤ℤ◌, ≤ℤ_refl}
use Rattle.laws.proofs.Signed.{linear, parts_sub, parts_pos, le_z_trans}
use Rattle.laws.proofs.RangeLaws.{larger_of_ge, largest_floor, largest_empty, largest_join}
use Rattle.machine.specs.Coded.{missing}
use Rattle.blocks.specs.Offers.{slack, offered}
use Rattle.blocks.specs.Cuts.{most_of, top_of, Offers, Under, parts_of, Enough}
use Rattle.blocks.proofs.OfferLaws.{Ready, ready_less, worse_up, worse_down}
use Rattle.blocks.proofs.TopLaws.{Matched, largest_part}

lt_or_ge : (k b : ℕ) → (k < b) ⊎ (b ≤ k)
lt_or_ge k b = go (ltb k b) refl
  where
    go : (t : Bool) → ltb k b ≡ t → (k < b) ⊎ (b ≤ k)
    go true e = inl (ltb-true k b e)
    go false e = inr (ltb-false k b e)

-- ---- what is left out
-- no offer is at most itself less the slack
too_low : (a b : ℤ) → a ≡ b → b ≤ℤ (a -ℤ pos slack) → ⊥
too_low a b e h = omega (linear, parts_sub a (pos slack), parts_pos slack)

too_low_both : (a b : ℤ) → a ≤ℤ b → b ≤ℤ (a -ℤ pos slack) → ⊥
too_low_both a b e h = omega (linear, parts_sub a (pos slack), parts_pos slack)

module _ {xs costs : List ℤ} {l r a b low high : ℕ} {v w : ℤ} (g : Ready xs costs r b) (lr : l ≤ r)
    (x : Offers xs costs l a b v) (y : Offers xs costs r a b w)
    (worse_last : Under xs costs r a low (w -ℤ pos slack)) (worse_first : Under xs costs l high b (v -ℤ pos slack))
  where
    x_high : x.place < high
    x_high = elim (lt_or_ge x.place high) [
      | inl h ↦ h
      | inr h ↦ absurd (too_low v (offered xs costs l x.place) x.is (worse_first.under x.place h x.high))
    ]

    y_low : low ≤ y.place
    y_low = elim (lt_or_ge y.place low) [
      | inl h ↦ absurd (too_low w (offered xs costs r y.place) y.is (worse_last.under y.place y.low h))
      | inr h ↦ h
    ]

    above : (p q : ℕ) → l ≤ p → p ≤ r → high ≤ q → q < b → offered xs costs p q ≤ℤ offered xs costs p x.place
    above p q lp pr h k =
        let xh = x_high in
        worse_up g l p x.place q lp pr (omega arith) k
        (subst (λ (z : ℤ). offered xs costs l q ≤ℤ (z -ℤ pos slack)) x.is (worse_first.under q h k))

    beneath : (p q : ℕ) → p ≤ r → a ≤ q → q < low → offered xs costs p q ≤ℤ offered xs costs p y.place
    beneath p q pr h k =
        let yl = y_low in
        worse_down g p y.place q pr (omega arith) y.high
        (subst (λ (z : ℤ). offered xs costs r q ≤ℤ (z -ℤ pos slack)) y.is (worse_last.under q h k))

    -- not both of x and y are left out
    clash : x.place < low → high ≤ y.place → ⊥
    clash h k =
        too_low_both (offered xs costs r y.place) (offered xs costs r x.place)
        (above r y.place lr (omega arith) k y.high)
        (subst (λ (z : ℤ). offered xs costs r x.place ≤ℤ (z -ℤ pos slack)) y.is
        (worse_last.under x.place x.low h))

    -- each place that all windows of the block take in is matched
    matched : (p q : ℕ) → l ≤ p → p ≤ r → a ≤ q → q < b → Matched (offered xs costs p) low high (offered xs costs p q)
    matched p q lp pr h k = elim (lt_or_ge q low) [
      | inl under ↦ elim (lt_or_ge y.place high) [
        | inl here ↦ record {
          place = y.place;
          low_le = y_low;
          high_lt = here;
          match = beneath p q pr h under;
        }
        | inr out ↦ record {
          place = x.place;
          low_le = elim (lt_or_ge x.place low) [ inl z ↦ absurd (clash z out) | inr z ↦ z ];
          high_lt = x_high;
          match = le_z_trans (beneath p q pr h under) (above p y.place lp pr out y.high);
        }
      ]
      | inr over ↦ elim (lt_or_ge q high) [
        | inl here ↦ record {
          place = q;
          low_le = over;
          high_lt = here;
          match = ≤ℤ_refl (offered xs costs p q);
        }
        | inr out ↦ elim (lt_or_ge x.place low) [
          | inl under ↦ record {
            place = y.place;
            low_le = y_low;
            high_lt = elim (lt_or_ge y.place high) [ inl z ↦ z | inr z ↦ absurd (clash under z) ];
            match = le_z_trans (above p q lp pr out k) (beneath p x.place pr x.low under);
          }
          | inr here ↦ record {
            place = x.place;
            low_le = here;
            high_lt = x_high;
            match = above p q lp pr out k;
          }
        ]
      ]
    ]

-- ---- what is looked at
module _ {xs costs : List ℤ} {base n rd ru s r : ℕ} where
  -- the windows have places in common
  pub enough_shared : {left low high right : ℕ} {v w : ℤ} → s ≤ r → r < n → Ready xs costs (base + r) n
      → left ≡ r - rd → right ≡ min (s + ru + 1) n → left < right → left ≤ low → high ≤ right
      → Offers xs costs (base + s) left right v → Offers xs costs (base + r) left right w
      → Under xs costs (base + r) left low (w -ℤ pos slack) → Under xs costs (base + s) high right (v -ℤ pos slack)
      → Enough xs costs base n rd ru s r left low high right
  enough_shared {left} {low} {high} {right} sr rn g el er lr ll hr x y wl wf =
      record { within = omega arith; is = each }
    where
      each : (p : ℕ) → s ≤ p → p ≤ r
          → parts_of xs costs (base + p) (p - rd) (min (p + ru + 1) n) left low high right
          ≡ top_of xs costs base n rd ru p
      each p sp pr =
          let f = offered xs costs (base + p) in
          let a = p - rd in
          let b = min (p + ru + 1) n in
          let m : min left b ≡ left = omega arith in
          let g' = ready_less g (base + r) right (omega arith) (omega arith) in
          let mid : most_of xs costs (base + p) low high ≡ most_of xs costs (base + p) left right =
          largest_part missing f left low high right ll hr
          (λ q u v. matched g' (omega arith) x y wl wf (base + p) q (omega arith) (omega arith) u v) in
          let one = largest_join missing f a left right (omega arith) (omega arith) in
          let two = largest_join missing f a right b (omega arith) (omega arith) in
          rw (m, mid, one) two

  -- they have none: all of each window is looked at
  pub enough_whole : Enough xs costs base n rd ru s r n n n n
  enough_whole = record { within = omega arith; is = each }
    where
      each : (p : ℕ) → s ≤ p → p ≤ r
          → parts_of xs costs (base + p) (p - rd) (min (p + ru + 1) n) n n n n ≡ top_of xs costs base n rd ru p
      each p sp pr =
          let f = offered xs costs (base + p) in
          let a = p - rd in
          let b = min (p + ru + 1) n in
          let m : min n b ≡ b = omega arith in
          let mid = largest_empty missing f n n (omega arith) in
          let end = largest_empty missing f n b (omega arith) in
          let low = larger_of_ge (largest_floor missing f a b) in
          rw (m, mid, end, low, low)
