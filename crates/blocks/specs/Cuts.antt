-- The places that a block looks at. Definitions only. Assumes nothing.
use Rattle.std.specs.Prelude.{◌≡◌, List, ℕ, ◌+◌, ◌-◌, ◌≤◌, ◌<◌, min, ℤ, nat_abs, ◌≤ℤ◌}
use Rattle.laws.specs.Range.{larger, largest}
use Rattle.machine.specs.Coded.{missing}
use Rattle.window.specs.Rows.{cells}
use Rattle.blocks.specs.Offers.{offered, offer_room}

-- the most that the places a to before b offer; missing where they offer less
abbrev pub most_of : List ℤ → List ℤ → ℕ → ℕ → ℕ → ℤ
most_of xs costs at a b = largest missing (offered xs costs at) a b

-- the most that is offered to place p of n
abbrev pub top_of : List ℤ → List ℤ → ℕ → ℕ → ℕ → ℕ → ℕ → ℤ
top_of xs costs base n rd ru p = most_of xs costs (base + p) (p - rd) (min (p + ru + 1) n)

-- one of the places a to before b offers v
pub record Offers (xs costs : List ℤ) (at a b : ℕ) (v : ℤ) : Type 0 where
  pub place : ℕ
  pub low : a ≤ place
  pub high : place < b
  pub is : v ≡ offered xs costs at place

-- each of the places a to before b offers v at the most
pub record Under (xs costs : List ℤ) (at a b : ℕ) (v : ℤ) : Type 0 where
  pub under : (q : ℕ) → a ≤ q → q < b → offered xs costs at q ≤ℤ v

-- the most that is offered by the places a to before b, of which those from left to before right are left out but for
-- low to before high
abbrev pub parts_of : List ℤ → List ℤ → ℕ → ℕ → ℕ → ℕ → ℕ → ℕ → ℕ → ℤ
parts_of xs costs at a b left low high right =
    larger (larger (most_of xs costs at a (min left b)) (most_of xs costs at low high)) (most_of xs costs at right b)

-- for the places s to r of n, nothing is missed by what is left out
pub record Enough (xs costs : List ℤ) (base n rd ru s r left low high right : ℕ) : Type 0 where
  pub within : high ≤ n
  pub is : (p : ℕ) → s ≤ p → p ≤ r → parts_of xs costs (base + p) (p - rd) (min (p + ru + 1) n) left low high right
      ≡ top_of xs costs base n rd ru p

-- the first n numbers are no larger than offers
pub record Topped (xs : List ℤ) (n : ℕ) : Type 0 where
  pub top_le : (i : ℕ) → i < n → nat_abs (cells xs i) ≤ offer_room
