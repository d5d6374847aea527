-- What a place offers: its size, and that a place which is worse by the slack for one place of a block is no better
-- further on: one bend of the table. Assumes nothing.
use mathlib.Core.Path.{◌≡◌}
use mathlib.Core.List.{List}
use Prim.Native.Nat.{ℕ, ◌+◌, ◌-◌, ◌≤◌, ◌<◌}
use native.Mathlib.Omega.{arith}
use lib.IntN.{ℤ, pos, nat_abs, ◌+ℤ◌, ◌-ℤ◌}
use lib.ListN.{length}
use lib.Signed.{◌≤ℤ◌}
use Rattle.laws.proofs.Signed.{linear, parts_add, parts_sub, parts_pos}
use Rattle.laws.proofs.Magnitude.{abs_sub}
use Rattle.machine.specs.Bounds.{most_energy}
use Rattle.window.specs.Rows.{cells, Roomy}
use Rattle.blocks.specs.Offers.{slack, Bent, offered, offer_room}
use Rattle.blocks.specs.Cuts.{Offers}

-- the first b places can offer where the table is read from `at` on
pub record Ready (xs costs : List ℤ) (at b : ℕ) : Type 0 where
  pub long : b ≤ length xs
  pub roomy : Roomy xs b
  pub reach : at + b ≤ most_energy + 1
  pub bent : Bent costs

-- fewer places, read from a lower place of the table
pub ready_less : {xs costs : List ℤ} {at b : ℕ} → Ready xs costs at b → (l a : ℕ) → l ≤ at → a ≤ b → Ready xs costs l a
ready_less r l a h k =
    record {
      long = omega (arith, r.long);
      roomy = record { roomy = λ i m. r.roomy.roomy i (omega arith) };
      reach = omega (arith, r.reach);
      bent = r.bent;
    }

-- an offer stays within 64 bits
pub offered_room : {xs costs : List ℤ} {at b : ℕ} → Ready xs costs at b → (l q : ℕ) → q < b
    → nat_abs (cells xs q) + nat_abs (cells costs (l + q)) ≤ offer_room
offered_room r l q h = omega (arith, r.roomy.roomy q h, r.bent.cost_le (l + q))

pub offered_abs : {xs costs : List ℤ} {at b : ℕ} → Ready xs costs at b → (l q : ℕ) → q < b
    → nat_abs (offered xs costs l q) ≤ offer_room
unfolding offered
offered_abs {xs} {costs} r l q h = omega (arith, offered_room r l q h, abs_sub (cells xs q) (cells costs (l + q)))

pub offers_abs : {xs costs : List ℤ} {at a b : ℕ} {v : ℤ} → Ready xs costs at b → Offers xs costs at a b v
    → nat_abs v ≤ offer_room
offers_abs {at = at} r o = rw o.is (offered_abs r at o.place o.high)

-- two amounts v and w, lowered by the table's entries: near, far and both are those of w, and of v with w further on
four : (v w near far low both : ℤ) → (far +ℤ low) ≤ℤ (near +ℤ both +ℤ pos slack)
    → (v -ℤ low) ≤ℤ (w -ℤ near -ℤ pos slack) → (v -ℤ both) ≤ℤ (w -ℤ far)
four v w near far low both h k =
    omega (
      linear,
      parts_add far low,
      parts_add near both,
      parts_add (near +ℤ both) (pos slack),
      parts_sub v low,
      parts_sub w near,
      parts_sub (w -ℤ near) (pos slack),
      parts_sub v both,
      parts_sub w far,
      parts_pos slack,
    )

module _ {xs costs : List ℤ} {r b : ℕ} (g : Ready xs costs r b) where
  -- worse by the slack than a lower place: no better further up the table
  pub worse_up : (l p x q : ℕ) → l ≤ p → p ≤ r → x ≤ q → q < b
      → offered xs costs l q ≤ℤ (offered xs costs l x -ℤ pos slack) → offered xs costs p q ≤ℤ offered xs costs p x
  unfolding offered
  worse_up l p x q hp P hq Q k =
      let s = p - l in
      let t = q - x in
      let i : l + x + s ≡ p + x = omega arith in
      let j : l + x + t ≡ l + q = omega arith in
      let m : l + x + s + t ≡ p + q = omega arith in
      let h = rw (m, i, j) at (g.bent.bent (l + x) s t (omega (arith, g.reach))) in
      four (cells xs q) (cells xs x) (cells costs (l + x)) (cells costs (p + x)) (cells costs (l + q))
      (cells costs (p + q)) h k

  -- worse by the slack than a higher place: no better further down the table
  pub worse_down : (p y q : ℕ) → p ≤ r → q ≤ y → y < b
      → offered xs costs r q ≤ℤ (offered xs costs r y -ℤ pos slack) → offered xs costs p q ≤ℤ offered xs costs p y
  unfolding offered
  worse_down p y q P hq Y k =
      let s = r - p in
      let t = y - q in
      let i : p + q + s ≡ r + q = omega arith in
      let j : p + q + t ≡ p + y = omega arith in
      let m : p + q + t + s ≡ r + y = omega arith in
      let h = rw (m, j, i) at (g.bent.bent (p + q) t s (omega (arith, g.reach))) in
      four (cells xs q) (cells xs y) (cells costs (r + y)) (cells costs (p + y)) (cells costs (r + q))
      (cells costs (p + q)) (turn (cells costs (p + y)) (cells costs (r + q)) (cells costs (p + q))
      (cells costs (r + y)) h) k
    where
      turn : (a b c d : ℤ) → (a +ℤ b) ≤ℤ (c +ℤ d +ℤ pos slack) → (a +ℤ b) ≤ℤ (d +ℤ c +ℤ pos slack)
      turn a b c d h =
          omega (linear, parts_add c d, parts_add d c, parts_add (c +ℤ d) (pos slack), parts_add (d +ℤ c) (pos slack))
