-- Signed numbers made linear for omega: up z and down z are naturals with z = up z − down z, and each order,
-- equation, sum, difference and multiple of signed numbers is a linear fact about those. Assumes nothing.
use mathlib.Core.Path.{◌≡◌, refl, sym, ap, ◌∙◌, subst}
use mathlib.Core.Bool.{Bool, true, false, not, cond}
use Prim.Native.Nat.{ℕ, zero, suc, ◌+◌, ◌*◌, ◌-◌, ◌≤◌, ◌<◌}
use native.Mathlib.Omega.{arith}
use lib.Dec.{T, ltb, leb→le, le→leb, ltb→lt, lt→ltb, nltb→le}
use lib.IntN.{ℤ, pos, negsuc, sub_ℕ, neg_ℤ, ◌+ℤ◌, ◌-ℤ◌, ◌*ℤ◌}
use lib.Signed.{lt_z, ◌≤ℤ◌, ◌<ℤ◌, lt_z_no}
use mathlib.Core.Logic.{◌⊎◌, inl, inr}
use native.Mathlib.Nat.{eq-or-lt_of_le}

-- what z is above 0, and what it is below 0
unfoldable pub up : ℤ → ℕ
up (pos n) = n
up (negsuc n) = 0

unfoldable pub down : ℤ → ℕ
down (pos n) = 0
down (negsuc n) = suc n

-- the order, to and from the parts
pub le_parts : (a b : ℤ) → a ≤ℤ b → up a + down b ≤ up b + down a
unfolding up down
le_parts (pos a) (pos b) h = omega (arith, leb→le a b h.le)
le_parts (pos a) (negsuc b) h = absurd h.le
le_parts (negsuc a) (pos b) h = omega arith
le_parts (negsuc a) (negsuc b) h = omega (arith, leb→le b a h.le)

pub parts_le : (a b : ℤ) → up a + down b ≤ up b + down a → a ≤ℤ b
unfolding up down
parts_le (pos a) (pos b) h = record { le = le→leb a b (omega arith) }
parts_le (pos a) (negsuc b) h = absurd (omega arith)
parts_le (negsuc a) (pos b) h = record { le = tt }
parts_le (negsuc a) (negsuc b) h = record { le = le→leb b a (omega arith) }

pub lt_parts : (a b : ℤ) → a <ℤ b → up a + down b < up b + down a
unfolding up down
lt_parts (pos a) (pos b) h = omega (arith, ltb→lt a b h.lt)
lt_parts (pos a) (negsuc b) h = absurd h.lt
lt_parts (negsuc a) (pos b) h = omega arith
lt_parts (negsuc a) (negsuc b) h = omega (arith, ltb→lt b a h.lt)

pub parts_lt : (a b : ℤ) → up a + down b < up b + down a → a <ℤ b
unfolding up down
parts_lt (pos a) (pos b) h = record { lt = lt→ltb a b (omega arith) }
parts_lt (pos a) (negsuc b) h = absurd (omega arith)
parts_lt (negsuc a) (pos b) h = record { lt = tt }
parts_lt (negsuc a) (negsuc b) h = record { lt = lt→ltb b a (omega arith) }

pub eq_parts : (a b : ℤ) → a ≡ b → up a + down b ≡ up b + down a
eq_parts a b e = ap (λ x. up x + down b) e ∙ ap (λ x. up b + down x) (sym e)

pub parts_eq : (a b : ℤ) → up a + down b ≡ up b + down a → a ≡ b
unfolding up down
parts_eq (pos a) (pos b) h = ap pos (omega arith)
parts_eq (pos a) (negsuc b) h = absurd (omega arith)
parts_eq (negsuc a) (pos b) h = absurd (omega arith)
parts_eq (negsuc a) (negsuc b) h = ap negsuc (omega arith)

-- a sum's parts
sub_parts : (a b : ℕ) → up (sub_ℕ a b) + b ≡ a + down (sub_ℕ a b)
unfolding up down
sub_parts a b = go (ltb a b) refl
  where
    go : (t : Bool) → ltb a b ≡ t
        → up (cond t (negsuc (b - suc a)) (pos (a - b))) + b ≡ a + down (cond t (negsuc (b - suc a)) (pos (a - b)))
    go true e = omega (arith, ltb→lt a b (subst T (sym e) tt))
    go false e = omega (arith, nltb→le a b (subst (λ t. T (not t)) (sym e) tt))

pub parts_add : (a b : ℤ) → up (a +ℤ b) + (down a + down b) ≡ up a + up b + down (a +ℤ b)
unfolding up down
parts_add (pos a) (pos b) = omega arith
parts_add (pos a) (negsuc b) = omega (arith, sub_parts a (suc b))
parts_add (negsuc a) (pos b) = omega (arith, sub_parts b (suc a))
parts_add (negsuc a) (negsuc b) = omega arith

-- a negation's, a difference's and a multiple's
parts_neg : (a : ℤ) → (up (neg_ℤ a) ≡ down a) × (down (neg_ℤ a) ≡ up a)
unfolding up down
parts_neg (pos zero) = (refl, refl)
parts_neg (pos (suc n)) = (refl, refl)
parts_neg (negsuc n) = (refl, refl)

pub parts_sub : (a b : ℤ) → up (a -ℤ b) + (down a + up b) ≡ up a + down b + down (a -ℤ b)
parts_sub a b = omega (arith, parts_add a (neg_ℤ b), parts_neg b)

pub parts_pos : (n : ℕ) → (up (pos n) ≡ n) × (down (pos n) ≡ 0)
unfolding up down
parts_pos n = (refl, refl)

pub parts_mul : (a : ℤ) (n : ℕ) → up (a *ℤ pos n) + down a * n ≡ up a * n + down (a *ℤ pos n)
unfolding up down
parts_mul (pos a) n = omega arith
parts_mul (negsuc a) n = omega (arith, parts_neg (pos (suc a * n)))

-- the same of the test of order
pub test_parts : (a b : ℤ) → T (lt_z a b) → up a + down b < up b + down a
test_parts a b t = lt_parts a b (record { lt = t })

pub parts_test : (a b : ℤ) → up a + down b < up b + down a → T (lt_z a b)
parts_test a b h = (parts_lt a b h).lt

-- the same of the test's outcome
pub true_parts : (a b : ℤ) → lt_z a b ≡ true → up a + down b < up b + down a
true_parts a b e = test_parts a b (subst T (sym e) tt)

pub false_parts : (a b : ℤ) → lt_z a b ≡ false → up b + down a ≤ up a + down b
false_parts a b e = le_parts b a (lt_z_no (subst (λ t. T (not t)) (sym e) tt))

pub parts_true : (a b : ℤ) → up a + down b < up b + down a → lt_z a b ≡ true
parts_true a b h = go (lt_z a b) (parts_test a b h)
  where
    go : (t : Bool) → T t → t ≡ true
    go true k = refl
    go false k = absurd k

pub parts_false : (a b : ℤ) → up b + down a ≤ up a + down b → lt_z a b ≡ false
parts_false a b h = go (lt_z a b) refl
  where
    go : (t : Bool) → lt_z a b ≡ t → t ≡ false
    go false e = refl
    go true e = absurd (omega (arith, true_parts a b e))

-- what omega reads of integers: omega (linear, parts_add a b, ..)
pub ruleset linear = (
  arith,
  le_parts,
  parts_le,
  lt_parts,
  parts_lt,
  eq_parts,
  parts_eq,
  test_parts,
  parts_test,
  true_parts,
  false_parts,
  parts_true,
  parts_false,
)

-- a test that fails
pub not_lt_z : (a b : ℤ) → lt_z a b ≡ false → T (lt_z b a) ⊎ (b ≡ a)
not_lt_z a b e = split (eq-or-lt_of_le (false_parts a b e))
  where
    split : (up b + down a ≡ up a + down b) ⊎ (up b + down a < up a + down b) → T (lt_z b a) ⊎ (b ≡ a)
    split (inl h) = inr (omega linear)
    split (inr h) = inl (omega linear)

-- the order, and sums
pub le_z_trans : {a b c : ℤ} → a ≤ℤ b → b ≤ℤ c → a ≤ℤ c
le_z_trans {a} {b} {c} h k = omega linear

pub le_z_antisym : {a b : ℤ} → a ≤ℤ b → b ≤ℤ a → a ≡ b
le_z_antisym {a} {b} h k = omega linear

pub add_mono : (g : ℤ) {a b : ℤ} → a ≤ℤ b → (g +ℤ a) ≤ℤ (g +ℤ b)
add_mono g {a} {b} h = omega (linear, parts_add g a, parts_add g b)

pub add_cancel : (g a b : ℤ) → g +ℤ a ≡ g +ℤ b → a ≡ b
add_cancel g a b h = omega (linear, parts_add g a, parts_add g b)

-- multiples of a sum and of a difference
pub multiple_add : (a : ℤ) (m n : ℕ) → a *ℤ pos (m + n) ≡ a *ℤ pos m +ℤ a *ℤ pos n
multiple_add a m n =
    parts_eq (a *ℤ pos (m + n)) (a *ℤ pos m +ℤ a *ℤ pos n)
    (omega (arith, parts_mul a (m + n), parts_mul a m, parts_mul a n, parts_add (a *ℤ pos m) (a *ℤ pos n)))

pub multiple__ : (a b : ℤ) (n : ℕ) → (a -ℤ b) *ℤ pos n ≡ a *ℤ pos n -ℤ b *ℤ pos n
multiple__ a b n =
    parts_eq ((a -ℤ b) *ℤ pos n) (a *ℤ pos n -ℤ b *ℤ pos n)
    (omega (
      arith,
      parts_mul (a -ℤ b) n,
      parts_mul a n,
      parts_mul b n,
      parts_sub (a *ℤ pos n) (b *ℤ pos n),
      ap (λ x. x * n) (parts_sub a b),
    ))

-- nothing left, and nothing taken
pub less_self : (a : ℤ) → a -ℤ a ≡ pos 0
less_self a = omega (linear, parts_sub a a, parts_pos 0)

pub less_none : (a : ℤ) → a -ℤ pos 0 ≡ a
less_none a = omega (linear, parts_sub a (pos 0), parts_pos 0)
