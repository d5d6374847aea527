-- What an hour's constraints say once the places of the start and the stop in its windows are known, and back.
-- Assumes nothing.
use mathlib.Core.Path.{◌≡◌, refl}
use mathlib.Core.Logic.{◌⊎◌, inr, ⊎_elim}
use Prim.Native.Nat.{ℕ, zero, suc, ◌+◌, ◌*◌, ◌≤◌}
use native.Mathlib.Omega.{arith}
use Rattle.cases.specs.declared.Case.{Case}
use Rattle.cases.specs.Symbols.{high, low, RU, RD, PU}
use Rattle.cases.proofs.LimitsLaws.{Limits}
use Rattle.day.proofs.Automaton.Hours.{on}
use Rattle.day.proofs.Automaton.Windowed.{fall_at, Now, Now0}

mul_on_le : (m n : ℕ) → m * on n ≤ m
mul_on_le m zero = omega arith
mul_on_le m (suc n) = omega arith

module _ (U : Case) (lim : Limits U) where
  module _ (q y z s b : ℕ) where
    pub at_start : (p a t : ℕ) → Now U p q y z (suc a) t s b → PU U (suc a) ≤ low U → p ≡ PU U (suc a)
    at_start zero a zero h l = omega arith
    at_start zero a (suc t) h l = omega arith
    at_start (suc p) a zero h l = omega arith
    at_start (suc p) a (suc t) h l = omega arith

    pub at_stop : (p a t : ℕ) → Now U p q y z a (suc t) s b → fall_at U (suc t) ≤ low U → p ≡ fall_at U (suc t)
    at_stop zero zero t h l = omega arith
    at_stop zero (suc a) t h l = omega arith
    at_stop (suc p) zero t h l = omega arith
    at_stop (suc p) (suc a) t h l = omega arith

    pub at_run : (p : ℕ) → Now U (suc p) q y z 0 0 s b → low U ≤ suc p
    at_run p h = omega arith

    pub at_top : (p t : ℕ) → Now U p q y z 0 t s b → p ≤ high U
    at_top p t h = omega (arith, mul_on_le (high U) p)

    pub ramp_up : (p t : ℕ) → Now U p q y z 0 t s b → p ≤ q + RU U
    ramp_up p t h = omega (arith, mul_on_le (RU U) p)

  pub ramp_down : (p q y z a t b : ℕ) → Now U p q y z a t 0 b → q ≤ p + RD U
  ramp_down p q y z a t b h = omega (arith, mul_on_le (RD U) q)

  -- hour 0, in no start-up
  pub at_stop0 : (p t : ℕ) → 1 ≤ p → Now0 U p 0 (suc t) → p ≡ fall_at U (suc t)
  at_stop0 zero t a h = absurd (omega arith)
  at_stop0 (suc p) t a h = omega arith

  pub at_run0 : (p : ℕ) → 1 ≤ p → Now0 U p 0 0 → low U ≤ p
  at_run0 zero a h = absurd (omega arith)
  at_run0 (suc p) a h = omega arith

  -- ---- and back: an hour's own constraints, with output p and the places a and t of its start and its stop
  pub record Own (p a t : ℕ) : Type 0 where
    pub top : p ≤ high U
    pub start_on : 1 ≤ a → 1 ≤ p
    pub stop_on : 1 ≤ t → 1 ≤ p
    pub start : 1 ≤ a → p ≡ PU U a
    pub stop : 1 ≤ t → p ≡ fall_at U t
    pub both : 1 ≤ a → 1 ≤ t → p ≡ low U
    pub else : a ≡ 0 → t ≡ 0 → 1 ≤ p → low U ≤ p

  -- the ramp limits (5) and (6), and (10)
  pub record Ramps (p q y a s b : ℕ) : Type 0 where
    pub r5 : p + RU U * on a ≤ q + (high U * on a + RU U * on p)
    pub r6 : q + RD U * on s ≤ p + (high U * on s + RD U * on q)
    pub r10 : y + b ≤ 1

  pub own : (p q y z a t s b : ℕ) → Own p a t → Ramps p q y a s b → y + on q ≡ on p + z → Now U p q y z a t s b
  own zero q y z zero zero s b o r e = omega arith
  own zero q y z (suc a) t s b o r e = absurd (omega (arith, o.start_on (omega arith)))
  own zero q y z zero (suc t) s b o r e = absurd (omega (arith, o.stop_on (omega arith)))
  own (suc p) q y z zero zero s b o r e =
      let l : low U ≤ suc p = o.else refl refl (omega arith) in
      omega arith
  own (suc p) q y z (suc a) zero s b o r e =
      let l : suc p ≡ PU U (suc a) = o.start (omega arith) in
      omega arith
  own (suc p) q y z zero (suc t) s b o r e =
      let l : suc p ≡ fall_at U (suc t) = o.stop (omega arith) in
      omega arith
  own (suc p) q y z (suc a) (suc t) s b o r e =
      let l : suc p ≡ PU U (suc a) = o.start (omega arith) in
      let m : suc p ≡ fall_at U (suc t) = o.stop (omega arith) in
      let n : suc p ≡ low U = o.both (omega arith) (omega arith) in
      omega arith

  -- the two ramp limits
  pub r5_of : (p q a : ℕ) → p ≤ high U → (1 ≤ a → 1 ≤ p) → (1 ≤ a) ⊎ ((p ≡ 0) ⊎ (p ≤ q + RU U))
      → p + RU U * on a ≤ q + (high U * on a + RU U * on p)
  r5_of zero q zero c o d = omega arith
  r5_of zero q (suc a) c o d = omega (arith, o (omega arith))
  r5_of (suc p) q zero c o d =
      ⊎_elim (λ x. omega arith) (λ e. ⊎_elim (λ x. omega arith) (λ x. omega arith) e) d
  r5_of (suc p) q (suc a) c o d = omega arith

  pub r6_of : (p q s : ℕ) → q ≤ high U → ((1 ≤ s) × (1 ≤ q)) ⊎ ((s ≡ 0) × ((q ≡ 0) ⊎ (q ≤ p + RD U)))
      → q + RD U * on s ≤ p + (high U * on s + RD U * on q)
  r6_of p zero zero c d = omega arith
  r6_of p zero (suc s) c d = ⊎_elim (λ x. omega arith) (λ x. omega arith) d
  r6_of p (suc q) zero c d =
      ⊎_elim (λ x. omega arith) (λ x. ⊎_elim (λ y. omega arith) (λ y. omega arith) x.1) d
  r6_of p (suc q) (suc s) c d = omega arith

  pub own0 : (p a t : ℕ) → Own p a t → Now0 U p a t
  own0 p a t o =
      let r : Ramps p p 0 a 0 0 = record {
        r5 = r5_of p p a o.top o.start_on (inr (inr (omega arith)));
        r6 = r6_of p p 0 o.top (inr (refl, inr (omega arith)));
        r10 = omega arith;
      } in
      let h = own p p 0 0 a t 0 0 o r (omega arith) in
      record { r2 = h.r2; r4 = h.r4 }
