-- Laws of the outputs of a list and of its marks, hour by hour. Assumes nothing.
use mathlib.Core.Path.{◌≡◌, refl, ap, ◌∙◌}
use mathlib.Core.Bool.{Bool, true, false, ◌&&◌, cond}
use mathlib.Core.List.{List}
use Prim.Native.Nat.{ℕ, zero, suc, ◌+◌, ◌-◌, ◌≤◌, ◌<◌}
use native.Mathlib.Omega.{arith}
use lib.Dec.{leb, ltb, eqb}
use lib.ListN.{length, get_or, get_or-eq_default}
use borrow.Author.Tests.{lt-ltb, le-ltb, le-leb, eq-eqb, leb-true, eqb-true}
use Rattle.laws.proofs.Tests.{and_true, both}
use Rattle.cases.specs.declared.Case.{Case}
use Rattle.cases.specs.Symbols.{bit, DD, PD, last, p0, up_stage}
use Rattle.day.specs.Marks.{p, v, y, y_back, starting, closes, z}

-- a test whose mark is 1 passes
pub bit_true : (t : Bool) → bit t ≡ 1 → t ≡ true
bit_true true e = refl
bit_true false e = absurd (omega arith)

pub bit_le : (t : Bool) → bit t ≤ 1
bit_le true = omega arith
bit_le false = omega arith

-- a mark of two outputs by the tests on them: on-line now and not before, for a start; the reverse for a stop
began : (a b : Bool) → bit b ≡ 0 → bit (eqb (bit a) 1 && eqb (bit b) 0) ≡ bit a
began true false e = refl
began false false e = refl
began a true e = absurd (omega arith)

stayed : (a b : Bool) → bit b ≡ 1 → bit (eqb (bit a) 1 && eqb (bit b) 0) ≡ 0
stayed true true e = refl
stayed false true e = refl
stayed a false e = absurd (omega arith)

ended : (a b : Bool) → bit a ≡ 0 → bit (eqb (bit a) 0 && eqb (bit b) 1) ≡ bit b
ended false true e = refl
ended false false e = refl
ended true b e = absurd (omega arith)

lasted : (a b : Bool) → bit a ≡ 1 → bit (eqb (bit a) 0 && eqb (bit b) 1) ≡ 0
lasted true b e = refl
lasted false b e = absurd (omega arith)

module _ (c : Case) (l : List ℕ) where
  -- p(0), p(k) from hour 1 on, and p(k) past the list
  pub p_zero : p c l 0 ≡ p0 c
  unfolding p
  p_zero = refl

  pub p_suc : (k : ℕ) → p c l (suc k) ≡ get_or l k 0
  unfolding p
  p_suc k = refl

  pub p_later : (k : ℕ) → 0 < k → p c l k ≡ get_or l (k - 1) 0
  p_later zero h = absurd (omega arith)
  p_later (suc k) h = p_suc k ∙ ap (λ i. get_or l i 0) (omega arith)

  pub p_past : (k : ℕ) → length l < k → p c l k ≡ 0
  p_past zero h = absurd (omega arith)
  p_past (suc k) h = p_suc k ∙ get_or-eq_default l 0 (let h : length l ≤ k = omega arith in h)

  -- v(k) by the output
  pub v_on : (k : ℕ) → 0 < p c l k → v c l k ≡ 1
  unfolding v
  v_on k h = ap bit (lt-ltb 0 (p c l k) h)

  pub v_off : (k : ℕ) → p c l k ≡ 0 → v c l k ≡ 0
  unfolding v
  v_off k e = ap (λ x. bit (ltb 0 x)) e

  pub v_le : (k : ℕ) → v c l k ≤ 1
  unfolding v
  v_le k = bit_le (ltb 0 (p c l k))

  -- y(k) and z(k) outside the day
  pub y_zero : y c l 0 ≡ 0
  unfolding y
  y_zero = refl

  pub z_zero : z c l 0 ≡ 0
  unfolding z
  z_zero = refl

  pub y_past : (k : ℕ) → last c < k → y c l k ≡ 0
  unfolding y
  y_past zero h = refl
  y_past (suc k) h =
      ap (λ t. bit (t && (eqb (v c l (suc k)) 1 && eqb (v c l k) 0))) (le-ltb k (last c) (omega arith))

  pub z_after : (k : ℕ) → last c < k → z c l k ≡ bit (closes c l (last c + DD c + 1 - k))
  unfolding z
  z_after zero h = absurd (omega arith)
  z_after (suc k) h =
      ap (λ t. bit (cond t (eqb (v c l (suc k)) 0 && eqb (v c l k) 1) (closes c l (last c + DD c + 1 - suc k))))
      (le-ltb k (last c) (omega arith))

  -- y(k−i+1) from hour 1 on, and below it
  pub y_back_in : (k i : ℕ) → i ≤ k → y_back c l k i ≡ y c l (k + 1 - i)
  unfolding y_back
  y_back_in k i h = ap (λ t. cond t (bit (eqb (i - k) (up_stage c))) (y c l (k + 1 - i))) (le-ltb k i h)

  pub y_back_out : (k i : ℕ) → k < i → y_back c l k i ≡ bit (eqb (i - k) (up_stage c))
  unfolding y_back
  y_back_out k i h = ap (λ t. cond t (bit (eqb (i - k) (up_stage c))) (y c l (k + 1 - i))) (lt-ltb k i h)

  -- where the day closes in a shut-down
  pub closes_of : (i : ℕ) → 2 ≤ i → i ≤ DD c → p c l (last c) ≡ PD c i → starting c l (last c) ≡ 0 → closes c l i ≡ true
  unfolding closes
  closes_of i a b e s =
      rw (
        le-leb 2 i a,
        le-leb i (DD c) b,
        eq-eqb (p c l (last c)) (PD c i) e,
        eq-eqb (starting c l (last c)) 0 s,
      )

  pub of_closes : (i : ℕ) → closes c l i ≡ true
      → (2 ≤ i) × (i ≤ DD c) × (p c l (last c) ≡ PD c i) × (starting c l (last c) ≡ 0)
  unfolding closes
  of_closes i e =
      let (a, r) = both (leb 2 i) _ e in
      let (b, s) = both (leb i (DD c)) _ r in
      let (d, t) = both (eqb (p c l (last c)) (PD c i)) (eqb (starting c l (last c)) 0) s in (
        leb-true 2 i a,
        leb-true i (DD c) b,
        eqb-true (p c l (last c)) (PD c i) d,
        eqb-true (starting c l (last c)) 0 t,
      )

  -- a stop after T: where hour T lies in no start-up, by the output of PD that the day ends at; else, and where PD does
  -- not reach, none
  pub z_closing : (k : ℕ) → last c < k → starting c l (last c) ≡ 0
      → z c l k
      ≡ bit (leb 2 (last c + DD c + 1 - k)
      && (leb (last c + DD c + 1 - k) (DD c) && eqb (p c l (last c)) (PD c (last c + DD c + 1 - k))))
  unfolding closes
  z_closing k h s =
      let i = last c + DD c + 1 - k in
      z_after k h
      ∙ ap (λ t. bit (leb 2 i && (leb i (DD c) && (eqb (p c l (last c)) (PD c i) && t))))
      (eq-eqb (starting c l (last c)) 0 s)
      ∙ ap (λ t. bit (leb 2 i && (leb i (DD c) && t))) (and_true (eqb (p c l (last c)) (PD c i)))

  z_none : (k : ℕ) → last c < k → (closes c l (last c + DD c + 1 - k) ≡ true → ⊥) → z c l k ≡ 0
  z_none k h n = z_after k h ∙ go (closes c l (last c + DD c + 1 - k)) n
    where
      go : (t : Bool) → (t ≡ true → ⊥) → bit t ≡ 0
      go true n = absurd (n refl)
      go false n = refl

  pub z_started : (k : ℕ) → last c < k → (starting c l (last c) ≡ 0 → ⊥) → z c l k ≡ 0
  z_started k h n = z_none k h (λ e. n (of_closes (last c + DD c + 1 - k) e).3)

  pub z_far : (k : ℕ) → last c < k → last c + DD c ≤ k → z c l k ≡ 0
  z_far k h b = z_none k h (λ e. omega (arith, (of_closes (last c + DD c + 1 - k) e).0))

  -- inside the day: a start where the unit was off-line, a stop where it is
  pub y_after_off : (k : ℕ) → 0 < k → k ≤ last c → v c l (k - 1) ≡ 0 → y c l k ≡ v c l k
  unfolding y v
  y_after_off zero h m e = absurd (omega arith)
  y_after_off (suc k) h m e =
      let earlier : v c l k ≡ 0 = ap (v c l) (omega arith) ∙ e in
      rw (lt-ltb k (last c) (omega arith)) (began (ltb 0 (p c l (suc k))) (ltb 0 (p c l k)) earlier)

  pub y_after_on : (k : ℕ) → 0 < k → k ≤ last c → v c l (k - 1) ≡ 1 → y c l k ≡ 0
  unfolding y v
  y_after_on zero h m e = absurd (omega arith)
  y_after_on (suc k) h m e =
      let earlier : v c l k ≡ 1 = ap (v c l) (omega arith) ∙ e in
      rw (lt-ltb k (last c) (omega arith)) (stayed (ltb 0 (p c l (suc k))) (ltb 0 (p c l k)) earlier)

  pub z_at_off : (k : ℕ) → 0 < k → k ≤ last c → v c l k ≡ 0 → z c l k ≡ v c l (k - 1)
  unfolding z v
  z_at_off zero h m e = absurd (omega arith)
  z_at_off (suc k) h m e =
      let here : z c l (suc k) ≡ v c l k =
      rw (lt-ltb k (last c) (omega arith)) (ended (ltb 0 (p c l (suc k))) (ltb 0 (p c l k)) e) in
      here ∙ ap (v c l) (omega arith)

  pub z_at_on : (k : ℕ) → 0 < k → k ≤ last c → v c l k ≡ 1 → z c l k ≡ 0
  unfolding z v
  z_at_on zero h m e = absurd (omega arith)
  z_at_on (suc k) h m e =
      rw (lt-ltb k (last c) (omega arith)) (lasted (ltb 0 (p c l (suc k))) (ltb 0 (p c l k)) e)
