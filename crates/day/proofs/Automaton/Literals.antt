-- The outputs and marks of a list make a day: marks by outputs, sums over the hours back, and hours since a mark.
-- Assumes nothing.
use mathlib.Core.Path.{◌≡◌, refl, sym, ◌∙◌, ap}
use mathlib.Core.List.{List}
use Prim.Native.Nat.{ℕ, zero, suc, ◌+◌, ◌*◌, ◌-◌, ◌≤◌, ◌<◌}
use native.Mathlib.Decide.{ℕ_discrete, dec_lt}
use native.Mathlib.Omega.{arith}
use Rattle.cases.specs.declared.Case.{Case}
use lib.Dec.{eqb}
use Rattle.cases.specs.Symbols.{sum, bit, UD, DD, PU, last, up_stage}
use Rattle.day.specs.Marks.{p, v, y, y_back, starting, closes, z}
use Rattle.day.specs.Rules.{hours_since}
use Rattle.cases.proofs.LimitsLaws.{Limits}
use Rattle.cases.proofs.SymbolsLaws.{sum_same}
use Rattle.day.proofs.MarksLaws.{p_zero, v_on, v_off, y_past, y_after_off, y_after_on, z_at_off, z_at_on}
use Rattle.day.proofs.MarksLaws.{z_after, y_back_in, y_back_out, closes_of, of_closes, bit_true}
use Rattle.day.proofs.RulesLaws.{hours_since_zero, hours_since_mark, hours_since_none}
use Rattle.day.proofs.TimesLaws.{y_le, z_le}
use Rattle.day.proofs.Automaton.Hours.{on, rise, back, since}
use Rattle.day.proofs.Automaton.HoursLaws.{since_go, since_new}
use Rattle.day.proofs.Automaton.Ruled.{Outputs, past_of}

-- the hours since a mark, from hour k to an hour j + 1 hours on
hours_since_since : (held : ℕ) (f : ℕ → ℕ) → ((k : ℕ) → f k ≤ 1) → (k j : ℕ)
    → hours_since held f (k + suc j) k ≡ since f held k + j
unfolding since
hours_since_since held f b zero j = omega (arith, hours_since_zero held f (0 + suc j))
hours_since_since held f b (suc k) j = go (ℕ_discrete (f (suc k)) 0) (hours_since_since held f b k (suc j))
  where
    go : Dec (f (suc k) ≡ 0) → hours_since held f (k + suc (suc j)) k ≡ since f held k + suc j
        → hours_since held f (suc k + suc j) (suc k) ≡ since f held (suc k) + j
    go (yes e) ih =
        let same = ap (λ n. hours_since held f n k) (let q : suc k + suc j ≡ k + suc (suc j) = omega arith in q) in
        omega (arith, hours_since_none held f (suc k + suc j) k e, same, since_go f held k e)
    go (no e) ih =
        let mark : f (suc k) ≡ 1 = omega (arith, b (suc k)) in
        omega (arith, hours_since_mark held f (suc k + suc j) k mark, since_new f held k mark)

pub hours_since_next : (held : ℕ) (f : ℕ → ℕ) → ((k : ℕ) → f k ≤ 1) → (k : ℕ)
    → hours_since held f (suc k) k ≡ since f held k
hours_since_next held f b k =
    let here : suc k ≡ k + suc 0 = omega arith in
    omega (arith, ap (λ n. hours_since held f n k) here, hours_since_since held f b k 0)

module _ (c : Case) (l : List ℕ) where
  pub v_is : (k : ℕ) → v c l k ≡ on (p c l k)
  v_is k = go (p c l k) refl
    where
      go : (n : ℕ) → p c l k ≡ n → v c l k ≡ on n
      go zero e = v_off c l k e
      go (suc n) e = v_on c l k (omega arith)

  pub y_is : (k : ℕ) → k < last c → y c l (suc k) ≡ rise (p c l k) (p c l (suc k))
  y_is k h = go (p c l k) refl
    where
      earlier : v c l (suc k - 1) ≡ v c l k
      earlier = ap (v c l) (omega arith)

      go : (n : ℕ) → p c l k ≡ n → y c l (suc k) ≡ rise n (p c l (suc k))
      go zero e = y_after_off c l (suc k) (omega arith) h (earlier ∙ v_off c l k e) ∙ v_is (suc k)
      go (suc n) e = y_after_on c l (suc k) (omega arith) h (earlier ∙ v_on c l k (omega arith))

  pub z_is : (k : ℕ) → k < last c → z c l (suc k) ≡ rise (p c l (suc k)) (p c l k)
  z_is k h = go (p c l (suc k)) refl
    where
      earlier : v c l (suc k - 1) ≡ v c l k
      earlier = ap (v c l) (omega arith)

      go : (n : ℕ) → p c l (suc k) ≡ n → z c l (suc k) ≡ rise n (p c l k)
      go zero e = z_at_off c l (suc k) (omega arith) h (v_off c l (suc k) e) ∙ earlier ∙ v_is k
      go (suc n) e = z_at_on c l (suc k) (omega arith) h (v_on c l (suc k) (omega arith))

  -- y(k − i + 1) an hour later
  y_back_suc : (k i : ℕ) → y_back c l (suc k) (suc i) ≡ y_back c l k i
  y_back_suc k i = go (dec_lt k i)
    where
      go : Dec (k < i) → y_back c l (suc k) (suc i) ≡ y_back c l k i
      go (yes h) =
          let same : suc i - suc k ≡ i - k = omega arith in
          y_back_out c l (suc k) (suc i) (omega arith)
          ∙ ap (λ n. bit (eqb n (up_stage c))) same
          ∙ sym (y_back_out c l k i h)
      go (no h) =
          y_back_in c l (suc k) (suc i) (omega arith) ∙ ap (y c l) (omega arith) ∙ sym (y_back_in c l k i (omega arith))

  back_at : (k i : ℕ) → 1 ≤ i → y_back c l k i ≡ back (past_of c) (y c l) k i
  back_at zero i a = y_back_out c l 0 i a ∙ ap (λ n. bit (eqb n (up_stage c))) (omega arith)
  back_at (suc k) zero a = absurd (omega arith)
  back_at (suc k) (suc zero) a = y_back_in c l (suc k) 1 (omega arith) ∙ ap (y c l) (omega arith)
  back_at (suc k) (suc (suc i)) a = y_back_suc k (suc i) ∙ back_at k (suc i) (omega arith)

  -- the sums with y(k − i + 1)
  pub starts_sum : (k : ℕ) → sum (λ i. y_back c l k i) (UD c) ≡ sum (λ i. back (past_of c) (y c l) k i) (UD c)
  starts_sum k =
      sum_same (λ i. y_back c l k i) (back (past_of c) (y c l) k) (UD c) (λ i a b. back_at k i a)

  pub outputs_sum : (k : ℕ)
      → sum (λ i. PU c i * y_back c l k i) (UD c) ≡ sum (λ i. PU c i * back (past_of c) (y c l) k i) (UD c)
  outputs_sum k =
      sum_same (λ i. PU c i * y_back c l k i) (λ i. PU c i * back (past_of c) (y c l) k i) (UD c)
      (λ i a b. ap (λ n. PU c i * n) (back_at k i a))

  -- the stop after T
  after_is : (j : ℕ) → 1 ≤ j → z c l (last c + j) ≡ bit (closes c l (suc (DD c) - j))
  after_is j a =
      z_after c l (last c + j) (omega arith)
      ∙ ap (λ n. bit (closes c l n)) (let e : last c + DD c + 1 - (last c + j) ≡ suc (DD c) - j = omega arith in e)

  pub outputs : Limits c → Outputs c (last c) (p c l) (y c l) (z c l)
  unfolding starting
  outputs lim =
      record {
        limits = lim;
        marks = record { y_le = y_le c l; z_le = z_le c l; y_is = y_is; z_is = z_is };
        some = lim.hours_pos;
        opening = p_zero c l;
        y_past = y_past c l;
        closed = λ j a e.
            let (two, le, end, none) = of_closes c l (suc (DD c) - j) (bit_true _ (sym (after_is j a) ∙ e)) in
            (omega arith, end, sym (starts_sum (last c)) ∙ none);
        closes = λ j a b end none.
            after_is j a
            ∙ ap bit
            (closes_of c l (suc (DD c) - j) (omega arith) (omega arith) end (starts_sum (last c) ∙ none));
      }
