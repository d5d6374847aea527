-- Starts, stops and the minimum times in words: a mark is 1 exactly at its event, and the hours since the latest mark
-- are those since the latest event. Assumes nothing.
use mathlib.Core.Path.{◌≡◌, refl, sym, ap, ◌∙◌}
use mathlib.Core.Logic.{⊎_elim, ◌↔◌}
use mathlib.Core.List.{List}
use Prim.Native.Nat.{ℕ, zero, suc, ◌+◌, ◌-◌, ◌≤◌, ◌<◌}
use native.Mathlib.Decide.{ℕ_discrete, dec_le, dec_lt}
use native.Mathlib.Nat.{eq-or-lt_of_le}
use native.Mathlib.Omega.{arith}
use borrow.Author.Tests.{eq-eqb, eqb-true}
use lib.Dec.{T, eqb}
use Rattle.cases.specs.declared.Case.{Case}
use Rattle.cases.specs.Symbols.{bit, UD, DD, last, h, up_stage}
use Rattle.day.specs.Marks.{p, v, y, y_back, starting, closes, z}
use Rattle.day.specs.Rules.{hours_since, rule21, rule22}
use Rattle.day.specs.Words.{Starts, Settled, Stops, stops_inside, stops_after, StartsBack, starts_inside}
use Rattle.day.specs.Words.{starts_opening, Latest, Rested}
use Rattle.day.proofs.MarksLaws.{v_on, v_off, y_zero, z_zero, y_past, y_after_off, y_after_on, z_at_off}
use Rattle.day.proofs.MarksLaws.{z_at_on, z_after, y_back_in, y_back_out, bit_true, closes_of, of_closes}
use Rattle.cases.proofs.SymbolsLaws.{sum_zeros, term_le_sum}
use Rattle.day.proofs.RulesLaws.{hours_since_zero, hours_since_mark, hours_since_none}
use Rattle.day.proofs.TimesLaws.{time_of, of_time, y_le, z_le, y_back_le}

module _ (c : Case) (l : List ℕ) where
  -- ---- a mark by two outputs: it is that of the second where the first is off-line, and else 0
  module _ (f i j : ℕ) (off : v c l i ≡ 0 → f ≡ v c l j) (on : v c l i ≡ 1 → f ≡ 0) where
    marked_off : f ≡ 1 → p c l i ≡ 0
    marked_off e = go (ℕ_discrete (p c l i) 0)
      where
        go : Dec (p c l i ≡ 0) → p c l i ≡ 0
        go (yes q) = q
        go (no q) = absurd (omega (arith, on (v_on c l i (omega arith))))

    marked_on : f ≡ 1 → 1 ≤ p c l j
    marked_on e = go (ℕ_discrete (p c l j) 0)
      where
        go : Dec (p c l j ≡ 0) → 1 ≤ p c l j
        go (yes q) = absurd (omega (arith, off (v_off c l i (marked_off e)), v_off c l j q))
        go (no q) = omega arith

    marked : p c l i ≡ 0 → 1 ≤ p c l j → f ≡ 1
    marked q r = off (v_off c l i q) ∙ v_on c l j r

  -- an hour that is marked lies inside the day
  in_day : (f : ℕ → ℕ) → f 0 ≡ 0 → ((k : ℕ) → last c < k → f k ≡ 0) → (k : ℕ) → f k ≡ 1 → (1 ≤ k) × (k ≤ last c)
  in_day f zero_is past zero e = absurd (omega arith)
  in_day f zero_is past (suc k) e = (omega arith, go (dec_lt (last c) (suc k)))
    where
      go : Dec (last c < suc k) → suc k ≤ last c
      go (yes b) = absurd (omega (arith, past (suc k) b))
      go (no b) = omega arith

  pub starts : (k : ℕ) → (y c l k ≡ 1) ↔ Starts c l k
  starts k = (of_mark, λ s. marked (y c l k) (k - 1) k (off s.inside) (on s.inside) s.off_line s.on_line)
    where
      off : (1 ≤ k) × (k ≤ last c) → v c l (k - 1) ≡ 0 → y c l k ≡ v c l k
      off (a, b) = y_after_off c l k a b

      on : (1 ≤ k) × (k ≤ last c) → v c l (k - 1) ≡ 1 → y c l k ≡ 0
      on (a, b) = y_after_on c l k a b

      of_mark : y c l k ≡ 1 → Starts c l k
      of_mark e =
          let d = in_day (y c l) (y_zero c l) (y_past c l) k e in
          record {
            inside = d;
            off_line = marked_off (y c l k) (k - 1) k (off d) (on d) e;
            on_line = marked_on (y c l k) (k - 1) k (off d) (on d) e;
          }

  -- ---- y(k−i+1), and the start-ups that hour T lies in
  back_of : (k i : ℕ) → StartsBack c l k i → y_back c l k i ≡ 1
  back_of k i (starts_inside s e g) =
      y_back_in c l k i (omega (arith, g.inside.0)) ∙ ap (y c l) (omega arith) ∙ (starts s).1 g
  back_of k i (starts_opening a e) =
      y_back_out c l k i (omega arith) ∙ ap bit (eq-eqb (i - k) (up_stage c) (omega arith))

  of_back : (k i : ℕ) → y_back c l k i ≡ 1 → StartsBack c l k i
  of_back k i e = go (dec_lt k i)
    where
      go : Dec (k < i) → StartsBack c l k i
      go (yes h) =
          let d = bit_true (eqb (i - k) (up_stage c)) (sym (y_back_out c l k i h) ∙ e) in
          starts_opening (omega (arith, eqb-true (i - k) (up_stage c) d)) (omega (arith, eqb-true (i - k) (up_stage c) d))
      go (no h) =
          starts_inside (k + 1 - i) (omega arith) ((starts (k + 1 - i)).0 (sym (y_back_in c l k i (omega arith)) ∙ e))

  pub starts_back : (k i : ℕ) → (y_back c l k i ≡ 1) ↔ StartsBack c l k i
  starts_back k i = (of_back k i, back_of k i)

  -- a start-up whose start stands i − 1 hours before T
  held_up : (i : ℕ) → 1 ≤ i → i ≤ UD c → StartsBack c l (last c) i → starting c l (last c) ≡ 0 → ⊥
  unfolding starting
  held_up i a b s e =
      omega (arith, back_of (last c) i s, term_le_sum (λ i. y_back c l (last c) i) (UD c) i a b)

  pub settled_of : starting c l (last c) ≡ 0 → Settled c l
  settled_of e =
      record { started = λ s g. after s g (dec_le (s + UD c) (last c)); opened = λ a. past a (dec_lt (UD c) _) }
    where
      after : (s : ℕ) → Starts c l s → Dec (s + UD c ≤ last c) → s + UD c ≤ last c
      after s g (yes h) = h
      after s g (no h) =
          let (a, b) = g.inside in
          absurd (held_up (last c + 1 - s) (omega arith) (omega arith) (starts_inside s (omega arith) g) e)

      past : 1 ≤ up_stage c → Dec (UD c < last c + up_stage c) → UD c < last c + up_stage c
      past a (yes h) = h
      past a (no h) = absurd (held_up (last c + up_stage c) (omega arith) (omega arith) (starts_opening a refl) e)

  pub of_settled : Settled c l → starting c l (last c) ≡ 0
  unfolding starting
  of_settled s = sum_zeros (λ i. y_back c l (last c) i) (UD c) (λ i a b. none i b (ℕ_discrete (y_back c l (last c) i) 0))
    where
      not_back : (i : ℕ) → i ≤ UD c → StartsBack c l (last c) i → ⊥
      not_back i b (starts_inside t e g) = omega (arith, s.started t g)
      not_back i b (starts_opening a e) = omega (arith, s.opened a)

      none : (i : ℕ) → i ≤ UD c → Dec (y_back c l (last c) i ≡ 0) → y_back c l (last c) i ≡ 0
      none i b (yes e) = e
      none i b (no e) = absurd (not_back i b (of_back (last c) i (omega (arith, y_back_le c l (last c) i))))

  -- ---- stops
  module _ (k : ℕ) where
    off : 1 ≤ k → k ≤ last c → v c l k ≡ 0 → z c l k ≡ v c l (k - 1)
    off a b = z_at_off c l k a b

    on : 1 ≤ k → k ≤ last c → v c l k ≡ 1 → z c l k ≡ 0
    on a b = z_at_on c l k a b

    stop_of : Stops c l k → z c l k ≡ 1
    stop_of (stops_inside a b o q) = marked (z c l k) k (k - 1) (off a b) (on a b) q o
    stop_of (stops_after i a b e q s) =
        z_after c l k (omega arith)
        ∙ ap (λ j. bit (closes c l j)) (let r : last c + DD c + 1 - k ≡ i = omega arith in r)
        ∙ ap bit (closes_of c l i a b q (of_settled s))

    of_stop : z c l k ≡ 1 → Stops c l k
    of_stop e = go (ℕ_discrete k 0) (dec_lt (last c) k)
      where
        go : Dec (k ≡ 0) → Dec (last c < k) → Stops c l k
        go (yes d) h = absurd (omega (arith, ap (z c l) d, z_zero c l))
        go (no d) (yes h) =
            let i = last c + DD c + 1 - k in
            let (a, b, q, s) = of_closes c l i (bit_true (closes c l i) (sym (z_after c l k h) ∙ e)) in
            stops_after i a b (omega arith) q (settled_of s)
        go (no d) (no h) =
            let a : 1 ≤ k = omega arith in
            let b : k ≤ last c = omega arith in
            stops_inside a b (marked_on (z c l k) k (k - 1) (off a b) (on a b) e)
            (marked_off (z c l k) k (k - 1) (off a b) (on a b) e)

  pub stops : (k : ℕ) → (z c l k ≡ 1) ↔ Stops c l k
  stops k = (of_stop k, stop_of k)

-- ---- the hours since the latest mark, from hour 1 on
module _ (f : ℕ → ℕ) (le : (k : ℕ) → f k ≤ 1) (zero_is : f 0 ≡ 0) (held m n : ℕ) where
  abbrev event : ℕ → Type 0
  event k = f k ≡ 1

  unmarked : (k : ℕ) → (event k → ⊥) → f k ≡ 0
  unmarked k e = go (ℕ_discrete (f k) 0)
    where
      go : Dec (f k ≡ 0) → f k ≡ 0
      go (yes q) = q
      go (no q) = absurd (e (omega (arith, le k)))

  hours_latest : (k s : ℕ) → s ≤ k → event s → ((i : ℕ) → s < i → i ≤ k → event i → ⊥)
      → hours_since held f n k ≡ n - s
  hours_latest zero zero a e q = absurd (omega (arith, zero_is))
  hours_latest zero (suc s) a e q = absurd (omega arith)
  hours_latest (suc k) s a e q = ⊎_elim
      (λ (d : s ≡ suc k). hours_since_mark held f n k (ap f (sym d) ∙ e) ∙ ap (λ x. n - x) (sym d))
      (λ (b : s < suc k).
      hours_since_none held f n k (unmarked (suc k) (q (suc k) b (omega arith)))
      ∙ hours_latest k s (omega arith) e (λ i x w. q i x (omega arith)))
      (eq-or-lt_of_le a)

  hours_never : (k : ℕ) → ((i : ℕ) → i ≤ k → event i → ⊥) → hours_since held f n k ≡ held + n - 1
  hours_never zero q = hours_since_zero held f n
  hours_never (suc k) q =
      hours_since_none held f n k (unmarked (suc k) (q (suc k) (omega arith)))
      ∙ hours_never k (λ i a. q i (omega arith))

  rested_of_hours : (k : ℕ) → suc k ≡ n → m ≤ hours_since held f n k → Rested event held m n
  rested_of_hours k e b =
      record {
        since = λ s t. omega (
          arith,
          hours_latest k s (omega (arith, t.earlier)) t.there (λ i x w. t.quiet i x (omega arith)),
        );
        never = λ q. omega (arith, hours_never k (λ i a. q i (omega arith)));
      }

  hours_of_rested : (k : ℕ) → k < n → ((i : ℕ) → k < i → i < n → event i → ⊥) → Rested event held m n
      → m ≤ hours_since held f n k
  hours_of_rested zero a q r =
      omega (arith, hours_since_zero held f n, r.never none)
    where
      none : (s : ℕ) → s < n → event s → ⊥
      none zero b e = absurd (omega (arith, zero_is))
      none (suc s) b e = q (suc s) (omega arith) b e
  hours_of_rested (suc k) a q r = go (ℕ_discrete (f (suc k)) 0) (λ d. hours_of_rested k (omega arith) (quieter d) r)
    where
      -- no event at hour k + 1 either
      quieter : f (suc k) ≡ 0 → (i : ℕ) → k < i → i < n → event i → ⊥
      quieter d i x w e = ⊎_elim
          (λ (g : suc k ≡ i). omega (arith, ap f g)) (λ (g : suc k < i). q i g w e) (eq-or-lt_of_le x)

      go : Dec (f (suc k) ≡ 0) → (f (suc k) ≡ 0 → m ≤ hours_since held f n k) → m ≤ hours_since held f n (suc k)
      go (yes d) ih = omega (arith, hours_since_none held f n k d, ih d)
      go (no d) ih =
          let mark : f (suc k) ≡ 1 = omega (arith, le (suc k)) in
          let latest : Latest event n (suc k) = record { earlier = a; there = mark; quiet = q } in
          omega (arith, hours_since_mark held f n k mark, r.since (suc k) latest)

-- ---- rules 21 and 22
module _ (c : Case) (l : List ℕ) (k : ℕ) where
  pub up_time_kept : T (rule21 c l (suc k))
      ↔ (z c l (suc k) ≡ 1 → Rested (λ s. y c l s ≡ 1) (h c) c.minup.0 (suc k))
  unfolding rule21
  up_time_kept = (
    λ t e. rested_of_hours (y c l) (y_le c l) (y_zero c l) (h c) c.minup.0 (suc k) k refl
        (time_of (z c l (suc k)) c.minup.0 (hours_since (h c) (y c l) (suc k) k) t e),
    λ f. of_time (z c l (suc k)) c.minup.0 (hours_since (h c) (y c l) (suc k) k) (z_le c l (suc k))
        (λ e. hours_of_rested (y c l) (y_le c l) (y_zero c l) (h c) c.minup.0 (suc k) k (omega arith)
        (λ i a b. absurd (omega arith)) (f e)),
  )

  pub down_time_kept : T (rule22 c l (suc k))
      ↔ (y c l (suc k) ≡ 1 → Rested (λ s. z c l s ≡ 1) (h c) c.mindown.0 (suc k))
  unfolding rule22
  down_time_kept = (
    λ t e. rested_of_hours (z c l) (z_le c l) (z_zero c l) (h c) c.mindown.0 (suc k) k refl
        (time_of (y c l (suc k)) c.mindown.0 (hours_since (h c) (z c l) (suc k) k) t e),
    λ f. of_time (y c l (suc k)) c.mindown.0 (hours_since (h c) (z c l) (suc k) k) (y_le c l (suc k))
        (λ e. hours_of_rested (z c l) (z_le c l) (z_zero c l) (h c) c.mindown.0 (suc k) k (omega arith)
        (λ i a b. absurd (omega arith)) (f e)),
  )
