-- Limits and orders of a day by the windows that hold its hours, as the definitions test them and as they are
-- published. Assumes nothing.
use mathlib.Core.Path.{◌≡◌, refl, sym, ap, subst, ◌∙◌}
use mathlib.Core.Logic.{◌↔◌}
use mathlib.Core.Bool.{Bool, true, false, ◌&&◌, not, cond, false≢true}
use mathlib.Core.List.{List, []}
use Prim.Native.Nat.{ℕ, zero, suc, ◌+◌, ◌-◌, ◌≤◌, ◌<◌}
use native.Mathlib.Omega.{arith}
use borrow.Author.Tests.{leb-true, le-leb, not-false}
use lib.Dec.{leb}
use lib.ListN.{get_or}
use Rattle.laws.proofs.Tests.{both, t_to_true, true_to_t}
use Rattle.cases.specs.Limits.{most_hours, year_hours, short_day, long_day}
use Rattle.cases.specs.Symbols.{every, before}
use Rattle.cases.specs.Layout.{padded}
use Rattle.cases.specs.Refusals.{within, first_of}
use Rattle.model.specs.Calendar.{windows_from, covers, order_in, is_day, refusal14, refusal15, filled_orders}
use Rattle.model.specs.Calendar.{calendar_tests}
use Rattle.cases.specs.Published.{FirstRefused, none}
use Rattle.model.specs.Windows.{InWindow, CalendarLimited, limit14, limit15, calendar_order, GivesOrder, free}
use Rattle.model.specs.Windows.{on_line, off_line}
use Rattle.cases.proofs.LimitsLaws.{within_true, between_within, every_true, all_every, first_zero}
use Rattle.cases.proofs.SymbolsLaws.{before_is}
use Rattle.cases.proofs.RefusalsLaws.{first_exactly, first_test}
use Rattle.cases.proofs.LayoutLaws.{get_d_padded_in, padded_same}
use Rattle.cases.proofs.ZeroedLaws.{every_same}
use Rattle.model.proofs.WindowsLaws.{covers_in, in_covers, windows_of, of_windows}

-- ---- the orders of the year
-- an hour in no window of a list
uncovered : (l : List ℕ) (t : ℕ) → (InWindow l t → ⊥) → covers l t ≡ false
uncovered l t out = go (covers l t) refl
  where
    go : (b : Bool) → covers l t ≡ b → covers l t ≡ false
    go true e = absurd (out (covers_in l t (true_to_t (covers l t) e)))
    go false e = e

covered : (l : List ℕ) (t : ℕ) → InWindow l t → covers l t ≡ true
covered l t w = t_to_true (covers l t) (in_covers l t w)

pub free_hour : (on off : List ℕ) (t : ℕ) → (InWindow on t → ⊥) → (InWindow off t → ⊥) → order_in on off t ≡ 0
unfolding order_in
free_hour on off t a b = rw (uncovered on t a, uncovered off t b)

-- an order that the lists give an hour that is not in both
given_order : (on off : List ℕ) (t : ℕ) {n : ℕ} → (InWindow on t → InWindow off t → ⊥) → GivesOrder on off t n
    → n ≡ order_in on off t
unfolding order_in
given_order on off t apart (free a b) = sym (free_hour on off t a b)
given_order on off t apart (on_line w) = rw (covered on t w)
given_order on off t apart (off_line w) = rw (uncovered on t (λ v. apart v w), covered off t w)

-- an hour that is not in both lists
apart : (on off : List ℕ) (t : ℕ) → not (covers on t && covers off t) ≡ true → InWindow on t → InWindow off t → ⊥
apart on off t e v w =
    let a = covered on t v in
    let b = covered off t w in
    false≢true (cc)

not_both : (on off : List ℕ) (t : ℕ) → (InWindow on t → InWindow off t → ⊥) → not (covers on t && covers off t) ≡ true
not_both on off t h = go (covers on t) (covers off t) refl refl
  where
    go : (a b : Bool) → covers on t ≡ a → covers off t ≡ b → not (a && b) ≡ true
    go true true e f =
        absurd (h (covers_in on t (true_to_t (covers on t) e)) (covers_in off t (true_to_t (covers off t) f)))
    go true false e f = refl
    go false b e f = refl

-- a record has room for the hours of a day
pub day_room : (first hours : ℕ) → true ≡ is_day first hours → hours ≤ most_hours
day_room first hours e =
    let (d, y) = both (within short_day long_day hours) (leb (first + hours) year_hours) (sym e) in
    omega (arith, within_true short_day long_day hours d)

module _ (on off : List ℕ) (first hours : ℕ) where
  -- ---- as the tests of the parts, and hour by hour
  pub first_of_parts : {d a b m : Bool} → d ≡ is_day first hours → a ≡ windows_from 0 on → b ≡ windows_from 0 off
      → m ≡ refusal15 on off first hours
      → cond (not (d && (a && b))) 14 (cond m 15 0) ≡ first_of (calendar_tests on off first hours [])
  unfolding first_of calendar_tests refusal14
  first_of_parts ed ea eb em = rw (sym ed, sym ea, sym eb, sym em) refl

  pub refusal15_hours : (f : ℕ → Bool)
      → ((i : ℕ) → i < hours → f (suc i) ≡ not (covers on (first + i) && covers off (first + i)))
      → not (every f hours) ≡ refusal15 on off first hours
  unfolding refusal15
  refusal15_hours f h = ap not (every_same f _ hours at)
    where
      at : (k : ℕ) → 1 ≤ k → k ≤ hours → f k ≡ not (covers on (first + before k) && covers off (first + before k))
      at zero a b = absurd (omega arith)
      at (suc i) a b = h i (omega arith)

  pub filled_orders_hours : (f : ℕ → ℕ) → ((i : ℕ) → i < hours → f i ≡ order_in on off (first + i))
      → padded 0 f hours most_hours ≡ filled_orders on off first hours
  unfolding filled_orders
  filled_orders_hours f h = padded_same 0 f (λ i. order_in on off (first + i)) hours most_hours h

  -- ---- 14 and 15
  tested14 : (refusal14 on off first hours ≡ false) ↔ CalendarLimited on off first hours 14
  unfolding refusal14
  tested14 = (to, from)
    where
      to : refusal14 on off first hours ≡ false → CalendarLimited on off first hours 14
      to e =
          let (d, w) = both (is_day first hours) (windows_from 0 on && windows_from 0 off) (not-false _ e) in
          let (n, y) = both (within short_day long_day hours) (leb (first + hours) year_hours) d in
          let (a, b) = both (windows_from 0 on) (windows_from 0 off) w in
          limit14 (windows_of on (true_to_t _ a)) (windows_of off (true_to_t _ b)) (within_true short_day long_day hours n)
          (leb-true (first + hours) year_hours y)

      from : CalendarLimited on off first hours 14 → refusal14 on off first hours ≡ false
      from (limit14 a b d y) =
          rw (
            between_within short_day long_day hours d,
            le-leb (first + hours) year_hours y,
            t_to_true (windows_from 0 on) (of_windows on a),
            t_to_true (windows_from 0 off) (of_windows off b),
          )

  -- hour t of the year is hour t − first + 1 of the day
  tested15 : (refusal15 on off first hours ≡ false) ↔ CalendarLimited on off first hours 15
  unfolding refusal15
  tested15 = (λ e. limit15 (to e), from)
    where
      to : refusal15 on off first hours ≡ false
          → (t : ℕ) → first ≤ t → t < first + hours → InWindow on t → InWindow off t → ⊥
      to e t a b =
          let k : ℕ = suc (t - first) in
          let at : first + before k ≡ t = omega arith in
          apart on off t
          (subst (λ t. not (covers on t && covers off t) ≡ true) at
          (every_true _ hours (not-false _ e) k (omega arith) (omega arith)))

      from : CalendarLimited on off first hours 15 → refusal15 on off first hours ≡ false
      from (limit15 clear) =
          ap not
          (all_every _ hours (λ k a b. not_both on off (first + before k)
          (clear (first + before k) (omega arith) (omega (arith, before_is k)))))

  -- the first of 14 and 15 whose limits are not kept
  pub clash : (n : ℕ) → FirstRefused (CalendarLimited on off first hours) calendar_order n
      → first_of (calendar_tests on off first hours []) ≡ n
  unfolding first_of calendar_tests
  clash n =
      let second = first_test (refusal15 on off first hours) tested15 none in
      (first_exactly (first_test (refusal14 on off first hours) tested14 second) n).1

  -- where neither applies, the limits of both are kept
  kept : FirstRefused (CalendarLimited on off first hours) calendar_order 0
      → CalendarLimited on off first hours 14 × CalendarLimited on off first hours 15
  unfolding first_of calendar_tests
  kept f =
      let (a, r) = first_zero 13 (refusal14 on off first hours) _ (clash 0 f) in
      (tested14.0 a, tested15.0 (first_zero 14 (refusal15 on off first hours) 0 r).0)

  filled_at : CalendarLimited on off first hours 14 → (i : ℕ) → i < hours
      → get_or (filled_orders on off first hours) i 0 ≡ order_in on off (first + i)
  unfolding filled_orders
  filled_at (limit14 v w d y) i h =
      get_d_padded_in 0 (λ i. order_in on off (first + i)) hours most_hours 0 i h (omega (arith, d.1))

  given_at : CalendarLimited on off first hours 15 → (i : ℕ) → i < hours → {n : ℕ} → GivesOrder on off (first + i) n
      → n ≡ order_in on off (first + i)
  given_at (limit15 clear) i h g = given_order on off (first + i) (clear (first + i) (omega arith) (omega arith)) g

  -- then the lists give each hour of the day its order
  pub filled_given : FirstRefused (CalendarLimited on off first hours) calendar_order 0 → (i : ℕ) → i < hours → {n : ℕ}
      → GivesOrder on off (first + i) n → get_or (filled_orders on off first hours) i 0 ≡ n
  filled_given f i h g = let (l, m) = kept f in filled_at l i h ∙ sym (given_at m i h g)
