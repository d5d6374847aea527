-- Windows by their places in a list, and by the tests that go over it pair by pair. Assumes nothing.
use mathlib.Core.Path.{◌≡◌, refl, sym, ap, ◌∙◌}
use mathlib.Core.Logic.{◌⊎◌, ⊎_elim}
use mathlib.Core.Bool.{◌&&◌, and_assoc}
use mathlib.Core.List.{List, [], ◌∷◌}
use Prim.Native.Nat.{ℕ, zero, suc, ◌+◌, ◌*◌, ◌≤◌, ◌<◌}
use native.Mathlib.Omega.{arith}
use lib.Dec.{T, leb, ltb, leb→le, le→leb, ltb→lt, lt→ltb}
use lib.ListN.{get_or}
use Rattle.laws.proofs.Tests.{and_to_both, both_to_and, or_to_either, left_to_or, right_to_or}
use Rattle.cases.specs.Limits.{year_hours}
use Rattle.model.specs.Calendar.{windows_from, spans, covers}
use Rattle.model.specs.Windows.{begin, end, Windows, InWindow, window}

-- window i of a list is window i + 1 with a window before it
module _ (a n : ℕ) (l : List ℕ) where
  pub begin_suc : (i : ℕ) → begin (a ∷ n ∷ l) (suc i) ≡ begin l i
  begin_suc i = ap (λ j. get_or (a ∷ n ∷ l) j 0) (let e : 2 * suc i ≡ suc (suc (2 * i)) = omega arith in e)

  pub end_suc : (i : ℕ) → end (a ∷ n ∷ l) (suc i) ≡ end l i
  end_suc i =
      let e : 2 * suc i + 1 ≡ suc (suc (2 * i + 1)) = omega arith in
      let f = ap (λ j. get_or (a ∷ n ∷ l) j 0) e in
      let g = begin_suc i in
      cc

-- ---- the hours of the windows
pub spans_hour : (a n t : ℕ) → T (spans a n t) → (a ≤ t) × (t < a + n)
unfolding spans
spans_hour a n t h =
    let (p, q) = and_to_both (leb a t) (ltb t (a + n)) h in
    (leb→le a t p, ltb→lt t (a + n) q)

pub hour_spans : (a n t : ℕ) → a ≤ t → t < a + n → T (spans a n t)
unfolding spans
hour_spans a n t p q = both_to_and (leb a t) (ltb t (a + n)) (le→leb a t p) (lt→ltb t (a + n) q)

-- the first window of a list, or those after it
pub covers_cons : (a n : ℕ) (l : List ℕ) (t : ℕ) → T (covers (a ∷ n ∷ l) t) → T (spans a n t) ⊎ T (covers l t)
unfolding covers
covers_cons a n l t = or_to_either (spans a n t) (covers l t)

in_later : (a n : ℕ) {l : List ℕ} {t : ℕ} → InWindow l t → InWindow (a ∷ n ∷ l) t
in_later a n {l} (window i room b e) =
    window (suc i) (omega arith) (omega (arith, begin_suc a n l i)) (omega (arith, end_suc a n l i))

pub covers_in : (l : List ℕ) (t : ℕ) → T (covers l t) → InWindow l t
unfolding covers
covers_in [] t h = absurd h
covers_in (a ∷ []) t h = absurd h
covers_in (a ∷ n ∷ l) t h =
    ⊎_elim (λ x. let (p, q) = spans_hour a n t x in window 0 (omega arith) p q) (λ x. in_later a n (covers_in l t x))
    (covers_cons a n l t h)

pub in_covers : (l : List ℕ) (t : ℕ) → InWindow l t → T (covers l t)
unfolding covers
in_covers [] t (window i room b e) = absurd (omega arith)
in_covers (a ∷ []) t (window i room b e) = absurd (omega arith)
in_covers (a ∷ n ∷ l) t (window zero room b e) = left_to_or (spans a n t) (covers l t) (hour_spans a n t b e)
in_covers (a ∷ n ∷ l) t (window (suc i) room b e) =
    right_to_or (spans a n t) (covers l t)
    (in_covers l t (window i (omega arith) (omega (arith, begin_suc a n l i)) (omega (arith, end_suc a n l i))))

-- ---- the windows of a list
-- they are windows, and the first begins at `from` or later
pub record Standing (from : ℕ) (l : List ℕ) : Type 0 where
  pub windows : Windows l
  pub after : 0 < windows.count → from ≤ begin l 0

-- the test of a list, by that of its first window
pub windows_from_cons : (from a n : ℕ) (l : List ℕ) → windows_from from (a ∷ n ∷ l)
    ≡ (leb from a && (leb 1 n && leb (a + n) year_hours)) && windows_from (a + n) l
unfolding windows_from
windows_from_cons from a n l =
    let w = windows_from (a + n) l in
    ap (λ t. leb from a && t) (sym (and_assoc (leb 1 n) (leb (a + n) year_hours) w))
    ∙ sym (and_assoc (leb from a) (leb 1 n && leb (a + n) year_hours) w)

-- what it says of that window
pub windows_cons : (from a n : ℕ) (l : List ℕ) → T (windows_from from (a ∷ n ∷ l))
    → (from ≤ a) × (1 ≤ n) × (a + n ≤ year_hours) × T (windows_from (a + n) l)
unfolding windows_from
windows_cons from a n l h =
    let (x, h₁) = and_to_both (leb from a) (leb 1 n && (leb (a + n) year_hours && windows_from (a + n) l)) h in
    let (y, h₂) = and_to_both (leb 1 n) (leb (a + n) year_hours && windows_from (a + n) l) h₁ in
    let (z, w) = and_to_both (leb (a + n) year_hours) (windows_from (a + n) l) h₂ in
    (leb→le from a x, leb→le 1 n y, leb→le (a + n) year_hours z, w)

pub cons_windows : (from a n : ℕ) (l : List ℕ) → from ≤ a → 1 ≤ n → a + n ≤ year_hours → T (windows_from (a + n) l)
    → T (windows_from from (a ∷ n ∷ l))
unfolding windows_from
cons_windows from a n l x y z w =
    both_to_and (leb from a) (leb 1 n && (leb (a + n) year_hours && windows_from (a + n) l)) (le→leb from a x)
    (both_to_and (leb 1 n) (leb (a + n) year_hours && windows_from (a + n) l) (le→leb 1 n y)
    (both_to_and (leb (a + n) year_hours) (windows_from (a + n) l) (le→leb (a + n) year_hours z) w))

-- one window before others
stand_cons : (from a n : ℕ) (l : List ℕ) → from ≤ a → 1 ≤ n → a + n ≤ year_hours → Standing (a + n) l
    → Standing from (a ∷ n ∷ l)
stand_cons from a n l x y z s = record { windows = windows; after = λ h. x }
  where
    held : (i : ℕ) → i < suc s.windows.count → begin (a ∷ n ∷ l) i < end (a ∷ n ∷ l) i
    held zero h = omega arith
    held (suc i) h =
        omega (arith, begin_suc a n l i, end_suc a n l i, s.windows.held i (omega arith))

    inside : (i : ℕ) → i < suc s.windows.count → end (a ∷ n ∷ l) i ≤ year_hours
    inside zero h = z
    inside (suc i) h = omega (arith, end_suc a n l i, s.windows.inside i (omega arith))

    apart : (i : ℕ) → suc i < suc s.windows.count → end (a ∷ n ∷ l) i ≤ begin (a ∷ n ∷ l) (suc i)
    apart zero h = s.after (omega arith)
    apart (suc i) h =
        omega (arith, end_suc a n l i, begin_suc a n l (suc i), s.windows.apart i (omega arith))

    windows : Windows (a ∷ n ∷ l)
    windows =
        record {
          count = suc s.windows.count;
          whole = omega (arith, s.windows.whole);
          held = held;
          inside = inside;
          apart = apart;
        }

pub windows_from_stand : (from : ℕ) (l : List ℕ) → T (windows_from from l) → Standing from l
unfolding windows_from
windows_from_stand from [] h =
    record {
      windows =
          record {
            count = 0;
            whole = refl;
            held = λ i k. absurd (omega arith);
            inside = λ i k. absurd (omega arith);
            apart = λ i k. absurd (omega arith);
          };
      after = λ k. absurd (omega arith);
    }
windows_from_stand from (a ∷ []) h = absurd h
windows_from_stand from (a ∷ n ∷ l) h =
    let (x, y, z, w) = windows_cons from a n l h in
    stand_cons from a n l x y z (windows_from_stand (a + n) l w)

pub windows_of : (l : List ℕ) → T (windows_from 0 l) → Windows l
windows_of l h = (windows_from_stand 0 l h).windows

-- the windows after the first
windows_tail : (a n : ℕ) (l : List ℕ) (w : Windows (a ∷ n ∷ l)) → Standing (a + n) l
windows_tail a n l w = go w.count refl
  where
    go : (m : ℕ) → w.count ≡ m → Standing (a + n) l
    go zero e = absurd (omega (arith, w.whole))
    go (suc m) e =
        record {
          windows =
              record {
                count = m;
                whole = omega (arith, w.whole);
                held = λ i h. omega (arith, begin_suc a n l i, end_suc a n l i, w.held (suc i) (omega arith));
                inside = λ i h. omega (arith, end_suc a n l i, w.inside (suc i) (omega arith));
                apart = λ i h. omega (arith, end_suc a n l i, begin_suc a n l (suc i), w.apart (suc i) (omega arith));
              };
          after = λ h. w.apart 0 (omega arith);
        }

stand_windows_from : (from : ℕ) (l : List ℕ) → Standing from l → T (windows_from from l)
unfolding windows_from
stand_windows_from from [] s = tt
stand_windows_from from (a ∷ []) s = absurd (omega (arith, s.windows.whole))
stand_windows_from from (a ∷ n ∷ l) s =
    let w = s.windows in
    let some : 0 < w.count = omega (arith, w.whole) in
    cons_windows from a n l (s.after some) (omega (arith, w.held 0 some)) (w.inside 0 some)
    (stand_windows_from (a + n) l (windows_tail a n l w))

pub of_windows : (l : List ℕ) → Windows l → T (windows_from 0 l)
of_windows l w = stand_windows_from 0 l (record { windows = w; after = λ h. omega arith })
