-- A day that keeps the rules: its windows of starts and stops, and what they say of the outputs. Assumes nothing.
use mathlib.Core.Path.{◌≡◌, refl, sym, ◌∙◌, ap}
use Prim.Native.Nat.{ℕ, zero, suc, ◌+◌, ◌-◌, ◌≤◌, ◌<◌}
use native.Mathlib.Decide.{ℕ_discrete}
use native.Mathlib.Omega.{arith}
use Rattle.cases.specs.declared.Case.{Case}
use Rattle.cases.specs.Symbols.{sum, low, UD, DD, PU, PD}
use Rattle.cases.proofs.LimitsLaws.{Limits}
use Rattle.day.proofs.Automaton.Hours.{back, later, Marks, since, Keeps, KeepsAll}
use Rattle.day.proofs.Automaton.Windows.{Win, sum_win, win_next}
use Rattle.day.proofs.Automaton.Windowed.{on_le, fall_at, Now, now_of_sums, win_sum}
use Rattle.day.proofs.Automaton.Stages.{pu_le, pd_le, pd_first}
use Rattle.day.proofs.Automaton.Nows.{at_start, at_stop, at_run}
use Rattle.day.proofs.Automaton.HoursLaws.{back_le, y_on, z_on, y_shift, z_shift, z_first}
use Rattle.day.proofs.Automaton.HoursLaws.{since_le, since_none}

-- a case within the limits, a day that keeps the rules, and what is known of the hours up to 0
pub record Day (U : Case) (T : ℕ) (past p y z : ℕ → ℕ) (obeys : ℕ → ℕ → Type 0) : Type 0 where
  pub limits : Limits U
  pub marks : Marks T p y z
  pub keeps : KeepsAll U past p y z obeys T
  pub past_le : (i : ℕ) → past i ≤ 1
  pub past_window : (a : ℕ) × Win (UD U) past a
  pub past_none : (j : ℕ) → 1 ≤ j → j < UD U → j < U.elapsed.0 → past j ≡ 0
  pub opening_stop : (t : ℕ) → Win (DD U) (later z 0) t → 1 ≤ t → low U ≤ p 0 → p 0 ≡ fall_at U t

module _ {U : Case} {T : ℕ} {past p y z : ℕ → ℕ} {obeys : ℕ → ℕ → Type 0} (D : Day U T past p y z obeys) where
  keeps_at : (m : ℕ) → suc m ≤ T → Keeps U past p y z obeys (suc m)
  keeps_at m l = D.keeps.each (suc m) (omega arith) l

  -- ---- the windows
  pub start_window : (k : ℕ) → k ≤ T → (a : ℕ) × Win (UD U) (back past y k) a
  start_window zero l = D.past_window
  start_window (suc m) l =
      sum_win (UD U) (back past y (suc m)) (back_le past y D.past_le D.marks.y_le (suc m))
      (omega (arith, (keeps_at m l).hour.r8, on_le (p (suc m))))

  pub stop_window_past : (m : ℕ) → suc m ≤ T → (t : ℕ) × Win (DD U) (later z (suc m)) t
  stop_window_past m l =
      sum_win (DD U) (later z (suc m)) (λ j. D.marks.z_le (suc m + j))
      (omega (arith, (keeps_at m l).hour.r9, on_le (p (suc m))))

  -- an off-line hour has no stop in its window
  off_window : (m : ℕ) (l : suc m ≤ T) (t : ℕ) → Win (DD U) (later z (suc m)) t → p (suc m) ≡ 0 → t ≡ 0
  off_window m l zero w e = refl
  off_window m l (suc t) w e = absurd (omega (arith, rw e at (keeps_at m l).hour.r9, win_sum (suc t) w))

  pub stop_window : (k : ℕ) → k < T → (t : ℕ) × Win (DD U) (later z k) t
  stop_window zero l =
      let (t, w) = stop_window_past 0 l in
      win_next w (later z 0) (z_shift z 0) (D.marks.z_le (0 + 1)) D.limits.falls_pos
      (λ g. off_window 0 l t w (stopped (ℕ_discrete (p 1) 0) (sym (z_first z 0) ∙ g)))
    where
      stopped : Dec (p 1 ≡ 0) → z 1 ≡ 1 → p 1 ≡ 0
      stopped (yes q) g = q
      stopped (no q) g = absurd (omega (arith, z_on D.marks l (omega arith)))
  stop_window (suc m) l = stop_window_past m (omega arith)

  -- ---- what the rules say
  pub now : (m : ℕ) (l : suc m ≤ T) {a t s : ℕ} → Win (UD U) (back past y (suc m)) a
      → Win (DD U) (later z (suc m)) t → Win (DD U) (later z m) s
      → Now U (p (suc m)) (p m) (y (suc m)) (z (suc m)) a t s (sum (λ i. z (suc m + i - 1)) (UD U + DD U - 1))
  now m l wa wt ws = now_of_sums U past p y z m wa wt ws (keeps_at m l).hour

  pub start_at : (m : ℕ) (l : suc m ≤ T) (a : ℕ) → Win (UD U) (back past y (suc m)) a → 1 ≤ a → p (suc m) ≡ PU U a
  start_at m l zero w h = absurd (omega arith)
  start_at m l (suc a) w h =
      let (t, wt) = stop_window_past m l in
      let (s, ws) = stop_window m l in
      at_start U D.limits (p m) (y (suc m)) (z (suc m)) s _ (p (suc m)) a t (now m l w wt ws)
      (pu_le U D.limits (suc a) h w.fits)

  pub stop_at : (m : ℕ) (l : suc m ≤ T) (t : ℕ) → Win (DD U) (later z (suc m)) t → 1 ≤ t → p (suc m) ≡ fall_at U t
  stop_at m l zero w h = absurd (omega arith)
  stop_at m l (suc t) w h =
      let (a, wa) = start_window (suc m) l in
      let (s, ws) = stop_window m l in
      at_stop U D.limits (p m) (y (suc m)) (z (suc m)) s _ (p (suc m)) a t (now m l wa w ws)
      (pd_le U D.limits _ (omega (arith, w.fits)) (omega arith))

  -- a stop in the window of an hour at the minimum or above is DD hours ahead
  pub at_low : (k : ℕ) → k < T → low U ≤ p k → (t : ℕ) → Win (DD U) (later z k) t → 1 ≤ t → (t ≡ DD U) × (p k ≡ low U)
  at_low k l o t w h =
      let e : p k ≡ fall_at U t = go k l o w in
      let f : suc (DD U) - t ≡ 1 =
      pd_first U D.limits (suc (DD U) - t) (omega (arith, w.fits)) (omega arith) (omega arith) in
      (omega (arith, w.fits), e ∙ ap (PD U) f ∙ D.limits.fall_top)
    where
      go : (k : ℕ) → k < T → low U ≤ p k → Win (DD U) (later z k) t → p k ≡ fall_at U t
      go zero l o w = D.opening_stop t w h o
      go (suc m) l o w = stop_at m (omega arith) t w h

  -- on-line for longer than the start sequence: no start in the next hour's window
  pub no_start : (k : ℕ) → k < T → 1 ≤ p k → UD U ≤ since y U.elapsed.0 k
      → (a : ℕ) → Win (UD U) (back past y (suc k)) a → a ≡ 0
  no_start k l o u zero w = refl
  no_start k l o u (suc zero) w = absurd (omega (arith, w.here (omega arith), y_on D.marks l o))
  no_start k l o u (suc (suc j)) w =
      let shifted = sym (y_shift past y k (suc j) (omega arith)) ∙ w.here (omega arith) in
      let none = since_none y U.elapsed.0 past (UD U) D.past_none D.marks.y_le k (suc j) (omega arith)
      w.fits (omega (arith, w.fits)) in
      absurd (omega (arith, shifted, none))

  -- with no stop in the last window, an on-line hour out of the start sequence is at the minimum or above
  pub above_low : (k : ℕ) (l : k < T) → Win (DD U) (later z k) 0 → Win (UD U) (back past y (suc k)) 0
      → (t : ℕ) → Win (DD U) (later z (suc k)) t → 1 ≤ p (suc k) → low U ≤ p (suc k)
  above_low k l ws wa zero wt o = go (p (suc k)) o (now k l wa wt ws)
    where
      go : (x : ℕ) → 1 ≤ x
          → Now U x (p k) (y (suc k)) (z (suc k)) 0 0 0 (sum (λ i. z (suc k + i - 1)) (UD U + DD U - 1)) → low U ≤ x
      go zero o h = absurd (omega arith)
      go (suc x) o h = at_run U D.limits (p k) (y (suc k)) (z (suc k)) 0 _ x h
  above_low k l ws wa (suc t) wt o = go (ℕ_discrete (suc t) (DD U))
    where
      go : Dec (suc t ≡ DD U) → low U ≤ p (suc k)
      go (yes e) =
          let first : suc (DD U) - suc t ≡ 1 = omega arith in
          omega (arith, stop_at k l (suc t) wt (omega arith), ap (PD U) first, D.limits.fall_top)
      go (no e) =
          let none = ws.zeros (suc (suc t)) (omega arith) (omega (arith, wt.fits)) (omega arith) in
          absurd (omega (arith, sym (z_shift z k (suc t) (omega arith)) ∙ none, wt.here (omega arith)))

  -- rule 21 of a stop j hours after the next
  pub up_time_ahead : (k j : ℕ) → later z (suc k) j ≡ 1 → U.minup.0 ≤ since y U.elapsed.0 k + j
  up_time_ahead k j e =
      omega (arith, D.keeps.up_time_kept (k + j) (ap z (omega arith) ∙ e), since_le y U.elapsed.0 j k)
