-- Every day that keeps the rules is run through by the automaton, step by step. Assumes nothing.
use mathlib.Core.Path.{◌≡◌, refl, sym, ◌∙◌, ap}
use mathlib.Core.Logic.{◌≢◌}
use Prim.Native.Nat.{ℕ, zero, suc, ◌+◌, ◌-◌, ◌≤◌, ◌<◌}
use native.Mathlib.Decide.{ℕ_discrete}
use native.Mathlib.Omega.{arith}
use Rattle.cases.specs.declared.Case.{Case}
use Rattle.cases.specs.Symbols.{low, UD, DD, PU, PD}
use Rattle.day.proofs.Automaton.Hours.{back, later, since, Acc}
use Rattle.day.specs.Automaton.{St, off, up, run, down, Step, stay, start, start1, climb, reach, hold, leave}
use Rattle.day.specs.Automaton.{leave1, sink, land}
use Rattle.day.proofs.Automaton.Windows.{Win, win_the}
use Rattle.day.proofs.Automaton.Stages.{pu_pos, pd_pos}
use Rattle.day.proofs.Automaton.Nows.{at_top, ramp_up, ramp_down}
use Rattle.day.proofs.Automaton.HoursLaws.{y_on, y_go, z_on, z_off, z_go, y_shift, z_first}
use Rattle.day.proofs.Automaton.HoursLaws.{since_go, since_new}
use Rattle.day.proofs.Automaton.Kept.{Day, start_window, stop_window, stop_window_past, now}
use Rattle.day.proofs.Automaton.Kept.{start_at, stop_at, at_low}
use Rattle.day.proofs.Automaton.Kept.{no_start}
use Rattle.day.proofs.Automaton.Kept.{above_low, up_time_ahead}

-- what the state says of the day, at hour k
abbrev pub Inv : Case → (ℕ → ℕ) → (ℕ → ℕ) → (ℕ → ℕ) → (ℕ → ℕ) → ℕ → St → Type 0
Inv U past p y z k (off d) = (p k ≡ 0) × (since z U.elapsed.0 k ≡ d)
Inv U past p y z k (up i) =
    (1 ≤ p k) × (since y U.elapsed.0 k ≡ i) × (1 ≤ i) × (i < UD U) × (back past y k i ≡ 1)
Inv U past p y z k (run r u) = (p k ≡ r) × (since y U.elapsed.0 k ≡ u) × (low U ≤ r) × (UD U ≤ u)
Inv U past p y z k (down i) = (1 ≤ p k) × (2 ≤ i) × (i ≤ DD U) × (later z k (suc (DD U) - i) ≡ 1)

module _ {U : Case} {T : ℕ} {past p y z : ℕ → ℕ} {obeys : ℕ → ℕ → Type 0} (D : Day U T past p y z obeys) where
  abbrev Next : ℕ → St → Type 0
  Next k s = (t : St) × Step U (p (suc k)) s t × Inv U past p y z (suc k) t

  next_off : (k : ℕ) → k < T → (d : ℕ) → Inv U past p y z k (off d) → Next k (off d)
  next_off k l d v = go (ℕ_discrete (p (suc k)) 0)
    where
      begun : y (suc k) ≡ 1 → p (suc k) ≡ PU U 1 → Dec (UD U ≡ 1) → Next k (off d)
      begun e q (yes u) =
          let low : p (suc k) ≡ low U = q ∙ ap (PU U) (sym u) ∙ D.limits.rise_top in
          let rest = D.keeps.down_time_kept k e in (
            run (p (suc k)) 1,
            start1 d low (omega arith) u,
            (refl, since_new y U.elapsed.0 k e, omega arith, omega arith),
          )
      begun e q (no u) =
          let rest = D.keeps.down_time_kept k e in
          let more : 1 < UD U = omega (arith, D.limits.rises_pos) in (
            up 1,
            start d q (omega arith) more,
            (omega (arith, D.limits.rise_pos), since_new y U.elapsed.0 k e, omega arith, more, e),
          )

      go : Dec (p (suc k) ≡ 0) → Next k (off d)
      go (yes e) =
          (off (suc d), stay d e, (e, since_go z U.elapsed.0 k (z_off D.marks l v.0) ∙ ap suc v.1))
      go (no e) =
          let begins : y (suc k) ≡ 1 = y_go D.marks l v.0 (omega arith) in
          let (a, wa) = start_window D (suc k) l in
          let one : 1 ≡ a = win_the wa 1 (omega arith) D.limits.rises_pos begins in
          begun begins (start_at D k l a wa (omega arith) ∙ ap (PU U) (sym one)) (ℕ_discrete (UD U) 1)

  next_up : (k : ℕ) → k < T → (i : ℕ) → Inv U past p y z k (up i) → Next k (up i)
  next_up k l i v =
      let (a, wa) = start_window D (suc k) l in
      let place : suc i ≡ a = win_the wa (suc i) (omega arith) v.3 shifted in
      go (start_at D k l a wa (omega arith) ∙ ap (PU U) (sym place))
      (since_go y U.elapsed.0 k (y_on D.marks l v.0) ∙ ap suc v.1) (ℕ_discrete (suc i) (UD U))
    where
      shifted : back past y (suc k) (suc i) ≡ 1
      shifted = y_shift past y k i v.2 ∙ v.4

      go : p (suc k) ≡ PU U (suc i) → since y U.elapsed.0 (suc k) ≡ suc i → Dec (suc i ≡ UD U) → Next k (up i)
      go q e (yes u) =
          let low : p (suc k) ≡ low U = q ∙ ap (PU U) u ∙ D.limits.rise_top in
          (run (p (suc k)) (suc i), reach i low u, (refl, e, omega arith, omega arith))
      go q e (no u) =
          let on = pu_pos U D.limits (suc i) (omega arith) v.3 in
          (up (suc i), climb i q (omega (arith, v.3)), (omega arith, e, omega arith, omega (arith, v.3), shifted))

  next_run : (k : ℕ) → k < T → (r u : ℕ) → Inv U past p y z k (run r u) → Next k (run r u)
  next_run k l r u v = let (t, wt) = stop_window D k l in go t wt (ℕ_discrete (p (suc k)) 0) (ℕ_discrete t 0)
    where
      on_k : 1 ≤ p k
      on_k = omega (arith, D.limits.minimum_pos)

      -- no stop is near
      held : Win (DD U) (later z k) 0 → 1 ≤ p (suc k) → Next k (run r u)
      held w o =
          let (a, wa) = start_window D (suc k) l in
          let w0 : Win (UD U) (back past y (suc k)) 0 = rw (no_start D k l on_k (omega arith) a wa) at wa in
          let (t, wt) = stop_window_past D k l in
          let h = now D k l w0 wt w in
          let lo = above_low D k l w w0 t wt o in
          let hi = at_top U D.limits (p k) (y (suc k)) (z (suc k)) 0 _ (p (suc k)) t h in
          let ru = ramp_up U D.limits (p k) (y (suc k)) (z (suc k)) 0 _ (p (suc k)) t h in
          let rd = ramp_down U D.limits (p (suc k)) (p k) (y (suc k)) (z (suc k)) 0 t _ h in (
            run (p (suc k)) (suc u),
            hold r u lo hi (omega arith) (omega arith),
            (refl, since_go y U.elapsed.0 k (y_on D.marks l on_k) ∙ ap suc v.1, lo, omega arith),
          )

      -- the stop is DD hours ahead
      left : p k ≡ low U → 1 ≢ DD U → later z (suc k) (DD U - 1) ≡ 1 → Next k (run r u)
      left pl d2 z1 =
          let two : 1 < DD U = omega (arith, D.limits.falls_pos) in
          let (t, wt) = stop_window_past D k l in
          let place : DD U - 1 ≡ t = win_the wt (DD U - 1) (omega arith) (omega arith) z1 in
          let q : p (suc k) ≡ PD U 2 = stop_at D k l t wt (omega arith) ∙ ap (PD U) (omega arith) in
          let rest : suc (DD U) - 2 ≡ DD U - 1 = omega arith in
          let on = pd_pos U D.limits 2 (omega arith) two in (
            down 2,
            leave r u q (omega arith) (omega (arith, up_time_ahead D k (DD U - 1) z1)) two,
            (omega arith, omega arith, two, ap (later z (suc k)) rest ∙ z1),
          )

      go : (t : ℕ) → Win (DD U) (later z k) t → Dec (p (suc k) ≡ 0) → Dec (t ≡ 0) → Next k (run r u)
      go t w (yes e) _ =
          let z1 : z (suc k) ≡ 1 = z_go D.marks l on_k e in
          let t1 : 1 ≡ t = win_the w 1 (omega arith) D.limits.falls_pos (z_first z k ∙ z1) in
          let (td, pl) = at_low D k l (omega arith) t w (omega arith) in
          let age = D.keeps.up_time_kept k z1 in
          (off 1, leave1 r u e (omega arith) (omega arith) (omega arith), (e, since_new z U.elapsed.0 k z1))
      go t w (no e) (yes t0) = held (rw t0 at w) (omega arith)
      go t w (no e) (no t0) =
          let (td, pl) = at_low D k l (omega arith) t w (omega arith) in
          let stop : z (k + t) ≡ 1 = w.here (omega arith) in
          let on : z (suc k) ≡ 0 = z_on D.marks l (omega arith) in
          left pl (λ d. absurd (omega (arith, stop, on, ap z (let g : k + t ≡ suc k = omega arith in g))))
          (ap z (let g : suc k + (DD U - 1) ≡ k + t = omega (arith, D.limits.falls_pos) in g) ∙ stop)

  next_down : (k : ℕ) → k < T → (i : ℕ) → Inv U past p y z k (down i) → Next k (down i)
  next_down k l i v = go (ℕ_discrete i (DD U)) (ℕ_discrete (p (suc k)) 0)
    where
      go : Dec (i ≡ DD U) → Dec (p (suc k) ≡ 0) → Next k (down i)
      go (yes e) (yes q) = (off 1, land i q e, (q, since_new z U.elapsed.0 k (z_go D.marks l v.0 q)))
      go (yes e) (no q) =
          let next : k + (suc (DD U) - i) ≡ suc k = omega arith in
          absurd (omega (arith, z_on D.marks l (omega arith), ap z next, v.3))
      go (no e) _ =
          let bound = v.2 in
          let stop : later z (suc k) (DD U - i) ≡ 1 =
          ap z (let g : suc k + (DD U - i) ≡ k + (suc (DD U) - i) = omega arith in g) ∙ v.3 in
          let (t, wt) = stop_window_past D k l in
          let place : DD U - i ≡ t = win_the wt (DD U - i) (omega arith) (omega arith) stop in
          let q : p (suc k) ≡ PD U (suc i) = stop_at D k l t wt (omega arith) ∙ ap (PD U) (omega arith) in
          let on = pd_pos U D.limits (suc i) (omega arith) (omega arith) in
          let rest : suc (DD U) - suc i ≡ DD U - i = omega arith in (
            down (suc i),
            sink i q (omega arith),
            (omega arith, omega (arith, v.1), omega arith, ap (later z (suc k)) rest ∙ stop),
          )

  next : (k : ℕ) → k < T → (s : St) → Inv U past p y z k s → Next k s
  next k l (off d) v = next_off k l d v
  next k l (up i) v = next_up k l i v
  next k l (run r u) v = next_run k l r u v
  next k l (down i) v = next_down k l i v

  pub complete : (last : St → Type 0) → ((s : St) → Inv U past p y z T s → last s)
      → (n k : ℕ) (s : St) → k + n ≡ T → Inv U past p y z k s → Acc U p last obeys n k s
  complete last f zero k s e v = f s (rw (let q : k ≡ T = omega arith in q) at v)
  complete last f (suc n) k s e v =
      let (t, g, w) = next k (omega arith) s v in
      (t, g, (D.keeps.each (suc k) (omega arith) (omega arith)).ordered, complete last f n (suc k) t (omega arith) w)
