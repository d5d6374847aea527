-- An hour of a day that the automaton runs through: its own constraints, and its ramp limits, from the states at its
-- ends. Assumes nothing.
use mathlib.Core.Path.{◌≡◌, sym, ◌∙◌, ap}
use mathlib.Core.Logic.{◌⊎◌, inl, inr, ⊎_elim}
use Prim.Native.Nat.{ℕ, suc, ◌+◌, ◌≤◌, ◌<◌}
use native.Mathlib.Omega.{arith}
use Rattle.cases.specs.declared.Case.{Case}
use Rattle.cases.specs.Symbols.{RU, RD, UD, DD, PU, PD}
use Rattle.day.proofs.Automaton.Hours.{back, later}
use Rattle.day.specs.Automaton.{St, off, up, run, down, Step, stay, start, start1, climb, reach, hold, leave}
use Rattle.day.specs.Automaton.{leave1, sink, land}
use Rattle.day.proofs.Automaton.Windows.{Win, win_the}
use Rattle.day.proofs.Automaton.Stages.{pu_lt, pd_le}
use Rattle.day.proofs.Automaton.Nows.{Own}
use Rattle.day.proofs.Automaton.HoursLaws.{y_go, z_go, y_shift, z_shift, z_first}
use Rattle.day.proofs.Automaton.Pasts.{Course, Past, up_on, run_on, down_on, level}
use Rattle.day.proofs.Automaton.Aheads.{Near}

module _ {U : Case} {T : ℕ} {past p y z : ℕ → ℕ} (C : Course U T past p y z) where
  -- an hour's own constraints
  pub own_at : (k : ℕ) (s : St) → Past U past p y z k s → (t : ℕ) → Near U s t
      → (a : ℕ) × Win (UD U) (back past y k) a × Own U C.limits (p k) a t
  own_at k (off d) v t n = (
    0,
    v.2,
    record {
      top = omega arith;
      start_on = omega arith;
      stop_on = omega arith;
      start = λ h. omega arith;
      stop = λ h. omega arith;
      both = λ h h'. omega arith;
      else = λ h h' h''. omega arith;
    },
  )
  own_at k (up i) v t n = (
    i,
    v.4,
    record {
      top = level C k (up i) v;
      start_on = λ h. up_on C k i v;
      stop_on = omega arith;
      start = λ h. v.0;
      stop = λ h. omega arith;
      both = λ h h'. omega arith;
      else = λ h h' h''. omega (arith, v.2);
    },
  )
  own_at k (run r u) v t n = (
    v.4,
    v.5,
    record {
      top = omega arith;
      start_on = λ h. run_on C k r u v;
      stop_on = λ h. run_on C k r u v;
      start = λ h. ⊎_elim (λ q. omega arith)
          (λ q. v.0 ∙ q.1 ∙ sym C.limits.rise_top ∙ ap (PU U) (sym q.0)) v.6;
      stop = λ h. ⊎_elim (λ q. omega arith) (λ q. v.0 ∙ q.1 ∙ sym C.limits.fall_top ∙ ap (PD U) (omega arith)) n;
      both = λ h h'. ⊎_elim (λ q. omega arith) (λ q. omega arith) n;
      else = λ h h' h''. omega arith;
    },
  )
  own_at k (down i) v t n = (
    0,
    v.4,
    record {
      top = level C k (down i) v;
      start_on = omega arith;
      stop_on = λ h. down_on C k i v;
      start = λ h. omega arith;
      stop = λ h. v.0 ∙ ap (PD U) (omega arith);
      both = λ h h'. omega arith;
      else = λ h h' h''. omega (arith, v.3);
    },
  )

  -- the ramp limits: waived in a start-up and in a shut-down
  pub rising : (k : ℕ) → k < T → {s t : St} → Past U past p y z k s → Step U (p (suc k)) s t
      → (a : ℕ) → Win (UD U) (back past y (suc k)) a → (1 ≤ a) ⊎ ((p (suc k) ≡ 0) ⊎ (p (suc k) ≤ p k + RU U))
  rising k l v (stay d e) a w = inr (inl e)
  rising k l v (start d e m b) a w =
      let y1 = y_go C.marks l v.0 (omega (arith, C.limits.rise_pos)) in
      inl (omega (arith, win_the w 1 (omega arith) C.limits.rises_pos y1))
  rising k l v (start1 d e m b) a w =
      let y1 = y_go C.marks l v.0 (omega (arith, C.limits.minimum_pos)) in
      inl (omega (arith, win_the w 1 (omega arith) C.limits.rises_pos y1))
  rising k l v (climb i e b) a w =
      inl (omega (arith, win_the w (suc i) (omega arith) v.3 (y_shift past y k i v.2 ∙ v.4.here v.2)))
  rising k l v (reach i e b) a w =
      inl (omega (arith, win_the w (suc i) (omega arith) v.3 (y_shift past y k i v.2 ∙ v.4.here v.2)))
  rising k l v (hold r u a₁ b c d) a w = inr (inr (omega arith))
  rising k l v (leave r u e f m b) a w = inr (inr (omega (arith, pd_le U C.limits 2 (omega arith) b)))
  rising k l v (leave1 r u e f m b) a w = inr (inl e)
  rising k l v (sink i e b) a w = inr (inr (omega (arith, C.limits.fall_down i (omega (arith, v.2)) b)))
  rising k l v (land i e b) a w = inr (inl e)

  pub falling : (k : ℕ) → k < T → {s t : St} → Past U past p y z k s → Step U (p (suc k)) s t
      → (x : ℕ) → Win (DD U) (later z (suc k)) x → Near U t x → (b : ℕ) → Win (DD U) (later z k) b → Near U s b
      → ((1 ≤ b) × (1 ≤ p k)) ⊎ ((b ≡ 0) × ((p k ≡ 0) ⊎ (p k ≤ p (suc k) + RD U)))
  falling k l v (stay d e) x wx nx b w n = inr (n, inl v.0)
  falling k l v (start d e m c) x wx nx b w n = inr (n, inl v.0)
  falling k l v (start1 d e m c) x wx nx b w n = inr (n, inl v.0)
  falling k l v (climb i e c) x wx nx b w n =
      inr (n, inr (omega (arith, C.limits.rise_up i v.2 v.3)))
  falling k l v (reach i e c) x wx nx b w n = inr (n, inr (omega (arith, pu_lt U C.limits i v.2 v.3)))
  falling k l v (hold r u a₁ b₁ c d) x wx nx b w n =
      ⊎_elim (λ q. inr (q, inr (omega arith))) (λ q. inl (omega (arith, C.limits.falls_pos), run_on C k r u v)) n
  falling k l v (leave r u e f m c) x wx nx b w n =
      let stop = z_shift z k x (omega arith) ∙ wx.here (omega arith) in
      inl (omega (arith, win_the w (suc x) (omega arith) (omega arith) stop), run_on C k r u v)
  falling k l v (leave1 r u e f m c) x wx nx b w n =
      let stop = z_first z k ∙ z_go C.marks l (run_on C k r u v) e in
      inl (omega (arith, win_the w 1 (omega arith) C.limits.falls_pos stop), run_on C k r u v)
  falling k l v (sink i e c) x wx nx b w n = inl (omega (arith, v.3), down_on C k i v)
  falling k l v (land i e c) x wx nx b w n = inl (omega (arith, v.3), down_on C k i v)
