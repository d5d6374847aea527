-- A day that the automaton runs through: what its state says of the outputs and starts so far, kept by every step.
-- Assumes nothing.
use mathlib.Core.Path.{◌≡◌, refl, sym, ◌∙◌, ap}
use mathlib.Core.Logic.{◌⊎◌, inl, inr, ⊎_elim}
use Prim.Native.Nat.{ℕ, suc, ◌+◌, ◌≤◌, ◌<◌}
use native.Mathlib.Omega.{arith}
use Rattle.cases.specs.declared.Case.{Case}
use Rattle.cases.specs.Symbols.{high, low, UD, DD, PU, PD}
use Rattle.cases.proofs.LimitsLaws.{Limits}
use Rattle.day.proofs.Automaton.Hours.{back, Marks, since}
use Rattle.day.specs.Automaton.{St, off, up, run, down, Step, stay, start, start1, climb, reach, hold, leave}
use Rattle.day.specs.Automaton.{leave1, sink, land}
use Rattle.day.proofs.Automaton.Windows.{Win, win_skip, win_new, win_move}
use Rattle.day.proofs.Automaton.Stages.{pu_lt, pu_pos, pd_pos, pd_le}
use Rattle.day.proofs.Automaton.HoursLaws.{y_on, y_off, y_go, z_off, z_go, y_shift, since_go, since_new}

-- a case within the limits, and the marks of a day
pub record Course (U : Case) (T : ℕ) (past p y z : ℕ → ℕ) : Type 0 where
  pub limits : Limits U
  pub marks : Marks T p y z

-- what the state says of the outputs and starts up to hour k
abbrev pub Past : Case → (ℕ → ℕ) → (ℕ → ℕ) → (ℕ → ℕ) → (ℕ → ℕ) → ℕ → St → Type 0
Past U past p y z k (off d) = (p k ≡ 0) × (since z U.elapsed.0 k ≡ d) × Win (UD U) (back past y k) 0
Past U past p y z k (up i) =
    (p k ≡ PU U i) × (since y U.elapsed.0 k ≡ i) × (1 ≤ i) × (i < UD U) × Win (UD U) (back past y k) i
Past U past p y z k (run r u) =
    (p k ≡ r)
    × (since y U.elapsed.0 k ≡ u)
    × (low U ≤ r)
    × (r ≤ high U)
    × (a : ℕ)
    × Win (UD U) (back past y k) a
    × ((a ≡ 0) ⊎ ((a ≡ UD U) × (r ≡ low U)))
    × (UD U ≤ u)
Past U past p y z k (down i) =
    (p k ≡ PD U i)
    × (U.minup.0 + i ≤ since y U.elapsed.0 k + DD U)
    × (2 ≤ i)
    × (i ≤ DD U)
    × Win (UD U) (back past y k) 0
    × (UD U + i ≤ since y U.elapsed.0 k + 1)

module _ {U : Case} {T : ℕ} {past p y z : ℕ → ℕ} (C : Course U T past p y z) where
  -- on-line
  pub up_on : (k i : ℕ) → Past U past p y z k (up i) → 1 ≤ p k
  up_on k i v = omega (arith, pu_pos U C.limits i v.2 (omega (arith, v.3)))

  pub run_on : (k r u : ℕ) → Past U past p y z k (run r u) → 1 ≤ p k
  run_on k r u v = omega (arith, C.limits.minimum_pos)

  pub down_on : (k i : ℕ) → Past U past p y z k (down i) → 1 ≤ p k
  down_on k i v = omega (arith, pd_pos U C.limits i (omega (arith, v.2)) v.3)

  -- not above the capacity
  pub level : (k : ℕ) (s : St) → Past U past p y z k s → p k ≤ high U
  level k (off d) v = omega arith
  level k (up i) v = omega (arith, pu_lt U C.limits i v.2 v.3, C.limits.minimum_le)
  level k (run r u) v = omega arith
  level k (down i) v = omega (arith, pd_le U C.limits i (omega (arith, v.2)) v.3, C.limits.minimum_le)

  -- the window of starts an hour on, with nothing new, and with a start
  quiet : (k a : ℕ) → Win (UD U) (back past y k) a → (a ≡ 0) ⊎ (a ≡ UD U) → y (suc k) ≡ 0
      → Win (UD U) (back past y (suc k)) 0
  quiet k a w d e = win_skip w (back past y (suc k)) (y_shift past y k) e d

  begun : (k : ℕ) → Win (UD U) (back past y k) 0 → y (suc k) ≡ 1 → Win (UD U) (back past y (suc k)) 1
  begun k w e = win_new w (back past y (suc k)) (y_shift past y k) e C.limits.rises_pos (inl refl)

  -- an output after the start sequence, with no start in its window
  spent : (k a r : ℕ) → Win (UD U) (back past y k) a → (a ≡ 0) ⊎ ((a ≡ UD U) × (r ≡ low U)) → y (suc k) ≡ 0
      → Win (UD U) (back past y (suc k)) 0
  spent k a r w d e = quiet k a w (⊎_elim inl (λ x. inr x.0) d) e

  pub past_step : (k : ℕ) → k < T → {s t : St} → Past U past p y z k s → Step U (p (suc k)) s t
      → Past U past p y z (suc k) t
  past_step k l v (stay d e) = (
    e,
    since_go z U.elapsed.0 k (z_off C.marks l v.0) ∙ ap suc v.1,
    quiet k 0 v.2 (inl refl) (y_off C.marks l e),
  )
  past_step k l v (start d e m b) =
      let y1 : y (suc k) ≡ 1 = y_go C.marks l v.0 (omega (arith, C.limits.rise_pos)) in
      (e, since_new y U.elapsed.0 k y1, omega arith, b, begun k v.2 y1)
  past_step k l v (start1 d e m b) =
      let y1 : y (suc k) ≡ 1 = y_go C.marks l v.0 (omega (arith, C.limits.minimum_pos)) in (
        refl,
        since_new y U.elapsed.0 k y1,
        omega arith,
        omega (arith, C.limits.minimum_le),
        1,
        begun k v.2 y1,
        inr (sym b, e),
        omega arith,
      )
  past_step k l v (climb i e b) =
      let y0 : y (suc k) ≡ 0 = y_on C.marks l (up_on k i v) in (
        e,
        since_go y U.elapsed.0 k y0 ∙ ap suc v.1,
        omega arith,
        b,
        win_move v.4 (back past y (suc k)) (y_shift past y k) y0 v.2 v.3,
      )
  past_step k l v (reach i e b) =
      let y0 : y (suc k) ≡ 0 = y_on C.marks l (up_on k i v) in (
        refl,
        since_go y U.elapsed.0 k y0 ∙ ap suc v.1,
        omega arith,
        omega (arith, C.limits.minimum_le),
        suc i,
        win_move v.4 (back past y (suc k)) (y_shift past y k) y0 v.2 v.3,
        inr (b, e),
        omega arith,
      )
  past_step k l v (hold r u a b c d) =
      let y0 : y (suc k) ≡ 0 = y_on C.marks l (run_on k r u v) in
      let none = spent k v.4 r v.5 v.6 y0 in
      (refl, since_go y U.elapsed.0 k y0 ∙ ap suc v.1, a, b, 0, none, inl refl, omega (arith, v.7))
  past_step k l v (leave r u e f m b) =
      let y0 : y (suc k) ≡ 0 = y_on C.marks l (run_on k r u v) in
      let age = since_go y U.elapsed.0 k y0 in
      (e, omega arith, omega arith, b, spent k v.4 r v.5 v.6 y0, omega (arith, v.7))
  past_step k l v (leave1 r u e f m b) = (
    e,
    since_new z U.elapsed.0 k (z_go C.marks l (run_on k r u v) e),
    spent k v.4 r v.5 v.6 (y_off C.marks l e),
  )
  past_step k l v (sink i e b) =
      let y0 : y (suc k) ≡ 0 = y_on C.marks l (down_on k i v) in (
        e,
        omega (arith, since_go y U.elapsed.0 k y0),
        omega (arith, v.2),
        b,
        quiet k 0 v.4 (inl refl) y0,
        omega (arith, since_go y U.elapsed.0 k y0, v.5),
      )
  past_step k l v (land i e b) = (
    e,
    since_new z U.elapsed.0 k (z_go C.marks l (down_on k i v) e),
    quiet k 0 v.4 (inl refl) (y_off C.marks l e),
  )
