-- A day that the automaton runs through: where the next stop may stand, worked out from the last hour back.
-- Assumes nothing.
use mathlib.Core.Path.{◌≡◌, refl, ◌∙◌}
use mathlib.Core.Logic.{◌⊎◌, inl, inr, ⊎_elim}
use Prim.Native.Nat.{ℕ, suc, ◌+◌, ◌-◌, ◌≤◌, ◌<◌}
use native.Mathlib.Decide.{ℕ_discrete, dec_le}
use native.Mathlib.Omega.{arith}
use Rattle.cases.specs.declared.Case.{Case}
use Rattle.cases.specs.Symbols.{low, UD, DD}
use Rattle.day.proofs.Automaton.Hours.{later}
use Rattle.day.specs.Automaton.{St, off, up, run, down, Step, stay, start, start1, climb, reach, hold, leave}
use Rattle.day.specs.Automaton.{leave1, sink, land}
use Rattle.day.proofs.Automaton.Windows.{Win, win_skip, win_new, win_move, win_less, win_cut}
use Rattle.day.proofs.Automaton.HoursLaws.{z_on, z_off, z_go, z_shift, z_first}
use Rattle.day.proofs.Automaton.Pasts.{Course, Past, up_on, run_on, down_on}

-- where the next stop may stand in the window of UD + DD − 1 hours, and in that of DD hours
abbrev pub Far : Case → St → ℕ → Type 0
Far U (off d) t = (t ≡ 0) ⊎ (UD U + DD U ≤ t)
Far U (up i) t = (t ≡ 0) ⊎ (UD U + DD U ≤ t + i)
Far U (run r u) t = (t ≡ 0) ⊎ ((DD U ≤ t) × (t ≡ DD U → r ≡ low U))
Far U (down i) t = t + i ≡ suc (DD U)

abbrev pub Near : Case → St → ℕ → Type 0
Near U (off d) t = t ≡ 0
Near U (up i) t = t ≡ 0
Near U (run r u) t = (t ≡ 0) ⊎ ((t ≡ DD U) × (r ≡ low U))
Near U (down i) t = t + i ≡ suc (DD U)

abbrev pub Ahead : Case → (ℕ → ℕ) → ℕ → St → Type 0
Ahead U z k s = (t : ℕ) × Win (UD U + DD U - 1) (later z k) t × Far U s t

module _ {U : Case} {T : ℕ} {past p y z : ℕ → ℕ} (C : Course U T past p y z) where
  -- the window an hour earlier, with no stop there; the stop is c hours away or more
  roll : (k t : ℕ) → Win (UD U + DD U - 1) (later z (suc k)) t → z (suc k) ≡ 0 → (c : ℕ) → 1 ≤ c → (t ≡ 0) ⊎ (c ≤ t)
      → (s : ℕ) × Win (UD U + DD U - 1) (later z k) s × ((s ≡ 0) ⊎ (c < s))
  roll k t w e c a d = go (ℕ_discrete t 0) (ℕ_discrete t (UD U + DD U - 1))
    where
      none : later z k 1 ≡ 0
      none = z_first z k ∙ e

      go : Dec (t ≡ 0) → Dec (t ≡ UD U + DD U - 1)
          → (s : ℕ) × Win (UD U + DD U - 1) (later z k) s × ((s ≡ 0) ⊎ (c < s))
      go (yes q) _ = (0, win_skip w (later z k) (z_shift z k) none (inl q), inl refl)
      go (no q) (yes r) = (0, win_skip w (later z k) (z_shift z k) none (inr r), inl refl)
      go (no q) (no r) = (
        suc t,
        win_move w (later z k) (z_shift z k) none (omega arith) (omega (arith, w.fits)),
        inr (⊎_elim (λ x. omega arith) (λ x. omega arith) d),
      )

  -- a stop in the next hour, and none after it
  stopped : (k t : ℕ) → Win (UD U + DD U - 1) (later z (suc k)) t → (t ≡ 0) ⊎ (UD U + DD U ≤ t) → z (suc k) ≡ 1
      → Win (UD U + DD U - 1) (later z k) 1
  stopped k t w n e =
      win_new w (later z k) (z_shift z k) (z_first z k ∙ e) (omega (arith, C.limits.rises_pos, C.limits.falls_pos))
      (inl (⊎_elim (λ q. q) (λ q. omega (arith, w.fits)) n))

  pub ahead_step : (k : ℕ) → k < T → {s t : St} → Past U past p y z k s → Step U (p (suc k)) s t
      → Past U past p y z (suc k) t → Ahead U z (suc k) t → Ahead U z k s
  ahead_step k l v (stay d e) v' (t, w, f) =
      let far : 1 ≤ UD U + DD U = omega (arith, C.limits.rises_pos) in
      let (x, wx, fx) = roll k t w (z_off C.marks l v.0) (UD U + DD U) far f in
      (x, wx, ⊎_elim inl (λ q. inr (omega arith)) fx)
  ahead_step k l v (start d e m b) v' (t, w, f) =
      let far : 1 ≤ UD U + DD U - 1 = omega (arith, C.limits.falls_pos) in
      let none = z_off C.marks l v.0 in
      let (x, wx, fx) = roll k t w none (UD U + DD U - 1) far (⊎_elim inl (λ q. inr (omega arith)) f) in
      (x, wx, ⊎_elim inl (λ q. inr (omega arith)) fx)
  ahead_step k l v (start1 d e m b) v' (t, w, f) =
      let none = z_off C.marks l v.0 in
      let (x, wx, fx) = roll k t w none (DD U) C.limits.falls_pos (⊎_elim inl (λ q. inr q.0) f) in
      (x, wx, ⊎_elim inl (λ q. inr (omega arith)) fx)
  ahead_step k l v (climb i e b) v' (t, w, f) =
      let on = z_on C.marks l (up_on C (suc k) (suc i) v') in
      let (x, wx, fx) = roll k t w on (UD U + DD U - suc i) (omega arith) (⊎_elim inl (λ q. inr (omega arith)) f) in
      (x, wx, ⊎_elim inl (λ q. inr (omega arith)) fx)
  ahead_step k l v (reach i e b) v' (t, w, f) =
      let on = z_on C.marks l (omega (arith, C.limits.minimum_pos)) in
      let (x, wx, fx) = roll k t w on (DD U) C.limits.falls_pos (⊎_elim inl (λ q. inr q.0) f) in
      (x, wx, ⊎_elim inl (λ q. inr (omega arith)) fx)
  ahead_step k l v (hold r u a b c d) v' (t, w, f) =
      let on = z_on C.marks l (omega (arith, C.limits.minimum_pos)) in
      let (x, wx, fx) = roll k t w on (DD U) C.limits.falls_pos (⊎_elim inl (λ q. inr q.0) f) in
      (x, wx, ⊎_elim inl (λ q. inr (omega arith, λ e. omega arith)) fx)
  ahead_step k l v (leave r u e f m b) v' (t, w, n) =
      let none = z_first z k ∙ z_on C.marks l (down_on C (suc k) 2 v') in
      let room : t < UD U + DD U - 1 = omega (arith, C.limits.rises_pos) in
      (suc t, win_move w (later z k) (z_shift z k) none (omega arith) room, inr (omega arith, λ q. f))
  ahead_step k l v (leave1 r u e f m b) v' (t, w, n) =
      (1, stopped k t w n (z_go C.marks l (run_on C k r u v) e), inr (omega arith, λ q. f))
  ahead_step k l v (sink i e b) v' (t, w, n) =
      let none = z_first z k ∙ z_on C.marks l (down_on C (suc k) (suc i) v') in
      let room : t < UD U + DD U - 1 = omega (arith, C.limits.rises_pos, v.2) in
      (suc t, win_move w (later z k) (z_shift z k) none (omega arith) room, omega arith)
  ahead_step k l v (land i e b) v' (t, w, n) =
      (1, stopped k t w n (z_go C.marks l (down_on C k i v) e), omega arith)

  pub near : (k : ℕ) (s : St) → Past U past p y z k s → Ahead U z k s → (t : ℕ) × Win (DD U) (later z k) t × Near U s t
  near k s v (t, w, f) = go s v f (ℕ_discrete t 0) (dec_le t (DD U))
    where
      narrow : DD U ≤ UD U + DD U - 1
      narrow = omega (arith, C.limits.rises_pos)

      go : (s : St) → Past U past p y z k s → Far U s t → Dec (t ≡ 0) → Dec (t ≤ DD U)
          → (t : ℕ) × Win (DD U) (later z k) t × Near U s t
      go (off d) v f e g =
          let q : t ≡ 0 = ⊎_elim (λ q. q) (λ q. omega (arith, w.fits, C.limits.rises_pos)) f in
          (t, win_less w (DD U) narrow (omega arith), q)
      go (up i) v f (yes e) g = (t, win_less w (DD U) narrow (omega arith), e)
      go (up i) v f (no e) g =
          (0, win_cut w (DD U) narrow (⊎_elim (λ q. omega arith) (λ q. omega (arith, v.3)) f), refl)
      go (run r u) v f e (yes g) =
          (t, win_less w (DD U) narrow g, ⊎_elim inl (λ q. let d : t ≡ DD U = omega arith in inr (d, q.1 d)) f)
      go (run r u) v f e (no g) = (0, win_cut w (DD U) narrow (omega arith), inl refl)
      go (down i) v f e g = (t, win_less w (DD U) narrow (omega (arith, v.2)), f)
