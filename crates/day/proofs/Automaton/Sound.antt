-- Every day that the automaton runs through keeps the rules, hour by hour. Assumes nothing.
use mathlib.Core.Path.{◌≡◌}
use mathlib.Core.Logic.{⊎_elim}
use Prim.Native.Nat.{ℕ, zero, suc, ◌+◌, ◌-◌, ◌≤◌, ◌<◌}
use native.Mathlib.Decide.{ℕ_discrete}
use native.Mathlib.Omega.{arith}
use Rattle.cases.specs.declared.Case.{Case}
use Rattle.cases.specs.Symbols.{sum, UD, DD}
use Rattle.day.proofs.Automaton.Hours.{on, since, Keeps, Acc}
use Rattle.day.specs.Automaton.{St, off, up, run, down, Step, stay, start, start1, climb, reach, hold, leave}
use Rattle.day.specs.Automaton.{leave1, sink, land}
use Rattle.day.proofs.Automaton.Windowed.{on_le, sums_of_now, sum_before}
use Rattle.day.proofs.Automaton.Nows.{own, Ramps, r5_of, r6_of}
use Rattle.day.proofs.Automaton.HoursLaws.{y_z, y_on, y_off, z_on, z_off}
use Rattle.day.proofs.Automaton.Pasts.{Course, Past, up_on, run_on, down_on, level, past_step}
use Rattle.day.proofs.Automaton.Owns.{own_at, rising, falling}
use Rattle.day.proofs.Automaton.Aheads.{Ahead, ahead_step, near}

-- hour k + 1 keeps the rules
pub record Kept (U : Case) (past p y z : ℕ → ℕ) (obeys : ℕ → ℕ → Type 0) (k : ℕ) : Type 0 where
  pub keeps : Keeps U past p y z obeys (suc k)
  pub up_time_kept : z (suc k) ≡ 1 → U.minup.0 ≤ since y U.elapsed.0 k
  pub down_time_kept : y (suc k) ≡ 1 → U.mindown.0 ≤ since z U.elapsed.0 k

module _ {U : Case} {T : ℕ} {past p y z : ℕ → ℕ} (C : Course U T past p y z) where
  -- the minimum times
  stop_ok : (k : ℕ) → k < T → {s t : St} → Past U past p y z k s → Step U (p (suc k)) s t
      → Past U past p y z (suc k) t → z (suc k) ≡ 1 → U.minup.0 ≤ since y U.elapsed.0 k
  stop_ok k l v (stay d e) v' q = omega (arith, z_off C.marks l v.0)
  stop_ok k l v (start d e m b) v' q = omega (arith, z_off C.marks l v.0)
  stop_ok k l v (start1 d e m b) v' q = omega (arith, z_off C.marks l v.0)
  stop_ok k l v (climb i e b) v' q = omega (arith, z_on C.marks l (up_on C (suc k) (suc i) v'))
  stop_ok k l v (reach i e b) v' q = omega (arith, z_on C.marks l (omega (arith, C.limits.minimum_pos)))
  stop_ok k l v (hold r u a b c d) v' q = omega (arith, z_on C.marks l (omega (arith, C.limits.minimum_pos)))
  stop_ok k l v (leave r u e f m b) v' q = omega (arith, z_on C.marks l (down_on C (suc k) 2 v'))
  stop_ok k l v (leave1 r u e f m b) v' q = omega arith
  stop_ok k l v (sink i e b) v' q = omega (arith, z_on C.marks l (down_on C (suc k) (suc i) v'))
  stop_ok k l v (land i e b) v' q = omega arith

  start_ok : (k : ℕ) → k < T → {s t : St} → Past U past p y z k s → Step U (p (suc k)) s t
      → y (suc k) ≡ 1 → U.mindown.0 ≤ since z U.elapsed.0 k
  start_ok k l v (stay d e) q = omega (arith, y_off C.marks l e)
  start_ok k l v (start d e m b) q = omega arith
  start_ok k l v (start1 d e m b) q = omega arith
  start_ok k l v (climb i e b) q = omega (arith, y_on C.marks l (up_on C k i v))
  start_ok k l v (reach i e b) q = omega (arith, y_on C.marks l (up_on C k i v))
  start_ok k l v (hold r u a b c d) q = omega (arith, y_on C.marks l (run_on C k r u v))
  start_ok k l v (leave r u e f m b) q = omega (arith, y_on C.marks l (run_on C k r u v))
  start_ok k l v (leave1 r u e f m b) q = omega (arith, y_on C.marks l (run_on C k r u v))
  start_ok k l v (sink i e b) q = omega (arith, y_on C.marks l (down_on C k i v))
  start_ok k l v (land i e b) q = omega (arith, y_on C.marks l (down_on C k i v))

  -- a start has no stop in the next UD + DD − 1 hours
  apart : (k : ℕ) → k < T → (s : St) → Past U past p y z k s → (a : Ahead U z k s) → y (suc k) + on a.0 ≤ 1
  apart k l (off d) v (zero, w, f) = omega (arith, C.marks.y_le (suc k))
  apart k l (off d) v (suc t, w, f) =
      ⊎_elim (λ q. omega arith) (λ q. omega (arith, w.fits, C.limits.rises_pos)) f
  apart k l (up i) v a = omega (arith, on_le a.0, y_on C.marks l (up_on C k i v))
  apart k l (run r u) v a = omega (arith, on_le a.0, y_on C.marks l (run_on C k r u v))
  apart k l (down i) v a = omega (arith, on_le a.0, y_on C.marks l (down_on C k i v))

  kept_hour : (obeys : ℕ → ℕ → Type 0) (k : ℕ) → k < T → (s t : St) → Past U past p y z k s → Step U (p (suc k)) s t
      → Past U past p y z (suc k) t → Ahead U z k s → Ahead U z (suc k) t → obeys (suc k) (p (suc k))
      → Kept U past p y z obeys k
  kept_hour obeys k l s t v g v' f f' o =
      let (b, wb, nb) = near C k s v f in
      let (x, wx, nx) = near C (suc k) t v' f' in
      let (a, wa, oa) = own_at C (suc k) t v' x nx in
      let big = sum (λ i. z (suc k + i - 1)) (UD U + DD U - 1) in
      let ramps : Ramps U C.limits (p (suc k)) (p k) (y (suc k)) a b big = record {
        r5 = r5_of U C.limits (p (suc k)) (p k) a oa.top oa.start_on (rising C k l v g a wa);
        r6 = r6_of U C.limits (p (suc k)) (p k) b (level C k s v) (falling C k l v g x wx nx b wb nb);
        r10 = rw (sum_before z k (UD U + DD U - 1) f.0 f.1) (apart k l s v f);
      } in
      let now = own U C.limits (p (suc k)) (p k) (y (suc k)) (z (suc k)) a x b big oa ramps (y_z C.marks l) in
      record {
        keeps = record { hour = sums_of_now U past p y z k wa wx wb now; ordered = o };
        up_time_kept = stop_ok k l v g v';
        down_time_kept = start_ok k l v g;
      }

  -- ---- the last state of a run says what it does of the day
  pub acc_last : (obeys : ℕ → ℕ → Type 0) (P Q : St → Type 0) → ((t : St) → Past U past p y z T t → P t → Q t)
      → (n k : ℕ) (s : St) → k + n ≡ T → Past U past p y z k s → Acc U p P obeys n k s → Acc U p Q obeys n k s
  acc_last obeys P Q f zero k s e v c = f s (rw (let q : k ≡ T = omega arith in q) at v) c
  acc_last obeys P Q f (suc n) k s e v (t, g, o, c) =
      (t, g, o, acc_last obeys P Q f n (suc k) t (omega arith) (past_step C k (omega arith) v g) c)

  -- ---- the whole day, where what a last state says of the stops to come holds
  module _ (obeys : ℕ → ℕ → Type 0) (last : St → Type 0)
      (close : (s : St) → Past U past p y z T s → last s → Ahead U z T s) where
    pub ahead : (n k : ℕ) (s : St) → k + n ≡ T → Past U past p y z k s → Acc U p last obeys n k s → Ahead U z k s
    ahead zero k s e v c =
        let q : k ≡ T = omega arith in
        rw q (close s (rw q at v) c)
    ahead (suc n) k s e v (t, g, o, c) =
        let l : k < T = omega arith in
        let v' = past_step C k l v g in
        ahead_step C k l v g v' (ahead n (suc k) t (omega arith) v' c)

    -- the state in which the day ends
    pub ends : (n k : ℕ) (s : St) → k + n ≡ T → Past U past p y z k s → Acc U p last obeys n k s
        → (t : St) × Past U past p y z T t × last t
    ends zero k s e v c = (s, rw (let q : k ≡ T = omega arith in q) at v, c)
    ends (suc n) k s e v (t, g, o, c) = ends n (suc k) t (omega arith) (past_step C k (omega arith) v g) c

    pub each : (n k : ℕ) (s : St) → k + n ≡ T → Past U past p y z k s → Acc U p last obeys n k s
        → (j : ℕ) → k ≤ j → j < T → Kept U past p y z obeys j
    each zero k s e v c j a b = absurd (omega arith)
    each (suc n) k s e v (t, g, o, c) j a b =
        let l : k < T = omega arith in
        let v' = past_step C k l v g in
        go l v' (λ q. each n (suc k) t (omega arith) v' c j q b) (ℕ_discrete j k)
      where
        go : k < T → Past U past p y z (suc k) t → (suc k ≤ j → Kept U past p y z obeys j) → Dec (j ≡ k)
            → Kept U past p y z obeys j
        go l v' ih (yes q) =
            let far = ahead (suc n) k s e v (t, g, o, c) in
            let far' = ahead n (suc k) t (omega arith) v' c in
            rw q (kept_hour obeys k l s t v g v' far far' o)
        go l v' ih (no q) = ih (omega arith)
