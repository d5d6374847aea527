-- A day keeps the rules exactly if the automaton runs through it: it may open in a start-up, whose start is marked, or
-- in a shut-down, and close in a shut-down, whose stop is marked after it. Assumes nothing.
use mathlib.Core.Path.{◌≡◌, refl, sym, ◌∙◌, ap, subst}
use mathlib.Core.Logic.{◌↔◌, ◌≢◌, inl}
use Prim.Native.Nat.{ℕ, zero, suc, ◌+◌, ◌-◌, ◌≤◌, ◌<◌}
use native.Mathlib.Decide.{ℕ_discrete, dec_lt}
use native.Mathlib.Omega.{arith}
use borrow.Author.Tests.{eq-eqb, ne_eqb}
use Rattle.cases.specs.declared.Case.{Case}
use Rattle.cases.specs.Symbols.{sum, bit, low, UD, DD, PU, PD, p0, up_stage, down_stage}
use Rattle.day.specs.Automaton.{St, off, up, run, down, Final, first, LateStop}
use Rattle.cases.proofs.LimitsLaws.{Limits}
use Rattle.cases.proofs.OpeningLaws.{in_start, in_stop, in_none}
use Rattle.day.proofs.Automaton.Hours.{back, later, Marks, since, Keeps, KeepsAll, Acc, opens}
use Rattle.day.proofs.Automaton.HoursLaws.{on_pos, since_le, since_past}
use Rattle.day.proofs.Automaton.Windows.{Win}
use Rattle.day.proofs.Automaton.Windowed.{fall_at, Now0, win_sum, now_of_sums0, sums_of_now0}
use Rattle.day.proofs.Automaton.Stages.{pu_lt, pu_pos, pd_lt, pd_pos, pd_one}
use Rattle.day.proofs.Automaton.Nows.{at_stop0, at_run0, own0}
use Rattle.day.proofs.Automaton.Kept.{Day, stop_window}
use Rattle.day.proofs.Automaton.Complete.{Inv, complete}
use Rattle.day.proofs.Automaton.Pasts.{Course, Past}
use Rattle.day.proofs.Automaton.Aheads.{Ahead, near}
use Rattle.day.proofs.Automaton.Owns.{own_at}
use Rattle.day.proofs.Automaton.Sound.{Kept, acc_last, ahead, ends, each}

-- the start in which the day of a case opens
abbrev pub past_of : Case → ℕ → ℕ
past_of U = opens (up_stage U)

-- the outputs and marks of a day of T hours. A stop is marked j hours after T exactly if hour T lies in no start-up and
-- p(T) is the output of PD that is j hours before its end, but the first
pub record Outputs (U : Case) (T : ℕ) (p y z : ℕ → ℕ) : Type 0 where
  pub limits : Limits U
  pub marks : Marks T p y z
  pub some : 1 ≤ T
  pub opening : p 0 ≡ p0 U
  pub y_past : (k : ℕ) → T < k → y k ≡ 0
  pub closed : (j : ℕ) → 1 ≤ j → z (T + j) ≡ 1
      → (j < DD U) × (p T ≡ fall_at U j) × (sum (λ i. back (past_of U) y T i) (UD U) ≡ 0)
  pub closes : (j : ℕ) → 1 ≤ j → j < DD U → p T ≡ fall_at U j → sum (λ i. back (past_of U) y T i) (UD U) ≡ 0
      → z (T + j) ≡ 1

module _ {U : Case} {T : ℕ} {p y z : ℕ → ℕ} (O : Outputs U T p y z) (obeys : ℕ → ℕ → Type 0) where
  abbrev past : ℕ → ℕ
  past = past_of U

  abbrev lim : Limits U
  lim = O.limits

  -- ---- the hours up to 0
  past_le : (i : ℕ) → past i ≤ 1
  past_le i = go (ℕ_discrete i (up_stage U))
    where
      go : Dec (i ≡ up_stage U) → past i ≤ 1
      go (yes e) = omega (arith, ap bit (eq-eqb i (up_stage U) e))
      go (no e) = omega (arith, ap bit (ne_eqb i (up_stage U) e))

  past_other : (i : ℕ) → i ≢ up_stage U → past i ≡ 0
  past_other i h = ap bit (ne_eqb i (up_stage U) h)

  stage_le : up_stage U ≤ UD U
  stage_le = go (ℕ_discrete (up_stage U) 0)
    where
      go : Dec (up_stage U ≡ 0) → up_stage U ≤ UD U
      go (yes e) = omega arith
      go (no e) = omega (arith, (in_start U lim.opened (omega arith)).1)

  past_window : Win (UD U) past (up_stage U)
  past_window =
      record {
        fits = stage_le;
        zeros = λ j a b h. past_other j h;
        here = λ a. ap bit (eq-eqb (up_stage U) (up_stage U) refl);
      }

  window_at : (i : ℕ) → up_stage U ≡ i → Win (UD U) past i
  window_at i e = subst (Win (UD U) past) e past_window

  past_none : (j : ℕ) → 1 ≤ j → j < UD U → j < U.elapsed.0 → past j ≡ 0
  past_none j a b h = past_other j (λ e. omega (arith, (in_start U lim.opened (omega arith)).3))

  -- ---- every day that keeps the rules is run through
  module _ (K : KeepsAll U past p y z obeys T) where
    -- an opening at the minimum or above is in no start-up
    free : low U ≤ p 0 → up_stage U ≡ 0
    free g = go (ℕ_discrete (up_stage U) 0)
      where
        go : Dec (up_stage U ≡ 0) → up_stage U ≡ 0
        go (yes e) = e
        go (no e) =
            let (d, l, o, h) = in_start U lim.opened (omega arith) in
            absurd (omega (arith, pu_lt U lim (up_stage U) (omega arith) l, O.opening))

    -- hour 0 in no start-up
    opening_at : up_stage U ≡ 0 → (t : ℕ) → Win (DD U) (later z 0) t → Now0 U (p 0) 0 t
    opening_at e t w = now_of_sums0 U past p y z (window_at 0 e) w K.opening

    day : Day U T past p y z obeys
    day =
        record {
          limits = lim;
          marks = O.marks;
          keeps = K;
          past_le = past_le;
          past_window = (up_stage U, past_window);
          past_none = past_none;
          opening_stop = stop;
        }
      where
        stop : (t : ℕ) → Win (DD U) (later z 0) t → 1 ≤ t → low U ≤ p 0 → p 0 ≡ fall_at U t
        stop zero w h g = absurd (omega arith)
        stop (suc t) w h g =
            at_stop0 U lim (p 0) t (omega (arith, lim.minimum_pos)) (opening_at (free g) (suc t) w)

    -- a day that opens in a shut-down goes on with it
    opening_down : 1 ≤ down_stage U → later z 0 (suc (DD U) - down_stage U) ≡ 1
    opening_down a = let (t, w) = stop_window day 0 O.some in go t w (in_stop U lim.opened a)
      where
        go : (t : ℕ) → Win (DD U) (later z 0) t
            → (up_stage U ≡ 0)
            × (2 ≤ down_stage U)
            × (down_stage U ≤ DD U)
            × (p0 U ≡ PD U (down_stage U))
            × (UD U + down_stage U ≤ U.elapsed.0 + 1)
            → later z 0 (suc (DD U) - down_stage U) ≡ 1
        go zero w (u, two, le, o, age) =
            let some = pd_pos U lim (down_stage U) a le in
            let small = pd_lt U lim (down_stage U - 1) (omega arith) (omega arith) in
            let same = ap (PD U) (let q : suc (down_stage U - 1) ≡ down_stage U = omega arith in q) in
            absurd (omega (arith, at_run0 U lim (p 0) (omega (arith, O.opening)) (opening_at u 0 w), O.opening))
        go (suc t) w (u, two, le, o, age) =
            let some = pd_pos U lim (down_stage U) a le in
            let here = at_stop0 U lim (p 0) t (omega (arith, O.opening)) (opening_at u (suc t) w) in
            let i = pd_one U lim (down_stage U) (suc (DD U) - suc t) a le (omega (arith, w.fits)) (omega arith)
            (sym (O.opening ∙ o) ∙ here) in
            ap (later z 0) (let q : suc (DD U) - down_stage U ≡ suc t = omega (arith, w.fits) in q)
            ∙ w.here (omega arith)

    begins : (i j x : ℕ) → up_stage U ≡ i → down_stage U ≡ j → p 0 ≡ x → Inv U past p y z 0 (first U i j x)
    unfolding since
    begins zero zero zero a b e = (e, refl)
    begins zero zero (suc x) a b e =
        let (low, high, age) = in_none U lim.opened a b (omega (arith, O.opening)) in
        (e, refl, omega (arith, O.opening), age)
    begins (suc i) j x a b e =
        let (d, l, o, h) = in_start U lim.opened (omega arith) in (
          omega (arith, O.opening, pu_pos U lim (up_stage U) (omega arith) (omega arith)),
          h ∙ a,
          omega arith,
          omega arith,
          (window_at (suc i) a).here (omega arith),
        )
    begins zero (suc j) x a b e =
        let (u, two, le, o, age) = in_stop U lim.opened (omega arith) in (
          omega (arith, O.opening, pd_pos U lim (down_stage U) (omega arith) le),
          omega arith,
          omega arith,
          ap (λ n. later z 0 (suc (DD U) - n)) (sym b) ∙ opening_down (omega arith),
        )

    late_stop : LateStop U
    unfolding since
    late_stop a =
        let (u, two, le, o, age) = in_stop U lim.opened a in
        let n = DD U - down_stage U in
        let stop : z (suc n) ≡ 1 = ap z (let q : suc n ≡ 0 + (suc (DD U) - down_stage U) = omega arith in q)
        ∙ opening_down a in
        let hours = ap (since y U.elapsed.0) (let q : 0 + n ≡ n = omega arith in q) in
        omega (arith, K.up_time_kept n stop, since_le y U.elapsed.0 n 0, hours)

    acc_of_keeps : Acc U p Final obeys T 0 (first U (up_stage U) (down_stage U) (p 0))
    acc_of_keeps =
        complete day Final (λ s v. tt) T 0 (first U (up_stage U) (down_stage U) (p 0)) (omega arith)
        (begins (up_stage U) (down_stage U) (p 0) refl refl refl)

  -- ---- and every day that is run through keeps them
  abbrev course : Course U T past p y z
  course = record { limits = lim; marks = O.marks }

  -- a stop after T that no output of PD asks for is not marked
  not_closed : (j : ℕ) → 1 ≤ j → (z (T + j) ≡ 1 → ⊥) → z (T + j) ≡ 0
  not_closed j a h = go (ℕ_discrete (z (T + j)) 0)
    where
      go : Dec (z (T + j) ≡ 0) → z (T + j) ≡ 0
      go (yes e) = e
      go (no e) = absurd (h (omega (arith, O.marks.z_le (T + j))))

  -- where a stop is marked j hours after T, the day ends in a shut-down, at the entry j hours before its end
  abbrev Closed : St → ℕ → Type 0
  Closed (off d) j = ⊥
  Closed (up i) j = ⊥
  Closed (run r u) j = ⊥
  Closed (down i) j = i + j ≡ suc (DD U)

  closing : (s : St) → Past U past p y z T s → (j : ℕ) → 1 ≤ j → z (T + j) ≡ 1 → Closed s j
  closing (off d) v j a e =
      let (l, q, n) = O.closed j a e in
      omega (arith, pd_pos U lim (suc (DD U) - j) (omega arith) (omega arith))
  closing (up i) v j a e = let (l, q, n) = O.closed j a e in omega (arith, win_sum i v.4, on_pos i v.2)
  closing (run r u) v j a e =
      let (l, q, n) = O.closed j a e in
      let small = pd_lt U lim (DD U - j) (omega arith) (omega arith) in
      let same = ap (PD U) (let q : suc (DD U - j) ≡ suc (DD U) - j = omega arith in q) in
      omega arith
  closing (down i) v j a e =
      let (l, q, n) = O.closed j a e in
      let same = pd_one U lim i (suc (DD U) - j) (omega (arith, v.2)) v.3 (omega arith) (omega arith)
      (sym v.0 ∙ q) in
      omega arith

  none_ahead : ((j : ℕ) → 1 ≤ j → z (T + j) ≡ 1 → ⊥) → Win (UD U + DD U - 1) (later z T) 0
  none_ahead h =
      record { fits = omega arith; zeros = λ j a b c. not_closed j a (h j a); here = λ a. absurd (omega arith) }

  close : (s : St) → Past U past p y z T s → Final s → Ahead U z T s
  close (off d) v c = (0, none_ahead (closing (off d) v), inl refl)
  close (up i) v c = (0, none_ahead (closing (up i) v), inl refl)
  close (run r u) v c = (0, none_ahead (closing (run r u) v), inl refl)
  close (down i) v c =
      let j = suc (DD U) - i in
      let end : p T ≡ fall_at U j = v.0 ∙ ap (PD U) (let q : i ≡ suc (DD U) - j = omega (arith, v.3) in q) in (
        j,
        record {
          fits = omega (arith, lim.rises_pos, v.2);
          zeros = λ k a b h. not_closed k a (λ e. h (omega (arith, closing (down i) v k a e)));
          here = λ a. O.closes j a (omega (arith, v.2)) end (win_sum 0 v.4);
        },
        omega (arith, v.3),
      )

  opened : (i j x : ℕ) → up_stage U ≡ i → down_stage U ≡ j → p 0 ≡ x → LateStop U
      → Past U past p y z 0 (first U i j x)
  unfolding since
  opened zero zero zero a b e late = (e, refl, window_at 0 a)
  opened zero zero (suc x) a b e late =
      let (low, high, age) = in_none U lim.opened a b (omega (arith, O.opening)) in
      (e, refl, omega (arith, O.opening), omega (arith, O.opening), 0, window_at 0 a, inl refl, age)
  opened (suc i) j x a b e late =
      let (d, l, o, h) = in_start U lim.opened (omega arith) in
      (O.opening ∙ o ∙ ap (PU U) a, h ∙ a, omega arith, omega arith, window_at (suc i) a)
  opened zero (suc j) x a b e late =
      let (u, two, le, o, age) = in_stop U lim.opened (omega arith) in (
        O.opening ∙ o ∙ ap (PD U) b,
        omega (arith, late (omega arith)),
        omega arith,
        omega arith,
        window_at 0 a,
        omega arith,
      )

  module _ (late : LateStop U) (c : Acc U p Final obeys T 0 (first U (up_stage U) (down_stage U) (p 0))) where
    abbrev start : St
    start = first U (up_stage U) (down_stage U) (p 0)

    began : Past U past p y z 0 start
    began = opened (up_stage U) (down_stage U) (p 0) refl refl refl late

    kept : (k : ℕ) → k < T → Kept U past p y z obeys k
    kept k l = each course obeys Final close T 0 start (omega arith) began c k (omega arith) l

    keeps_at : (k : ℕ) → 1 ≤ k → k ≤ T → Keeps U past p y z obeys k
    keeps_at zero a b = absurd (omega arith)
    keeps_at (suc k) a b = (kept k b).keeps

    -- rule 21 of the stop after T
    after : (j : ℕ) → z (T + suc j) ≡ 1 → U.minup.0 ≤ since y U.elapsed.0 (T + j)
    after j e = let (s, v, f) = ends course obeys Final close T 0 start (omega arith) began c in go s v
      where
        go : (s : St) → Past U past p y z T s → U.minup.0 ≤ since y U.elapsed.0 (T + j)
        go (off d) v = absurd (closing (off d) v (suc j) (omega arith) e)
        go (up i) v = absurd (closing (up i) v (suc j) (omega arith) e)
        go (run r u) v = absurd (closing (run r u) v (suc j) (omega arith) e)
        go (down i) v =
            omega (
              arith,
              v.1,
              closing (down i) v (suc j) (omega arith) e,
              since_past y U.elapsed.0 T O.y_past j,
            )

    up_time_kept : (k : ℕ) → z (suc k) ≡ 1 → Dec (k < T) → U.minup.0 ≤ since y U.elapsed.0 k
    up_time_kept k e (yes j) = (kept k j).up_time_kept e
    up_time_kept k e (no j) =
        subst (λ n. U.minup.0 ≤ since y U.elapsed.0 n) (let q : T + (k - T) ≡ k = omega arith in q)
        (after (k - T) (ap z (let q : T + suc (k - T) ≡ suc k = omega arith in q) ∙ e))

    down_time_kept : (k : ℕ) → y (suc k) ≡ 1 → Dec (k < T) → U.mindown.0 ≤ since z U.elapsed.0 k
    down_time_kept k e (yes j) = (kept k j).down_time_kept e
    down_time_kept k e (no j) = absurd (omega (arith, O.y_past (suc k) (omega arith)))

    keeps_of_acc : KeepsAll U past p y z obeys T
    keeps_of_acc =
        let far = ahead course obeys Final close T 0 start (omega arith) began c in
        let (t, wt, nt) = near course 0 start began far in
        let (a, wa, oa) = own_at course 0 start began t nt in
        record {
          opening = sums_of_now0 U past p y z wa wt (own0 U lim (p 0) a t oa);
          each = keeps_at;
          up_time_kept = λ k e. up_time_kept k e (dec_lt k T);
          down_time_kept = λ k e. down_time_kept k e (dec_lt k T);
        }

  -- what a run comes to, with what its last state says of the day
  pub acc_ends : LateStop U → (P Q : St → Type 0) → ((t : St) → Past U past p y z T t → P t → Q t)
      → Acc U p P obeys T 0 (first U (up_stage U) (down_stage U) (p 0))
      → Acc U p Q obeys T 0 (first U (up_stage U) (down_stage U) (p 0))
  acc_ends late P Q f =
      acc_last course obeys P Q f T 0 (first U (up_stage U) (down_stage U) (p 0)) (omega arith)
      (opened (up_stage U) (down_stage U) (p 0) refl refl refl late)

  pub keeps_acc : KeepsAll U past p y z obeys T
      ↔ (LateStop U × Acc U p Final obeys T 0 (first U (up_stage U) (down_stage U) (p 0)))
  keeps_acc = (λ K. (late_stop K, acc_of_keeps K), λ a. keeps_of_acc a.0 a.1)
