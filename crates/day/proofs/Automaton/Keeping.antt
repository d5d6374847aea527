-- A list keeps every rule of its case exactly if it is of T outputs and the automaton runs through it. Assumes nothing.
use mathlib.Core.Path.{◌≡◌, sym, ◌∙◌, ap, subst}
use mathlib.Core.Logic.{◌↔◌}
use mathlib.Core.List.{List, [], ◌∷◌}
use Prim.Native.Nat.{ℕ, zero, suc, ◌+◌, ◌≤◌, ◌<◌}
use native.Mathlib.Decide.{dec_lt}
use native.Mathlib.Omega.{arith}
use lib.Dec.{T}
use lib.ListN.{length, get_or}
use Rattle.cases.specs.declared.Case.{Case}
use Rattle.cases.specs.Symbols.{before, last, p0, h, up_stage, down_stage}
use Rattle.day.specs.Marks.{p, y, z}
use Rattle.day.specs.Rules.{hours_since, keeps}
use Rattle.cases.proofs.LimitsLaws.{Limits}
use Rattle.day.proofs.MarksLaws.{p_zero, p_suc, y_past}
use Rattle.day.proofs.TimesLaws.{y_le, z_le}
use Rattle.day.proofs.LiteralLaws.{LiteralHour, Literal, literal_of_keeps, keeps_of_literal}
use Rattle.day.proofs.Automaton.Hours.{since, Keeps, KeepsAll, Acc}
use Rattle.day.specs.Words.{Ordered}
use Rattle.day.specs.Automaton.{St, Runs, Final, first, LateStop}
use Rattle.day.proofs.Automaton.Ruled.{past_of, acc_ends, keeps_acc}
use Rattle.day.proofs.Automaton.Pasts.{Past}
use Rattle.day.proofs.Automaton.Literals.{hours_since_next, v_is, outputs, starts_sum, outputs_sum}

-- ---- a run of outputs p is a run of the list that they are from hour k on
module _ (U : Case) (end : St → Type 0) (obeys : ℕ → ℕ → Type 0) (p : ℕ → ℕ) where
  runs_of_acc : (l : List ℕ) (k : ℕ) (s : St) → ((i : ℕ) → p (suc (k + i)) ≡ get_or l i 0)
      → Acc U p end obeys (length l) k s → Runs U end obeys k s l
  runs_of_acc [] k s e c = c
  runs_of_acc (q ∷ l) k s e (t, g, o, c) =
      let e0 : p (suc k) ≡ q = ap p (omega arith) ∙ e 0 in
      (t, rw e0 at g, rw e0 at o, runs_of_acc l (suc k) t (λ i. ap p (omega arith) ∙ e (suc i)) c)

  acc_of_runs : (l : List ℕ) (k : ℕ) (s : St) → ((i : ℕ) → p (suc (k + i)) ≡ get_or l i 0)
      → Runs U end obeys k s l → Acc U p end obeys (length l) k s
  acc_of_runs [] k s e c = c
  acc_of_runs (q ∷ l) k s e (t, g, o, c) =
      let e0 : p (suc k) ≡ q = ap p (omega arith) ∙ e 0 in
      (t, rw e0 g, rw e0 o, acc_of_runs l (suc k) t (λ i. ap p (omega arith) ∙ e (suc i)) c)

module _ (c : Case) (l : List ℕ) where
  -- ---- the rules with the source's sums, and those of a day
  abbrev KeepsHour : ℕ → Type 0
  KeepsHour k = Keeps c (past_of c) (p c l) (y c l) (z c l) (Ordered c) k

  abbrev KeepsDay : Type 0
  KeepsDay = KeepsAll c (past_of c) (p c l) (y c l) (z c l) (Ordered c) (last c)

  hour_of : (k : ℕ) → LiteralHour c l k → KeepsHour k
  hour_of k s =
      record {
        hour = rw (v_is c l k, v_is c l (before k), starts_sum c l k, outputs_sum c l k) at s.hour;
        ordered = s.ordered;
      }

  up_since : (k : ℕ) → hours_since (h c) (y c l) (suc k) k ≡ since (y c l) (h c) k
  up_since k = hours_since_next (h c) (y c l) (y_le c l) k

  down_since : (k : ℕ) → hours_since (h c) (z c l) (suc k) k ≡ since (z c l) (h c) k
  down_since k = hours_since_next (h c) (z c l) (z_le c l) k

  of_hour : (k : ℕ) → KeepsDay → KeepsHour (suc k) → LiteralHour c l (suc k)
  of_hour k K s =
      record {
        hour = rw (v_is c l (suc k), v_is c l k, starts_sum c l (suc k), outputs_sum c l (suc k)) s.hour;
        up_time_kept = λ e. omega (arith, up_since k, K.up_time_kept k e);
        down_time_kept = λ e. omega (arith, down_since k, K.down_time_kept k e);
        ordered = s.ordered;
      }

  day_of_literal : Literal c l → KeepsDay
  day_of_literal s =
      record {
        opening = rw (v_is c l 0, starts_sum c l 0) at s.opening;
        each = λ k a b. hour_of k (s.each k a b);
        up_time_kept = λ k e. up k e (dec_lt k (last c));
        down_time_kept = λ k e. down k e (dec_lt k (last c));
      }
    where
      up : (k : ℕ) → z c l (suc k) ≡ 1 → Dec (k < last c) → c.minup.0 ≤ since (y c l) (h c) k
      up k e (yes a) = omega (arith, up_since k, (s.each (suc k) (omega arith) a).up_time_kept e)
      up k e (no a) = omega (arith, up_since k, s.late k (omega arith) e)

      down : (k : ℕ) → y c l (suc k) ≡ 1 → Dec (k < last c) → c.mindown.0 ≤ since (z c l) (h c) k
      down k e (yes a) = omega (arith, down_since k, (s.each (suc k) (omega arith) a).down_time_kept e)
      down k e (no a) = absurd (omega (arith, y_past c l (suc k) (omega arith)))

  literal_of_day : length l ≡ last c → KeepsDay → Literal c l
  literal_of_day e K =
      record {
        long = e;
        opening = rw (v_is c l 0, starts_sum c l 0) K.opening;
        each = at;
        late = λ k a e. omega (arith, up_since k, K.up_time_kept k e);
      }
    where
      at : (k : ℕ) → 1 ≤ k → k ≤ last c → LiteralHour c l k
      at zero a b = absurd (omega arith)
      at (suc k) a b = of_hour k K (K.each (suc k) a b)

  -- ---- the theorem
  p_at : (i : ℕ) → p c l (suc (0 + i)) ≡ get_or l i 0
  p_at i = ap (λ n. p c l (suc n)) (omega arith) ∙ p_suc c l i

  abbrev start : ℕ → St
  start q = first c (up_stage c) (down_stage c) q

  abbrev RunsDay : Type 0
  RunsDay = Runs c Final (Ordered c) 0 (start (p0 c)) l

  abbrev AccDay : ℕ → ℕ → Type 0
  AccDay n q = Acc c (p c l) Final (Ordered c) n 0 (start q)

  module _ (lim : Limits c) where
    runs_of_keeps : T (keeps c l) → (length l ≡ last c) × LateStop c × RunsDay
    runs_of_keeps t =
        let s = literal_of_keeps c l lim.falls_pos t in
        let (late, acc) = (keeps_acc (outputs c l lim) (Ordered c)).0 (day_of_literal s) in
        let counted = subst (λ n. AccDay n (p c l 0)) (sym s.long) acc in
        let opened = subst (AccDay (length l)) (p_zero c l) counted in
        (s.long, late, runs_of_acc c Final (Ordered c) (p c l) l 0 (start (p0 c)) p_at opened)

    keeps_of_runs : (length l ≡ last c) × LateStop c × RunsDay → T (keeps c l)
    keeps_of_runs (e, late, r) =
        let acc = acc_of_runs c Final (Ordered c) (p c l) l 0 (start (p0 c)) p_at r in
        let counted = subst (λ n. AccDay n (p0 c)) e acc in
        let opened = subst (AccDay (last c)) (sym (p_zero c l)) counted in
        keeps_of_literal c l lim.falls_pos
        (literal_of_day e ((keeps_acc (outputs c l lim) (Ordered c)).1 (late, opened)))

    -- what a run comes to, with what its last state says of the day
    pub runs_ends : length l ≡ last c → LateStop c → (P Q : St → Type 0)
        → ((t : St) → Past c (past_of c) (p c l) (y c l) (z c l) (last c) t → P t → Q t)
        → Runs c P (Ordered c) 0 (start (p0 c)) l → Runs c Q (Ordered c) 0 (start (p0 c)) l
    runs_ends e late P Q f r =
        let acc = acc_of_runs c P (Ordered c) (p c l) l 0 (start (p0 c)) p_at r in
        let counted = subst (λ n. Acc c (p c l) P (Ordered c) n 0 (start (p0 c))) e acc in
        let opened = subst (λ q. Acc c (p c l) P (Ordered c) (last c) 0 (start q)) (sym (p_zero c l)) counted in
        let ended = acc_ends (outputs c l lim) (Ordered c) late P Q f opened in
        let closed = subst (λ q. Acc c (p c l) Q (Ordered c) (last c) 0 (start q)) (p_zero c l) ended in
        let listed = subst (λ n. Acc c (p c l) Q (Ordered c) n 0 (start (p0 c))) (sym e) closed in
        runs_of_acc c Q (Ordered c) (p c l) l 0 (start (p0 c)) p_at listed

    pub keeps_runs : T (keeps c l) ↔ ((length l ≡ last c) × LateStop c × RunsDay)
    keeps_runs = (runs_of_keeps, keeps_of_runs)
