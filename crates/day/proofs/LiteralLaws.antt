-- The rules of a list as facts about numbers: a list keeps every rule exactly if the comparisons of (1) to (12), of the
-- minimum times and of the orders hold of its outputs and marks. Assumes nothing.
use mathlib.Core.Path.{◌≡◌, refl, sym, ◌∙◌}
use mathlib.Core.List.{List, [], ◌∷◌}
use Prim.Native.Nat.{ℕ, zero, suc, ◌+◌, ◌*◌, ◌-◌, ◌≤◌, ◌<◌}
use native.Mathlib.Decide.{dec_lt}
use native.Mathlib.Omega.{arith}
use borrow.Author.Tests.{eq-eqb}
use lib.Dec.{T, leb, eqb, le→leb, lit≤, eqb→eq}
use lib.ListN.{length}
use Rattle.laws.proofs.Tests.{true_to_t}
use Rattle.cases.specs.declared.Case.{Case}
use Rattle.cases.specs.Symbols.{sum, before, high, low, RU, RD, up_time, down_time, UD, DD, PU, PD, last, h}
use Rattle.day.specs.Marks.{p, v, y, y_back, starting, closes, z}
use Rattle.day.specs.Constraints.{stopping, start_output, stop_output, stops_within, rule1, rule2, rule3, rule4}
use Rattle.day.specs.Constraints.{rule5, rule6, rule7, rule8, rule9, rule10, rule11, rule12}
use Rattle.day.specs.Rules.{hours_since, rule21, rule22, rule23, day_rules, broken_of, broken_at, keeps}
use Rattle.day.specs.Words.{Ordered}
use Rattle.day.proofs.MarksLaws.{z_after, of_closes, bit_true}
use Rattle.day.proofs.BreachLaws.{broken_at_zero, broken_at_inside, broken_at_after}
use Rattle.day.proofs.TimesLaws.{time_of, of_time, y_le, z_le, ordered_of, of_ordered}
use Rattle.day.proofs.KeepsLaws.{broken_cons, cons_broken, kept_length, kept_unbroken, kept_of_unbroken}

-- (1) to (12) of one hour k over the numbers that they are made of: p(k), p(k−1), v(k), v(k−1), y(k) and z(k); starts
-- and start-up output of its start-up window, stops and stop output of its shut-down window; stops in DD and in UD + DD
-- − 1 hours
pub record Hour (c : Case) (p q v w y z sy wy sz wz sq big : ℕ) : Type 0 where
  pub r1 : low c * v + wy ≤ p + low c * (sz + sy)
  pub r2 : low c * v + wz ≤ p + low c * (sz + sy)
  pub r3 : p + high c * sy ≤ wy + high c * v
  pub r4 : p + high c * sz ≤ wz + high c * v
  pub r5 : p + RU c * sy ≤ q + (high c * sy + RU c * v)
  pub r6 : q + RD c * sq ≤ p + (high c * sq + RD c * w)
  pub r7 : y + w ≡ v + z
  pub r8 : sy ≤ v
  pub r9 : sz ≤ v
  pub r10 : y + big ≤ 1
  pub r11 : PU c (UD c) * (sz + sy) ≤ p + PU c (UD c)
  pub r12 : PD c 1 * (sz + sy) ≤ p + PD c 1

-- (2) and (4) at hour 0
pub record Open (c : Case) (p v sy sz wz : ℕ) : Type 0 where
  pub r2 : low c * v + wz ≤ p + low c * (sz + sy)
  pub r4 : p + high c * sz ≤ wz + high c * v

module _ (c : Case) (l : List ℕ) where
  -- the rules of hour k, from 1 on, with the source's sums
  pub record LiteralHour (k : ℕ) : Type 0 where
    pub hour : Hour c (p c l k) (p c l (before k)) (v c l k) (v c l (before k)) (y c l k) (z c l k)
        (sum (λ i. y_back c l k i) (UD c)) (sum (λ i. PU c i * y_back c l k i) (UD c))
        (sum (λ i. z c l (k + i)) (DD c)) (sum (λ i. PD c i * z c l (k + DD c + 1 - i)) (DD c))
        (sum (λ i. z c l (k + i - 1)) (DD c)) (sum (λ i. z c l (k + i - 1)) (UD c + DD c - 1))
    pub up_time_kept : z c l k ≡ 1 → up_time c ≤ hours_since (h c) (y c l) k (before k)
    pub down_time_kept : y c l k ≡ 1 → down_time c ≤ hours_since (h c) (z c l) k (before k)
    pub ordered : Ordered c k (p c l k)

  -- hour 0
  abbrev pub LiteralOpening : Type 0
  LiteralOpening = Open c (p c l 0) (v c l 0) (sum (λ i. y_back c l 0 i) (UD c)) (sum (λ i. z c l (0 + i)) (DD c))
      (sum (λ i. PD c i * z c l (0 + DD c + 1 - i)) (DD c))

  -- rule 21 at hour k + 1
  abbrev pub UpTime : ℕ → Type 0
  UpTime k = z c l (suc k) ≡ 1 → up_time c ≤ hours_since (h c) (y c l) (suc k) k

  -- the day, and the stop after it
  pub record Literal : Type 0 where
    pub long : length l ≡ last c
    pub opening : LiteralOpening
    pub each : (k : ℕ) → 1 ≤ k → k ≤ last c → LiteralHour k
    pub late : (k : ℕ) → last c ≤ k → UpTime k

none_broken : (k : ℕ) → broken_of k [] ≡ 0
unfolding broken_of
none_broken k = refl

le_test : {a b : ℕ} → a ≤ b → T (leb a b)
le_test {a} {b} h = le→leb a b h

module _ (c : Case) (l : List ℕ) where
  hour_of : (k : ℕ) → broken_of (suc k) (day_rules c l) ≡ 0 → LiteralHour c l (suc k)
  unfolding day_rules starting stopping start_output stop_output stops_within rule1 rule2 rule3 rule4 rule5 rule6
      rule7 rule8 rule9 rule10 rule11 rule12 rule21 rule22
  hour_of k e0 =
      let (a1, e1) = broken_cons (suc k) 0 (rule1 c l) _ e0 in
      let (a2, e2) = broken_cons (suc k) 1 (rule2 c l) _ e1 in
      let (a3, e3) = broken_cons (suc k) 2 (rule3 c l) _ e2 in
      let (a4, e4) = broken_cons (suc k) 3 (rule4 c l) _ e3 in
      let (a5, e5) = broken_cons (suc k) 4 (rule5 c l) _ e4 in
      let (a6, e6) = broken_cons (suc k) 5 (rule6 c l) _ e5 in
      let (a7, e7) = broken_cons (suc k) 6 (rule7 c l) _ e6 in
      let (a8, e8) = broken_cons (suc k) 7 (rule8 c l) _ e7 in
      let (a9, e9) = broken_cons (suc k) 8 (rule9 c l) _ e8 in
      let (a10, e10) = broken_cons (suc k) 9 (rule10 c l) _ e9 in
      let (a11, e11) = broken_cons (suc k) 10 (rule11 c l) _ e10 in
      let (a12, e12) = broken_cons (suc k) 11 (rule12 c l) _ e11 in
      let (a21, e21) = broken_cons (suc k) 20 (rule21 c l) _ e12 in
      let (a22, e22) = broken_cons (suc k) 21 (rule22 c l) _ e21 in
      let (a23, e23) = broken_cons (suc k) 22 (rule23 c l) [] e22 in
      record {
        hour = record {
          r1 = lit≤ a1;
          r2 = lit≤ a2;
          r3 = lit≤ a3;
          r4 = lit≤ a4;
          r5 = lit≤ a5;
          r6 = lit≤ a6;
          r7 = eqb→eq (y c l (suc k) + v c l k) (v c l (suc k) + z c l (suc k)) a7;
          r8 = lit≤ a8;
          r9 = lit≤ a9;
          r10 = lit≤ a10;
          r11 = lit≤ a11;
          r12 = lit≤ a12;
        };
        up_time_kept = time_of (z c l (suc k)) (up_time c) (hours_since (h c) (y c l) (suc k) k) a21;
        down_time_kept = time_of (y c l (suc k)) (down_time c) (hours_since (h c) (z c l) (suc k) k) a22;
        ordered = ordered_of c l (suc k) a23;
      }

  of_hour : (k : ℕ) → LiteralHour c l (suc k) → broken_of (suc k) (day_rules c l) ≡ 0
  unfolding day_rules starting stopping start_output stop_output stops_within rule1 rule2 rule3 rule4 rule5 rule6
      rule7 rule8 rule9 rule10 rule11 rule12 rule21 rule22
  of_hour k s =
      let n = s.hour in
      let starts = y c l (suc k) + v c l k in
      let stops = v c l (suc k) + z c l (suc k) in
      let age = hours_since (h c) (y c l) (suc k) k in
      let rest = hours_since (h c) (z c l) (suc k) k in
      let up = of_time (z c l (suc k)) (up_time c) age (z_le c l (suc k)) s.up_time_kept in
      let down = of_time (y c l (suc k)) (down_time c) rest (y_le c l (suc k)) s.down_time_kept in
      let e23 = cons_broken (suc k) 23 (rule23 c l) [] (of_ordered c l (suc k) s.ordered) (none_broken (suc k)) in
      let e22 = cons_broken (suc k) 22 (rule22 c l) _ down e23 in
      let e21 = cons_broken (suc k) 21 (rule21 c l) _ up e22 in
      let e12 = cons_broken (suc k) 12 (rule12 c l) _ (le_test n.r12) e21 in
      let e11 = cons_broken (suc k) 11 (rule11 c l) _ (le_test n.r11) e12 in
      let e10 = cons_broken (suc k) 10 (rule10 c l) _ (le_test n.r10) e11 in
      let e9 = cons_broken (suc k) 9 (rule9 c l) _ (le_test n.r9) e10 in
      let e8 = cons_broken (suc k) 8 (rule8 c l) _ (le_test n.r8) e9 in
      let e7 = cons_broken (suc k) 7 (rule7 c l) _ (true_to_t (eqb starts stops) (eq-eqb starts stops n.r7)) e8 in
      let e6 = cons_broken (suc k) 6 (rule6 c l) _ (le_test n.r6) e7 in
      let e5 = cons_broken (suc k) 5 (rule5 c l) _ (le_test n.r5) e6 in
      let e4 = cons_broken (suc k) 4 (rule4 c l) _ (le_test n.r4) e5 in
      let e3 = cons_broken (suc k) 3 (rule3 c l) _ (le_test n.r3) e4 in
      let e2 = cons_broken (suc k) 2 (rule2 c l) _ (le_test n.r2) e3 in
      cons_broken (suc k) 1 (rule1 c l) _ (le_test n.r1) e2

  opening_of : broken_at c l 0 ≡ 0 → LiteralOpening c l
  unfolding starting stopping stop_output rule2 rule4
  opening_of e =
      let e0 = sym (broken_at_zero c l) ∙ e in
      let (a2, e2) = broken_cons 0 1 (rule2 c l) _ e0 in
      let (a4, e4) = broken_cons 0 3 (rule4 c l) [] e2 in
      record { r2 = lit≤ a2; r4 = lit≤ a4 }

  of_opening : LiteralOpening c l → broken_at c l 0 ≡ 0
  unfolding starting stopping stop_output rule2 rule4
  of_opening s =
      let e4 = cons_broken 0 4 (rule4 c l) [] (le_test s.r4) (none_broken 0) in
      broken_at_zero c l ∙ cons_broken 0 2 (rule2 c l) _ (le_test s.r2) e4

  -- the stop after T
  late_of : (k : ℕ) → broken_of (suc k) ((21, rule21 c l) ∷ []) ≡ 0 → UpTime c l k
  unfolding rule21
  late_of k e =
      let (a21, e21) = broken_cons (suc k) 20 (rule21 c l) [] e in
      time_of (z c l (suc k)) (up_time c) (hours_since (h c) (y c l) (suc k) k) a21

  of_late : (k : ℕ) → UpTime c l k → broken_of (suc k) ((21, rule21 c l) ∷ []) ≡ 0
  unfolding rule21
  of_late k s =
      let age = hours_since (h c) (y c l) (suc k) k in
      cons_broken (suc k) 21 (rule21 c l) [] (of_time (z c l (suc k)) (up_time c) age (z_le c l (suc k)) s)
      (none_broken (suc k))

  -- it stands before hour T + DD
  late_within : (k : ℕ) → last c ≤ k → z c l (suc k) ≡ 1 → suc k < last c + DD c
  late_within k a e =
      let i = last c + DD c + 1 - suc k in
      omega (arith, of_closes c l i (bit_true (closes c l i) (sym (z_after c l (suc k) (omega arith)) ∙ e)))

  module _ (some : 1 ≤ DD c) where
    pub literal_of_keeps : T (keeps c l) → Literal c l
    literal_of_keeps t =
        record {
          long = kept_length c l t;
          opening = opening_of (kept_unbroken c l t 0 (omega arith));
          each = each;
          late = λ k a e. late_of k (after k a (late_within k a e)) e;
        }
      where
        each : (k : ℕ) → 1 ≤ k → k ≤ last c → LiteralHour c l k
        each zero a b = absurd (omega arith)
        each (suc k) a b =
            hour_of k (sym (broken_at_inside c l (suc k) a b) ∙ kept_unbroken c l t (suc k) (omega arith))

        after : (k : ℕ) → last c ≤ k → suc k < last c + DD c → broken_of (suc k) ((21, rule21 c l) ∷ []) ≡ 0
        after k a b = sym (broken_at_after c l (suc k) (omega arith)) ∙ kept_unbroken c l t (suc k) b

    pub keeps_of_literal : Literal c l → T (keeps c l)
    keeps_of_literal s = kept_of_unbroken c l s.long at
      where
        hour : (k : ℕ) → Dec (k < last c) → broken_at c l (suc k) ≡ 0
        hour k (yes a) = broken_at_inside c l (suc k) (omega arith) a ∙ of_hour k (s.each (suc k) (omega arith) a)
        hour k (no a) = broken_at_after c l (suc k) (omega arith) ∙ of_late k (s.late k (omega arith))

        at : (k : ℕ) → k < last c + DD c → broken_at c l k ≡ 0
        at zero b = of_opening s.opening
        at (suc k) b = hour k (dec_lt k (last c))
