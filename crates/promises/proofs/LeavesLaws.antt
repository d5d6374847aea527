-- What a list leaves, by the state in which its day ends: the next day opens in that state, or in one alike, and its
-- opening is within the limits. Assumes nothing.
use mathlib.Core.Path.{◌≡◌, refl, sym, ap, ◌∙◌, subst}
use mathlib.Core.Bool.{Bool, true, false, cond}
use mathlib.Core.List.{List}
use Prim.Native.Nat.{ℕ, zero, suc, ◌*◌, ◌-◌, ◌≤◌, ◌<◌, min}
use native.Mathlib.Nat.{mul-zero, mul-one}
use native.Mathlib.Omega.{arith}
use borrow.Author.Tests.{eq-eqb, ne_eqb, lt-ltb, le-ltb}
use lib.Dec.{eqb}
use Rattle.cases.specs.declared.Case.{Case}
use Rattle.quantities.specs.declared.Mills.{Mills}
use Rattle.cases.specs.Limits.{most_elapsed}
use Rattle.cases.specs.Symbols.{bit, UD, DD, PU, PD, last, h}
use Rattle.day.specs.Marks.{p, y, starting, closes, z}
use Rattle.promises.specs.Next.{on_hours, off_hours, leaves, next_day}
use Rattle.cases.specs.Published.{Opening}
use Rattle.day.specs.Automaton.{St, off, up, run, down, first, LateStop}
use Rattle.cases.proofs.LimitsLaws.{Limits}
use Rattle.cases.proofs.SymbolsLaws.{sum_zeros, sum_one}
use Rattle.day.proofs.MarksLaws.{closes_of, of_closes}
use Rattle.day.proofs.TimesLaws.{y_le, z_le}
use Rattle.day.proofs.Automaton.Hours.{on, back, since}
use Rattle.day.proofs.Automaton.HoursLaws.{on_pos, since_pos}
use Rattle.day.proofs.Automaton.Windows.{Win}
use Rattle.day.proofs.Automaton.Windowed.{win_sum}
use Rattle.day.proofs.Automaton.Stages.{pu_pos, pd_lt, pd_pos, pd_one}
use Rattle.day.proofs.Automaton.Pasts.{Past}
use Rattle.day.proofs.Automaton.Ruled.{past_of}
use Rattle.day.proofs.Automaton.Literals.{hours_since_next, starts_sum}
use Rattle.day.proofs.Automaton.Joined.{Alike, same, alike_off, alike_run}

bit_none : (t : Bool) → (t ≡ true → ⊥) → bit t ≡ 0
bit_none true h = absurd (h refl)
bit_none false h = refl

module _ (c : Case) (l : List ℕ) where
  -- ---- each number that is left
  initial_is : (leaves c l).initial.0 ≡ p c l (last c)
  unfolding leaves
  initial_is = refl

  on_hours_since : on_hours c l ≡ since (y c l) (h c) (last c)
  unfolding on_hours
  on_hours_since = hours_since_next (h c) (y c l) (y_le c l) (last c)

  off_hours_since : off_hours c l ≡ since (z c l) (h c) (last c)
  unfolding off_hours
  off_hours_since = hours_since_next (h c) (z c l) (z_le c l) (last c)

  elapsed_off : p c l (last c) ≡ 0 → (leaves c l).elapsed.0 ≡ min (since (z c l) (h c) (last c)) most_elapsed
  unfolding leaves
  elapsed_off e = rw (eq-eqb (p c l (last c)) 0 e) (ap (λ n. min n most_elapsed) off_hours_since)

  elapsed_on : 1 ≤ p c l (last c) → (leaves c l).elapsed.0 ≡ min (since (y c l) (h c) (last c)) most_elapsed
  unfolding leaves
  elapsed_on e = rw (ne_eqb (p c l (last c)) 0 (λ z. omega arith)) (ap (λ n. min n most_elapsed) on_hours_since)

  -- hour T in no start-up, in one that is over, and in one that goes on
  up_off : starting c l (last c) ≡ 0 → (leaves c l).upstage ≡ 0
  unfolding leaves
  up_off e = rw (eq-eqb (starting c l (last c)) 0 e)

  up_over : UD c ≤ since (y c l) (h c) (last c) → (leaves c l).upstage ≡ 0
  unfolding leaves
  up_over a = rw (le-ltb (on_hours c l) (UD c) (omega (arith, on_hours_since))) (go (eqb (starting c l (last c)) 0))
    where
      go : (t : Bool) → ◌≡◌ {A = ℕ} (cond t 0 0) 0
      go true = refl
      go false = refl

  up_at : starting c l (last c) ≡ 1 → since (y c l) (h c) (last c) < UD c
      → (leaves c l).upstage ≡ since (y c l) (h c) (last c)
  unfolding leaves
  up_at e a =
      rw (ne_eqb (starting c l (last c)) 0 (λ z. omega arith), lt-ltb (on_hours c l) (UD c) (omega (arith, on_hours_since)))
      on_hours_since

  -- no stop after T, and one
  down_none : ((i : ℕ) → closes c l i ≡ true → ⊥) → (leaves c l).downstage ≡ 0
  unfolding leaves
  down_none none =
      sum_zeros (λ i. i * bit (closes c l i)) (DD c)
      (λ i a b. ap (λ n. i * n) (bit_none (closes c l i) (none i)) ∙ mul-zero i)

  down_at : (i : ℕ) → 1 ≤ i → i ≤ DD c → closes c l i ≡ true → ((j : ℕ) → closes c l j ≡ true → j ≡ i)
      → (leaves c l).downstage ≡ i
  unfolding leaves
  down_at i a b e one =
      sum_one (λ i. i * bit (closes c l i)) (DD c) i a b
      (λ j x y n. ap (λ k. j * k) (bit_none (closes c l j) (λ q. n (one j q))) ∙ mul-zero j)
      ∙ ap (λ t. i * bit t) e ∙ mul-one i

  -- ---- by the last state
  module _ (lim : Limits c) (prices : List Mills) (orders : List ℕ) (n : ℕ) where
    abbrev next : Case
    next = next_day c l prices orders n

    abbrev Ends : St → Type 0
    Ends t = Past c (past_of c) (p c l) (y c l) (z c l) (last c) t

    abbrev Like : St → St → Type 0
    Like = Alike c.mindown.0 c.minup.0

    -- the state in which the next day opens, and what is said of it
    pub record Left (t : St) : Type 0 where
      pub like : Like t (first next next.upstage next.downstage next.initial.0)
      pub late : LateStop next
      pub opening : Opening next

    starting_in : (a : ℕ) → Win (UD c) (back (past_of c) (y c l) (last c)) a → starting c l (last c) ≡ on a
    unfolding starting
    starting_in a w = starts_sum c l (last c) ∙ win_sum a w

    -- in these numbers
    opens_at : {t : St} (i j x : ℕ) → next.upstage ≡ i → next.downstage ≡ j → next.initial.0 ≡ x
        → Like t (first next i j x) → Like t (first next next.upstage next.downstage next.initial.0)
    opens_at {t} i j x a b e q =
        subst (λ i. Like t (first next i next.downstage next.initial.0)) (sym a)
        (subst (λ j. Like t (first next i j next.initial.0)) (sym b)
        (subst (λ x. Like t (first next i j x)) (sym e) q))

    left_off : (d : ℕ) → Ends (off d) → Left (off d)
    left_off d v =
        let a = up_off (starting_in 0 v.2) in
        let none : (i : ℕ) → closes c l i ≡ true → ⊥ = λ i e.
        let q = of_closes c l i e in omega (arith, q.2, pd_pos c lim i (omega (arith, q.0)) q.1) in
        let b = down_none none in
        let held = elapsed_off v.0 in
        let some = since_pos (z c l) (h c) lim.elapsed_pos (last c) in
        let off_line = initial_is ∙ v.0 in
        record {
          like = opens_at 0 0 0 a b off_line
              (alike_off c.mindown.0 c.minup.0 most_elapsed d next.elapsed.0
              (omega (arith, lim.mindown_le)) (held ∙ ap (λ n. min n most_elapsed) v.1));
          late = λ x. omega (arith, b);
          opening = record {
            elapsed = omega (arith, held, some);
            single = λ x. b;
            free = λ x w on. omega (arith, off_line);
            up = λ x. omega (arith, a);
            down = λ x. omega (arith, b);
          };
        }

    left_up : (i : ℕ) → Ends (up i) → Left (up i)
    left_up i v =
        let one = starting_in i v.4 ∙ on_pos i v.2 in
        let a = up_at one (omega (arith, v.1, v.3)) ∙ v.1 in
        let none : (j : ℕ) → closes c l j ≡ true → ⊥ = λ j e. omega (arith, (of_closes c l j e).3) in
        let b = down_none none in
        let some = pu_pos c lim i v.2 (omega (arith, v.3)) in
        let held = elapsed_on (omega (arith, v.0)) in
        let age : next.elapsed.0 ≡ i = omega (arith, held, v.1, v.3, lim.rises_le) in
        record {
          like = opens_at i 0 next.initial.0 a b refl (at i v.2);
          late = λ x. omega (arith, b);
          opening = record {
            elapsed = omega (arith, age, v.2, v.3, lim.rises_le);
            single = λ x. b;
            free = λ x w on. omega (arith, a, v.2);
            up = λ x. (omega (arith, a, v.3), initial_is ∙ v.0 ∙ ap (PU c) (sym a), age ∙ sym a);
            down = λ x. omega (arith, b);
          };
        }
      where
        at : (i : ℕ) → 1 ≤ i → Like (up i) (first next i 0 next.initial.0)
        at zero q = absurd (omega arith)
        at (suc i) q = same (up (suc i))

    left_run : (r u : ℕ) → Ends (run r u) → Left (run r u)
    left_run r u v =
        let a = up_over (omega (arith, v.1, v.7)) in
        let none : (i : ℕ) → closes c l i ≡ true → ⊥ = λ i e. small i (of_closes c l i e) in
        let b = down_none none in
        let held = elapsed_on (omega (arith, v.0, v.2, lim.minimum_pos)) in
        let output = initial_is ∙ v.0 in
        let capped = held ∙ ap (λ n. min n most_elapsed) v.1 in
        let some = since_pos (y c l) (h c) lim.elapsed_pos (last c) in
        record {
          like = opens_at 0 0 r a b output (at r (omega (arith, v.2, lim.minimum_pos)) capped);
          late = λ x. omega (arith, b);
          opening = record {
            elapsed = omega (arith, held, some);
            single = λ x. b;
            free = λ x w on.
                (omega (arith, output, v.2), omega (arith, output, v.3), omega (arith, capped, v.7, lim.rises_le));
            up = λ x. omega (arith, a);
            down = λ x. omega (arith, b);
          };
        }
      where
        small : (i : ℕ) → (2 ≤ i) × (i ≤ DD c) × (p c l (last c) ≡ PD c i) × (starting c l (last c) ≡ 0) → ⊥
        small i q =
            let below = pd_lt c lim (i - 1) (omega (arith, q.0)) (omega (arith, q.0, q.1)) in
            let here = ap (PD c) (let e : suc (i - 1) ≡ i = omega (arith, q.0) in e) in
            omega (arith, v.0, v.2, q.2)

        at : (x : ℕ) → 1 ≤ x → next.elapsed.0 ≡ min u most_elapsed → Like (run x u) (first next 0 0 x)
        at zero q e = absurd (omega arith)
        at (suc x) q e =
            alike_run c.mindown.0 c.minup.0 most_elapsed (suc x) u next.elapsed.0
            (omega (arith, lim.minup_le)) e

    left_down : (i : ℕ) → Ends (down i) → Left (down i)
    left_down i v =
        let none = starting_in 0 v.4 in
        let a = up_off none in
        let one : (j : ℕ) → closes c l j ≡ true → j ≡ i = λ j e.
        let q = of_closes c l j e in
        pd_one c lim j i (omega (arith, q.0)) q.1 (omega (arith, v.2)) v.3 (sym q.2 ∙ v.0) in
        let b = down_at i (omega (arith, v.2)) v.3 (closes_of c l i v.2 v.3 v.0 none) one in
        let held = elapsed_on (omega (arith, v.0, pd_pos c lim i (omega (arith, v.2)) v.3)) in
        let some = since_pos (y c l) (h c) lim.elapsed_pos (last c) in
        record {
          like = opens_at 0 i next.initial.0 a b refl (at i (omega (arith, v.2)));
          late = λ x. omega (arith, b, held, v.1, v.3, lim.minup_le);
          opening = record {
            elapsed = omega (arith, held, some);
            single = λ x. omega (arith, a);
            free = λ x w on. omega (arith, b, v.2);
            up = λ x. omega (arith, a);
            down = λ x. (
              omega (arith, b, v.2),
              omega (arith, b, v.3),
              initial_is ∙ v.0 ∙ ap (PD c) (sym b),
              omega (arith, b, held, v.5, v.3, lim.rises_le, lim.falls_le),
            );
          };
        }
      where
        at : (i : ℕ) → 1 ≤ i → Like (down i) (first next 0 i next.initial.0)
        at zero q = absurd (omega arith)
        at (suc i) q = same (down (suc i))

    pub left : (t : St) → Ends t → Left t
    left (off d) v = left_off d v
    left (up i) v = left_up i v
    left (run r u) v = left_run r u v
    left (down i) v = left_down i v
