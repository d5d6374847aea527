-- A list that keeps every rule with no mark outside the day closes in no shut-down, since (1) holds its last output to
-- the minimum; so its marks are those of request F-5, and it keeps every rule and earns the same. Assumes nothing.
use mathlib.Core.Path.{◌≡◌, refl, sym, ap, ◌∙◌, subst}
use mathlib.Core.Bool.{Bool, true, false, ◌||◌, cond}
use mathlib.Core.List.{List}
use Prim.Native.Nat.{ℕ, zero, suc, ◌+◌, ◌*◌, ◌-◌, ◌≤◌, ◌<◌}
use native.Mathlib.Decide.{dec_lt}
use native.Mathlib.Omega.{arith}
use borrow.Author.Tests.{lt-ltb, le-ltb, lt-leb, le-leb, ne_eqb}
use lib.Dec.{T, leb, ltb, eqb, leb→le}
use lib.ListN.{length}
use Rattle.cases.specs.declared.Case.{Case}
use Rattle.cases.specs.Symbols.{bit, low, UD, DD, PD, last, up_stage}
use Rattle.day.specs.Marks.{p, y, y_back, starting, closes, z}
use Rattle.day.specs.Rules.{keeps}
use Rattle.day.specs.Profit.{profit_of}
use Rattle.cases.specs.Refusals.{within}
use Rattle.day.specs.Words.{Kept, kept1, tested, KeepsAll, marking_of, inside_of, earned, online, ups, downs}
use Rattle.day.specs.Words.{up_output}
use Rattle.cases.proofs.SymbolsLaws.{sum_zeros, sum_same}
use Rattle.cases.proofs.LimitsLaws.{Limits}
use Rattle.day.proofs.MarksLaws.{z_after, y_back_in, y_back_out, of_closes}
use Rattle.day.proofs.FormulaLaws.{least}
use Rattle.day.proofs.KeptLaws.{kept}
use Rattle.day.proofs.SalesLaws.{profit_earned}
use Rattle.day.proofs.Automaton.Stages.{pd_lt, pd_pos}

module _ (c : Case) (l : List ℕ) (lim : Limits c) (free : up_stage c ≡ 0) where
  -- y(k−i+1)
  back_inside : (k i : ℕ) → cond (ltb k i) 0 (y c l (k + 1 - i)) ≡ y_back c l k i
  back_inside k i = go (dec_lt k i)
    where
      go : Dec (k < i) → cond (ltb k i) 0 (y c l (k + 1 - i)) ≡ y_back c l k i
      go (yes h) =
          ap (λ t. cond t 0 (y c l (k + 1 - i))) (lt-ltb k i h)
          ∙ ap bit (sym (ne_eqb (i - k) (up_stage c) (λ e. omega arith))) ∙ sym (y_back_out c l k i h)
      go (no h) =
          ap (λ t. cond t 0 (y c l (k + 1 - i))) (le-ltb k i (omega arith)) ∙ sym (y_back_in c l k i (omega arith))

  module _ (K : KeepsAll c (inside_of c l)) where
    -- (1) at hour T
    first_rule : Kept c (inside_of c l) (last c) 1
    first_rule = K (last c) 1 (omega (arith, lim.falls_pos)) (held (last c) refl)
      where
        held : (t : ℕ) → last c ≡ t → T (tested c t 1)
        held zero e = absurd (omega (arith, lim.hours_pos))
        held (suc t) e =
            let inside = lt-ltb t (last c) (omega arith) in
            subst (λ b. T (cond b (within 1 12 1 || within 21 23 1) (eqb 1 21))) (sym inside) tt

    least_output : low c * online c (inside_of c l) (last c) ≤ p c l (last c)
        + low c * (downs c (inside_of c l) (last c) + ups c (inside_of c l) (last c))
    least_output = go first_rule
      where
        go : Kept c (inside_of c l) (last c) 1
            → low c * online c (inside_of c l) (last c) ≤ p c l (last c)
            + low c * (downs c (inside_of c l) (last c) + ups c (inside_of c l) (last c))
        go (kept1 h) =
            let m = inside_of c l in
            let k = last c in
            let n = downs c m k + ups c m k in
            let t = (least (low c) (online c m k) n (up_output c m k) (p c l k)).1 h in
            omega (arith, leb→le (low c * online c m k + up_output c m k) (p c l k + low c * n) t)

    -- no stop is marked after T
    not_closed : (i : ℕ) → closes c l i ≡ true → ⊥
    unfolding starting
    not_closed i e =
        let (a, b, q, s) = of_closes c l i e in
        let m = inside_of c l in
        let above : 0 < p c l (last c) = omega (arith, pd_pos c lim i (omega arith) b) in
        let on : online c m (last c) ≡ 1 = ap bit (lt-ltb 0 (p c l (last c)) above) in
        let none : downs c m (last c) ≡ 0 = sum_zeros (λ i. m.z (last c + i)) (DD c)
        (λ j x w. ap (λ t. cond t (z c l (last c + j)) 0) (lt-leb (last c + j) (last c) (omega arith))) in
        let quiet : ups c m (last c) ≡ 0 = sum_same (λ i. m.back (last c) i) (λ i. y_back c l (last c) i) (UD c)
        (λ j x w. back_inside (last c) j) ∙ s in
        let small = pd_lt c lim (i - 1) (omega arith) (omega arith) in
        let same = ap (PD c) (let r : suc (i - 1) ≡ i = omega arith in r) in
        let one = ap (λ n. low c * n) on in
        let nothing = ap (λ n. low c * n) (let r : downs c m (last c) + ups c m (last c) ≡ 0 = omega arith in r) in
        omega (arith, least_output)

    closes_false : (i : ℕ) → closes c l i ≡ false
    closes_false i = go (closes c l i) refl
      where
        go : (t : Bool) → closes c l i ≡ t → t ≡ false
        go true e = absurd (not_closed i e)
        go false e = refl

    z_inside : (k : ℕ) → cond (leb k (last c)) (z c l k) 0 ≡ z c l k
    z_inside k = go (dec_lt (last c) k)
      where
        go : Dec (last c < k) → cond (leb k (last c)) (z c l k) 0 ≡ z c l k
        go (yes h) =
            ap (λ t. cond t (z c l k) 0) (lt-leb k (last c) h)
            ∙ sym (z_after c l k h ∙ ap bit (closes_false (last c + DD c + 1 - k)))
        go (no h) = ap (λ t. cond t (z c l k) 0) (le-leb k (last c) (omega arith))

    same_marks : inside_of c l ≡ marking_of c l
    same_marks = λ i. record { p = p c l; y = y c l; z = λ k. z_inside k i; back = λ k j. back_inside k j i }

    pub kept_before : length l ≡ last c → T (keeps c l) × (profit_of c l ≡ earned c (inside_of c l))
    kept_before e = (
      (kept c l).1 (e, subst (KeepsAll c) same_marks K),
      profit_earned c l ∙ ap (earned c) (sym same_marks),
    )
