-- The day of a case opens in the state that the automaton opens in, and what the machine earns with a list from there
-- is the list's profit if it keeps every rule, and nothing otherwise. Assumes nothing.
use mathlib.Core.Path.{◌≡◌, refl, sym, ap, ◌∙◌, subst}
use mathlib.Core.Bool.{Bool, true, false, ◌&&◌, cond}
use mathlib.Core.List.{List}
use mathlib.Core.Option.{Option, none, some}
use Prim.Native.Nat.{ℕ, zero, suc, ◌+◌, ◌-◌, min}
use native.Mathlib.Omega.{arith}
use borrow.Author.Tests.{lt-ltb, ltb-true, ltb-false}
use lib.Dec.{T, ltb, eqb, eqb-suc-zero}
use lib.IntN.{ℤ}
use Rattle.laws.proofs.Tests.{both, true_to_t, false_to_not}
use Rattle.cases.specs.declared.Case.{Case}
use Rattle.cases.specs.Symbols.{DD, PU, PD, last, p0, h, up_stage, down_stage}
use Rattle.day.specs.Rules.{keeps}
use Rattle.day.specs.Profit.{profit_by}
use Rattle.cases.proofs.LimitsLaws.{Limits}
use Rattle.day.proofs.CapacityLaws.{p_le}
use Rattle.cases.proofs.OpeningLaws.{in_start, in_stop, in_none}
use Rattle.machine.specs.declared.Rates.{Rates}
use Rattle.machine.specs.declared.State.TheVariants.{Rise, Fall}
use Rattle.machine.specs.Search.{outcome}
use Rattle.machine.specs.Order.{earned}
use Rattle.machine.specs.Moves.{idle, running, output, machine}
use Rattle.machine.specs.Cases.{unit_of, tariff_at, Pays, opening_of, stops_early}
use Rattle.day.specs.Automaton.{St, first, LateStop}
use Rattle.machine.specs.Image.{image, Good, profit_from}
use Rattle.day.proofs.Automaton.Keeping.{keeps_runs}
use Rattle.machine.proofs.Bridge.CasesLaws.{pu_at_is, pd_at_is}
use Rattle.machine.proofs.Bridge.Listed.{runs_profit, runs_of_earned}
use Rattle.machine.proofs.Bridge.Profits.{profit_from_profit_by}

module _ (c : Case) where
  -- the state in which the automaton opens
  abbrev start : St
  start = first c (up_stage c) (down_stage c) (p0 c)

  image_first : image c start ≡ opening_of c
  unfolding opening_of
  image_first = go (up_stage c) (down_stage c) (p0 c)
    where
      go : (u d n : ℕ) → image c (first c u d n)
          ≡ cond (eqb u 0)
          (cond (eqb d 0)
          (cond (eqb n 0) (idle (min (h c) c.mindown.0)) (running n (c.minup.0 + 1 - (h c + DD c))))
          (Fall (d - 1)))
          (Rise (u - 1))
      go zero zero zero = refl
      go zero zero (suc n) = rw (eqb-suc-zero n)
      go zero (suc d) n = rw (eqb-suc-zero d) (ap Fall (omega arith))
      go (suc u) d n = rw (eqb-suc-zero u) (ap Rise (omega arith))

  module _ (lim : Limits c) where
    output_first : output (unit_of c) (image c start) ≡ p0 c
    output_first = go (up_stage c) (down_stage c) (p0 c) refl refl refl
      where
        go : (u d n : ℕ) → up_stage c ≡ u → down_stage c ≡ d → p0 c ≡ n
            → output (unit_of c) (image c (first c u d n)) ≡ n
        go zero zero zero a b e = refl
        go zero zero (suc n) a b e = refl
        go zero (suc d) n a b e =
            let stop = in_stop c lim.opened (omega arith) in
            pd_at_is c lim d (omega (arith, stop.2)) ∙ ap (PD c) (sym b) ∙ sym stop.3 ∙ e
        go (suc u) d n a b e =
            let rise = in_start c lim.opened (omega arith) in
            pu_at_is c lim u (omega (arith, rise.1)) ∙ ap (PU c) (sym a) ∙ sym rise.2 ∙ e

    good_first : Good c start
    good_first = go (up_stage c) (down_stage c) (p0 c) refl refl refl
      where
        go : (u d n : ℕ) → up_stage c ≡ u → down_stage c ≡ d → p0 c ≡ n → Good c (first c u d n)
        go zero zero zero a b e = tt
        go zero zero (suc n) a b e =
            let free = in_none c lim.opened a b (omega arith) in
            (omega (arith, free.0), omega (arith, free.1))
        go zero (suc d) n a b e =
            let stop = in_stop c lim.opened (omega arith) in
            (omega arith, omega (arith, stop.2))
        go (suc u) d n a b e =
            let rise = in_start c lim.opened (omega arith) in
            (omega arith, omega (arith, rise.1))

    -- no list keeps the rules where the stop in which the day opens comes too early
    pub early_none : stops_early c ≡ true → (l : List ℕ) → T (keeps c l) → ⊥
    early_none e l t =
        let (a, b) = both (ltb 0 (down_stage c)) (ltb (h c + DD c) (c.minup.0 + down_stage c)) e in
        let (n, late, r) = (keeps_runs c l lim).0 t in
        omega (
          arith,
          late (ltb-true 0 (down_stage c) a),
          ltb-true (h c + DD c) (c.minup.0 + down_stage c) b,
        )

    pub late_of : stops_early c ≡ false → LateStop c
    late_of e a =
        let kept = ap (λ t. t && ltb (h c + DD c) (c.minup.0 + down_stage c)) (sym (lt-ltb 0 (down_stage c) a)) ∙ e in
        ltb-false (h c + DD c) (c.minup.0 + down_stage c) kept

    module _ (late : LateStop c) {rates : Rates} {costs : List ℤ} {cost : ℕ → ℤ} (pays : Pays rates costs cost)
        (l : List ℕ) where
      abbrev Outcome : Option ℤ
      Outcome = outcome (machine (unit_of c) (tariff_at c rates costs)) 0 (last c) (image c start) l

      outcome_of_keeps : T (keeps c l) → Outcome ≡ some (profit_by cost c l)
      outcome_of_keeps t =
          let (n, q, r) = (keeps_runs c l lim).0 t in
          let gain = runs_profit c lim rates costs l 0 start (omega arith) good_first r in
          subst
          (λ k. outcome (machine (unit_of c) (tariff_at c rates costs)) 0 k (image c start) l
          ≡ some (profit_by cost c l)) n
          (gain
          ∙ ap (λ q. some (profit_from c rates costs 0 q l)) output_first
          ∙ ap some (profit_from_profit_by c lim pays l (λ k h. omega (arith, p_le c lim l t k h, lim.capacity_le)) n))

      keeps_of_outcome : (v : ℤ) → Outcome ≡ some v → T (keeps c l)
      keeps_of_outcome v e =
          let (r, n) = runs_of_earned c lim rates costs l (last c) 0 start v (omega arith) good_first e in
          (keeps_runs c l lim).1 (n, late, r)

      pub outcome_earned : outcome (machine (unit_of c) (tariff_at c rates costs)) 0 (last c) (opening_of c) l
          ≡ earned (keeps c) (profit_by cost c) l
      outcome_earned =
          subst
          (λ s. outcome (machine (unit_of c) (tariff_at c rates costs)) 0 (last c) s l
          ≡ earned (keeps c) (profit_by cost c) l)
          image_first
          (go (keeps c l) refl Outcome refl)
        where
          go : (t : Bool) → keeps c l ≡ t → (x : Option ℤ)
              → outcome (machine (unit_of c) (tariff_at c rates costs)) 0 (last c) (image c start) l ≡ x
              → x ≡ cond t (some (profit_by cost c l)) none
          go true e x d = sym d ∙ outcome_of_keeps (true_to_t (keeps c l) e)
          go false e none d = refl
          go false e (some v) d = absurd (false_to_not (keeps c l) e (keeps_of_outcome v d))
