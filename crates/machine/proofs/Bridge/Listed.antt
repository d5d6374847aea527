-- A list runs through the automaton exactly if the machine earns something with it, and then that is its profit.
-- Assumes nothing.
use mathlib.Core.Path.{◌≡◌, refl, sym, ap, subst}
use mathlib.Core.Bool.{true}
use mathlib.Core.List.{List, [], ◌∷◌}
use mathlib.Core.Option.{Option, none, some}
use Prim.Native.Nat.{ℕ, zero, suc, ◌+◌}
use native.Mathlib.Omega.{arith}
use lib.IntN.{ℤ}
use lib.ListN.{length}
use Rattle.cases.specs.declared.Case.{Case}
use Rattle.cases.specs.Symbols.{last}
use Rattle.cases.proofs.LimitsLaws.{Limits}
use Rattle.day.specs.Words.{Ordered}
use Rattle.machine.specs.declared.Rates.{Rates}
use Rattle.machine.specs.declared.State.{State}
use Rattle.machine.specs.Search.{maybe, only, add, outcome}
use Rattle.machine.specs.Moves.{obeys, earn, output, move, machine}
use Rattle.machine.specs.Cases.{unit_of, tariff_at}
use Rattle.day.specs.Automaton.{St, Runs, Final}
use Rattle.machine.specs.Image.{image, Good, profit_from}
use Rattle.machine.proofs.Search.Searched.{some_none}
use Rattle.machine.proofs.Table.Sizes.{only_some}
use Rattle.machine.proofs.Bridge.CasesLaws.{obeys_of_ordered, ordered_of_obeys}
use Rattle.machine.proofs.Bridge.Stepped.{step_move, good_step, step_output}
use Rattle.machine.proofs.Bridge.Moved.{Lands, lands, move_step}

-- what is added to is there
unadd : (g : ℤ) (x : Option ℤ) (v : ℤ) → add g x ≡ some v → (w : ℤ) × (x ≡ some w)
unadd g none v e = absurd (some_none (sym e))
unadd g (some w) v e = (w, refl)

module _ (c : Case) (lim : Limits c) (rates : Rates) (costs : List ℤ) where
  abbrev Earned : ℕ → ℕ → St → List ℕ → Option ℤ
  Earned k n s l = outcome (machine (unit_of c) (tariff_at c rates costs)) k n (image c s) l

  -- what output q earns in hour k, from 0
  abbrev gain_at : ℕ → St → ℕ → ℤ
  gain_at k s q = earn (tariff_at c rates costs k) (output (unit_of c) (image c s)) q

  -- the state after it, if the machine allows it
  abbrev next_at : ℕ → St → ℕ → Option State
  next_at k s q = only (obeys (tariff_at c rates costs k) q) (move (unit_of c) (image c s) q)

  -- a list that runs earns its profit
  pub runs_profit : (l : List ℕ) (k : ℕ) (s : St) → k + length l ≡ last c → Good c s → Runs c Final (Ordered c) k s l
      → Earned k (length l) s l ≡ some (profit_from c rates costs k (output (unit_of c) (image c s)) l)
  runs_profit [] k s n g r = refl
  runs_profit (q ∷ l) k s n g (t, a, o, r) =
      let after = runs_profit l (suc k) t (omega arith) (good_step c lim q s t g a) r in
      let out = step_output c lim q s t g a in
      let same = subst (λ p. Earned (suc k) (length l) t l ≡ some (profit_from c rates costs (suc k) p l)) out after in
      rw (obeys_of_ordered c lim rates costs k q (omega arith) o, step_move c lim q s t g a)
      (ap (add (gain_at k s q)) same)

  -- and what earns anything runs
  abbrev Ran : ℕ → ℕ → St → List ℕ → Type 0
  Ran n k s l = Runs c Final (Ordered c) k s l × (length l ≡ n)

  pub runs_of_earned : (l : List ℕ) (n k : ℕ) (s : St) (v : ℤ) → k + n ≡ last c → Good c s → Earned k n s l ≡ some v
      → Ran n k s l
  runs_of_earned [] zero k s v m g e = (tt, refl)
  runs_of_earned [] (suc n) k s v m g e = absurd (some_none (sym e))
  runs_of_earned (q ∷ l) zero k s v m g e = absurd (some_none (sym e))
  runs_of_earned (q ∷ l) (suc n) k s v m g e =
      go (next_at k s q) refl e (λ t w. runs_of_earned l n (suc k) t w (omega arith))
    where
      go : (x : Option State) → next_at k s q ≡ x
          → maybe none (λ x. add (gain_at k s q) (outcome (machine (unit_of c) (tariff_at c rates costs)) (suc k) n x l))
          x ≡ some v
          → ((t : St) (w : ℤ) → Good c t → Earned (suc k) n t l ≡ some w → Ran n (suc k) t l) → Ran (suc n) k s (q ∷ l)
      go none d f ih = absurd (some_none (sym f))
      go (some x) d f ih = back (move_step c lim q s x g passed.1)
        where
          passed : (obeys (tariff_at c rates costs k) q ≡ true) × (move (unit_of c) (image c s) q ≡ some x)
          passed = only_some (obeys (tariff_at c rates costs k) q) (move (unit_of c) (image c s) q) x d

          back : Lands c q s x → Ran (suc n) k s (q ∷ l)
          back (lands t a i) =
              let (w, left) = unadd (gain_at k s q) (outcome (machine (unit_of c) (tariff_at c rates costs)) (suc k) n x
              l) v f in
              let same = subst (λ y. outcome (machine (unit_of c) (tariff_at c rates costs)) (suc k) n y l ≡ some w)
              (sym i) left in
              let (r, e) = ih t w (good_step c lim q s t g a) same in
              ((t, a, ordered_of_obeys c lim rates costs k q (omega arith) passed.0, r), ap suc e)
