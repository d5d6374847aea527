-- The starts of a list with those of the hours below 1, by the place at which each is counted. Assumes nothing.
use mathlib.Core.Path.{◌≡◌, sym, ap, ◌∙◌}
use mathlib.Core.List.{List}
use Prim.Native.Nat.{ℕ, suc, ◌+◌, ◌-◌, ◌≤◌, ◌<◌}
use native.Mathlib.Decide.{dec_lt, ℕ_discrete}
use native.Mathlib.Omega.{arith}
use borrow.Author.Tests.{eq-eqb, ne_eqb}
use lib.Dec.{eqb}
use Rattle.cases.specs.declared.Case.{Case}
use Rattle.cases.specs.Limits.{most_stages}
use Rattle.cases.specs.Symbols.{bit, UD, last, up_stage}
use Rattle.day.specs.Marks.{y, y_back, starting}
use Rattle.cases.proofs.LimitsLaws.{Limits}
use Rattle.cases.proofs.StagesLaws.{stages_le}
use Rattle.cases.proofs.SymbolsLaws.{sum_same}
use Rattle.day.proofs.MarksLaws.{y_back_in, y_back_out, y_past}
use Rattle.day.proofs.ConstraintsLaws.{starting_is}
use Rattle.hours.specs.Counted.{counted, start_of}
use Rattle.hours.proofs.CountLaws.{counted_back}

module _ (c : Case) (l : List ℕ) where
  -- the start in which the day opens stands at hour 1 − stage; no other hour below 1 is marked
  pub start_below : (n : ℕ) → n ≤ most_stages → start_of c l n ≡ bit (eqb (n + up_stage c) (most_stages + 1))
  start_below n h =
      y_back_out c l n (suc most_stages) (omega arith)
      ∙ ap bit (go (ℕ_discrete (n + up_stage c) (most_stages + 1)))
    where
      go : Dec (n + up_stage c ≡ most_stages + 1)
          → eqb (suc most_stages - n) (up_stage c) ≡ eqb (n + up_stage c) (most_stages + 1)
      go (yes e) = eq-eqb _ _ (omega arith) ∙ sym (eq-eqb _ _ e)
      go (no e) = ne_eqb _ _ (λ d. e (omega arith)) ∙ sym (ne_eqb _ _ e)

  -- from hour 1 on they are those of the list
  pub start_later : (n : ℕ) → most_stages < n → start_of c l n ≡ y c l (n - most_stages)
  start_later n h = y_back_in c l n (suc most_stages) h ∙ ap (y c l) (omega arith)

  pub start_past : (n : ℕ) → last c + most_stages < n → start_of c l n ≡ 0
  start_past n h = start_later n (omega arith) ∙ y_past c l (n - most_stages) (omega arith)

  -- hour 0 of the places is too early for a stage
  pub start_zero : Limits c → start_of c l 0 ≡ 0
  start_zero lim =
      start_below 0 (omega arith)
      ∙ ap bit (ne_eqb (0 + up_stage c) (most_stages + 1) (λ e. omega (arith, (stages_le c lim).0, lim.rises_le)))

  -- y(k−i+1), by its place
  pub start_back : (k i : ℕ) → i ≤ suc most_stages → start_of c l (k + most_stages + 1 - i) ≡ y_back c l k i
  start_back k i h = go (dec_lt k i)
    where
      n : ℕ
      n = k + most_stages + 1 - i

      go : Dec (k < i) → start_of c l n ≡ y_back c l k i
      go (yes b) =
          y_back_out c l n (suc most_stages) (omega arith)
          ∙ ap (λ j. bit (eqb j (up_stage c))) (let e : suc most_stages - n ≡ i - k = omega arith in e)
          ∙ sym (y_back_out c l k i b)
      go (no b) = start_later n (omega arith) ∙ ap (y c l) (omega arith) ∙ sym (y_back_in c l k i (omega arith))

  -- the start-ups that hour k lies in, as a difference of two counts
  pub starting_counted : Limits c → (k : ℕ)
      → counted (start_of c l) (k + most_stages + 1) - counted (start_of c l) (k + most_stages + 1 - UD c)
      ≡ starting c l k
  starting_counted lim k =
      let back = counted_back (start_of c l) (start_zero lim) (k + most_stages + 1) (UD c) in
      let same = sum_same (λ i. start_of c l (k + most_stages + 1 - i)) (λ i. y_back c l k i) (UD c)
      (λ i a b. start_back k i (omega (arith, lim.rises_le))) in
      omega (arith, starting_is c l k)
