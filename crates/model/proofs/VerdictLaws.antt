-- The verdict on a list, for a case within the limits, and what a list that passes has. Assumes nothing.
use mathlib.Core.Path.{◌≡◌, refl, sym, ap}
use mathlib.Core.List.{List}
use mathlib.Core.Option.{Option, none, some}
use Prim.Native.Nat.{ℕ}
use native.Mathlib.Decide.{ℕ_discrete}
use native.Mathlib.Omega.{arith}
use lib.Dec.{T}
use lib.ListN.{length}
use Rattle.cases.specs.declared.Case.{Case}
use Rattle.cases.specs.declared.Breach.{Breach}
use Rattle.quantities.specs.declared.HalfMills.{HalfMills}
use Rattle.cases.specs.declared.Verdict.{Verdict}
use Rattle.cases.specs.declared.Verdict.TheVariants.{Passes, Breaks}
use Rattle.cases.specs.Symbols.{last}
use Rattle.day.specs.Rules.{breach, keeps}
use Rattle.day.specs.Profit.{profit_of}
use Rattle.cases.specs.Refusals.{refusal_of}
use Rattle.model.specs.Answers.{judged, check_of}
use Rattle.day.proofs.KeepsLaws.{kept_length, kept_none, kept_of_none}
use Rattle.model.proofs.CheckLaws.{check_of_outside, check_of_length, check_of_judged}
use Rattle.cases.specs.Reads.{Accepted, Outcome, Refused}
use Rattle.std.specs.Prelude.{Result, Ok, Err}
use Rattle.quantities.specs.declared.Refusal.{Refusal}

-- the verdict on a list, for a case within the limits
pub data Judged (c : Case) (l : List ℕ) : Result Verdict Refusal → Type 0 where
  passing : T (keeps c l) → Judged c l (Ok (Passes (record { 0 = profit_of c l })))
  breaking : {b : Breach} → (T (keeps c l) → ⊥) → length l ≡ last c → Judged c l (Ok (Breaks b))
  unfit : (length l ≡ last c → ⊥) → Judged c l (Refused 9)

module _ (c : Case) (e : refusal_of c ≡ 0) where
  pub verdict : (l : List ℕ) → Judged c l (check_of Accepted c l)
  unfolding judged
  verdict l = go (ℕ_discrete (length l) (last c))
    where
      found : length l ≡ last c → (r : Option Breach) → breach c l ≡ r → Judged c l (judged (profit_of c l) r)
      found h none d = passing (kept_of_none c l h d)
      found h (some b) d = breaking (λ t. let z : ◌≡◌ {A = ℕ} 0 1 = let k = kept_none c l t in cc in omega arith) h

      go : Dec (length l ≡ last c) → Judged c l (check_of Accepted c l)
      go (yes h) = rw (check_of_judged c l e h) (found h (breach c l) refl)
      go (no h) = rw (check_of_length c l e h) (unfit h)

-- a list that passes has T outputs, and passes with its profit
pub check_of_passes : (o : Outcome) (c : Case) (l : List ℕ) (x : HalfMills) → check_of o c l ≡ (Ok (Passes x))
    → (length l ≡ last c) × (x.0 ≡ profit_of c l)
unfolding check_of
check_of_passes (Err n) c l x q = absurd (let z : ◌≡◌ {A = ℕ} 0 1 = cc in omega arith)
check_of_passes (Ok tt) c l x q = go (ℕ_discrete (refusal_of c) 0)
  where
    by : {v : Result Verdict Refusal} → Judged c l v → v ≡ (Ok (Passes x)) → (length l ≡ last c) × (x.0 ≡ profit_of c l)
    by (passing k) d = (kept_length c l k, let e : record { 0 = profit_of c l } ≡ x = cc in ap (λ y. y.0) (sym e))
    by (breaking n h) d = absurd (let z : ◌≡◌ {A = ℕ} 0 1 = cc in omega arith)
    by (unfit h) d = absurd (let z : ◌≡◌ {A = ℕ} 0 1 = cc in omega arith)

    go : Dec (refusal_of c ≡ 0) → (length l ≡ last c) × (x.0 ≡ profit_of c l)
    go (yes e) = by (verdict c e l) q
    go (no h) = absurd (let d = check_of_outside c l h in let z : ◌≡◌ {A = ℕ} 0 1 = cc in omega arith)
