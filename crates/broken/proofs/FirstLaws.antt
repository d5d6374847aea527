-- The first rule of a list that fails, test by test. Assumes nothing.
use mathlib.Core.Path.{◌≡◌, sym, ◌∙◌}
use mathlib.Core.Bool.{Bool, true, false, cond}
use mathlib.Core.List.{◌∷◌}
use Prim.Native.Nat.{ℕ}
use Rattle.day.specs.Rules.{broken_of}
use Rattle.day.proofs.BreachLaws.{broken_of_fails, broken_of_holds}
use Rattle.broken.specs.Groups.{Rules}

-- by the outcome of a test, and the rules after it
first_of : (k a : ℕ) (test : ℕ → Bool) (rs : Rules) (later : ℕ) (t : Bool) → t ≡ test k → later ≡ broken_of k rs
    → cond t later a ≡ broken_of k ((a, test) ∷ rs)
first_of k a test rs later true f e = e ∙ sym (broken_of_holds k a test rs (sym f))
first_of k a test rs later false f e = sym (broken_of_fails k a test rs (sym f))

-- r is the number of the first rule that fails, test by test
pub data Tried (k : ℕ) : Rules → ℕ → Type 0 where
  rest : {r : ℕ} {rs : Rules} → r ≡ broken_of k rs → Tried k rs r
  next : {a r later : ℕ} {test : ℕ → Bool} {rs : Rules} {t : Bool} → r ≡ cond t later a → t ≡ test k
      → Tried k rs later → Tried k ((a, test) ∷ rs) r

pub tried : {k r : ℕ} {rs : Rules} → Tried k rs r → r ≡ broken_of k rs
tried (rest e) = e
tried {k} (next {a} {r} {later} {test} {rs} {t} e f more) = e ∙ first_of k a test rs later t f (tried more)
