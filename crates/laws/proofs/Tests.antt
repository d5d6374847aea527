-- What a test made of tests says. Assumes nothing.
use mathlib.Core.Path.{◌≡◌, refl, sym}
use mathlib.Core.Bool.{Bool, true, false, ◌&&◌, ◌||◌, false≢true}
use mathlib.Core.Logic.{◌⊎◌, inl, inr}
use lib.Dec.{T}

-- conjunction
pub and_to_both : (a b : Bool) → T (a && b) → T a × T b
and_to_both true b t = (tt, t)
and_to_both false b t = absurd t

pub both_to_and : (a b : Bool) → T a → T b → T (a && b)
both_to_and true b s t = t
both_to_and false b s t = absurd s

-- a last test that passes, and one that does not
pub and_true : (a : Bool) → a && true ≡ a
and_true true = refl
and_true false = refl

pub and_false : (a : Bool) → a && false ≡ false
and_false true = refl
and_false false = refl

-- disjunction
pub or_to_either : (a b : Bool) → T (a || b) → T a ⊎ T b
or_to_either true b t = inl tt
or_to_either false b t = inr t

pub left_to_or : (a b : Bool) → T a → T (a || b)
left_to_or true b t = tt
left_to_or false b t = absurd t

pub right_to_or : (a b : Bool) → T b → T (a || b)
right_to_or true b t = tt
right_to_or false b t = t

-- the same of outcomes
pub both : (a b : Bool) → a && b ≡ true → (a ≡ true) × (b ≡ true)
both true b e = (refl, e)
both false b e = absurd (false≢true e)

pub neither : (a b : Bool) → a || b ≡ false → (a ≡ false) × (b ≡ false)
neither true b e = absurd (false≢true (sym e))
neither false b e = (refl, e)

pub either : (a b : Bool) → a || b ≡ true → (a ≡ true) ⊎ (b ≡ true)
either true b e = inl refl
either false b e = inr e

-- a test that passes is true, one that does not is false
pub t_to_true : (a : Bool) → T a → a ≡ true
t_to_true true t = refl
t_to_true false t = absurd t

pub true_to_t : (a : Bool) → a ≡ true → T a
true_to_t true e = tt
true_to_t false e = absurd (false≢true e)

pub not_to_false : (a : Bool) → (T a → ⊥) → a ≡ false
not_to_false true h = absurd (h tt)
not_to_false false h = refl

pub false_to_not : (a : Bool) → a ≡ false → T a → ⊥
false_to_not true e t = false≢true (sym e)
false_to_not false e t = t
