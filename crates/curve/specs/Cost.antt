-- The boiler maker's cost curve (request F-7): what an hour costs, in half-mills, at n half-megawatt-hours. Each
-- operation is IEEE 754's on binary64, rounded once (the kit's lib.Ieee). Definitions only. Assumes nothing.
use Rattle.std.specs.Prelude.{Bool, ◌&&◌, cond, List, [], ◌∷◌, ◌++◌, ℕ, zero, suc, ◌+◌, ◌*◌, ℤ, pos, T, leb, length}
use Rattle.std.specs.Prelude.{drop, Float, Option, Some, None, Result, Ok, Err, ⊤}
use Rattle.std.specs.Float.{binary64}
use Rattle.std.specs.Float.Ieee.{add, mul, le, eq, fits, of_int, to_bits}
use Rattle.curve.specs.declared.Kind.{Kind}
use Rattle.curve.specs.declared.Kind.TheVariants.{Flat, Straight, Curved}
use Rattle.curve.specs.declared.Curve.{Curve}
use Rattle.curve.specs.Pattern.{whole_of}
use Rattle.quantities.specs.declared.Refusal.{Refusal}

-- half-megawatt-hours: the energy of an hour, at the most
abbrev pub most_energy : ℕ
most_energy = 800

-- the entries of a table, for the energies from 0 on
abbrev pub costs_length : ℕ
costs_length = most_energy + 1

-- a coefficient, at the most
abbrev pub most_coefficient : ℕ
most_coefficient = 1000000

-- half-mills: what an hour costs, at the most
abbrev pub most_cost : ℕ
most_cost = (most_coefficient * most_energy + most_coefficient) * most_energy + most_coefficient

-- a whole number as a float, exact up to 2 ^ 53
abbrev pub whole : ℕ → Float
whole n = of_int binary64 (pos n)

-- a coefficient is a number from 0 to the most; minus zero counts as zero
unfoldable pub allowed : Float → Bool
allowed x = le (whole 0) x && le x (whole most_coefficient)

-- the kind as a record, unused coefficients 0
abbrev pub record_of : Kind → Curve
record_of (Flat a) = record { a = a; b = whole 0; c = whole 0 }
record_of (Straight a b) = record { a = a; b = b; c = whole 0 }
record_of (Curved a b c) = record { a = a; b = b; c = c }

-- the record as a curved kind
abbrev pub curved_of : Curve → Kind
curved_of r = Curved r.a r.b r.c

-- refusal 16 does not apply to a record
unfoldable pub accepted : Curve → Bool
unfolding allowed
accepted r = allowed r.a && (allowed r.b && allowed r.c)

-- each coefficient is a value that a 64-bit float holds
unfoldable pub held : Kind → Bool
held (Flat a) = fits binary64 a
held (Straight a b) = fits binary64 a && fits binary64 b
held (Curved a b c) = fits binary64 a && (fits binary64 b && fits binary64 c)

-- a kind of 64-bit floats that refusal 16 lets pass
pub record Usable (k : Kind) : Type 0 where
  pub floats : T (held k)
  pub passes : T (accepted (record_of k))

-- the cost at n, by kind, as a float of half-mills
unfoldable pub cost_of : Kind → ℕ → Float
cost_of (Flat a) n = a
cost_of (Straight a b) n = add binary64 (mul binary64 b (whole n)) a
cost_of (Curved a b c) n = add binary64 (mul binary64 (add binary64 (mul binary64 c (whole n)) b) (whole n)) a

-- its bit pattern
abbrev pub pattern_of : Kind → ℕ → ℕ
pattern_of k n = to_bits binary64 (cost_of k n)

-- the cost taken to the nearest whole number of half-mills, a tie to the even one
unfoldable pub entry_of : Kind → ℕ → ℕ
unfolding cost_of whole_of
entry_of k n = whole_of (pattern_of k n)

-- the first n values of f
abbrev pub firsts : ℕ → (ℕ → ℕ) → List ℤ
firsts zero f = []
firsts (suc n) f = firsts n f ++ (pos (f n) ∷ [])

-- the table, in half-mills: the entries for n from 0 to the most
unfoldable pub table_of : Kind → List ℤ
unfolding entry_of
table_of k = firsts costs_length (entry_of k)

-- the lent numbers with the table at their front, those after it as lent
abbrev pub tabled : Kind → List ℤ → List ℤ
tabled k lent = table_of k ++ drop costs_length lent

-- what filling lent numbers answers: done, or refused by 16, then by 10 where there are too few of them
abbrev pub done : Result ⊤ Refusal
done = Ok tt

abbrev pub refused : ℕ → Result ⊤ Refusal
refused n = Err (record { 0 = n })

abbrev pub answer_of : Kind → List ℤ → Result ⊤ Refusal
answer_of k lent = cond (accepted (record_of k)) (cond (leb costs_length (length lent)) done (refused 10)) (refused 16)

-- the lent numbers after it; a refusal leaves them
abbrev pub lent_after : Kind → List ℤ → List ℤ
lent_after k lent = cond (accepted (record_of k)) (cond (leb costs_length (length lent)) (tabled k lent) lent) lent

-- the kind that a number tells, with the three coefficients: 0 flat, 1 straight, 2 curved. An unused coefficient that
-- is not 0, or another number, is refused.
abbrev pub supplied_of : ℕ → Curve → Option Kind
supplied_of zero r = cond (eq r.b (whole 0) && eq r.c (whole 0)) (Some (Flat r.a)) None
supplied_of (suc zero) r = cond (eq r.c (whole 0)) (Some (Straight r.a r.b)) None
supplied_of (suc (suc zero)) r = Some (Curved r.a r.b r.c)
supplied_of (suc (suc (suc n))) r = None
