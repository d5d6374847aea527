-- What owning a kind tells: each coefficient is a value that a 64-bit float holds. For a function with a parameter
-- `kind: Kind` first, `kind_held s.args.kind s.good.0` at its start s. Assumes nothing.
use mathlib.Core.List.{[], ◌∷◌}
use mathlib.Core.Bool.{◌&&◌}
use lib.Dec.{T}
use lib.Ieee.{binary64, fits}
use denote.Laws.{Is}
use denote.Enum.Declared.{row}
use denote.Enum.Laws.{val, owed}
use Rattle.laws.proofs.Tests.{both_to_and, true_to_t}
use Rattle.curve.specs.declared.Kind.{Kind}
use Rattle.curve.specs.declared.Kind.TheVariants.{Flat, Straight, Curved}
use Rattle.curve.specs.Cost.{held}
use Rattle.curve.specs.contracts.Kind.{the_type}
use Rattle.curve.proofs.Kind.TheLaws.{the_laws}

pub kind_held : (k : Kind) → Is (row the_type) k (val the_type the_laws k ∷ []) → T (held k)
unfolding held
kind_held (Flat a) p =
    let o = owed the_type the_laws (Flat a) (val the_type the_laws (Flat a) ∷ []) p in
    true_to_t (fits binary64 a) o.0.1
kind_held (Straight a b) p =
    let o = owed the_type the_laws (Straight a b) (val the_type the_laws (Straight a b) ∷ []) p in
    both_to_and (fits binary64 a) (fits binary64 b) (true_to_t (fits binary64 a) o.0.1)
    (true_to_t (fits binary64 b) o.1.0.1)
kind_held (Curved a b c) p =
    let o = owed the_type the_laws (Curved a b c) (val the_type the_laws (Curved a b c) ∷ []) p in
    both_to_and (fits binary64 a) (fits binary64 b && fits binary64 c) (true_to_t (fits binary64 a) o.0.1)
    (both_to_and (fits binary64 b) (fits binary64 c) (true_to_t (fits binary64 b) o.1.0.1)
    (true_to_t (fits binary64 c) o.1.1.0.1))
