-- Lent numbers whose front was filled with a curve's table. Assumes nothing.
use mathlib.Core.Path.{◌≡◌, ap, ◌∙◌}
use mathlib.Core.List.{List, ◌++◌}
use lib.IntN.{ℤ}
use lib.ListN.{take, drop}
use lib.Seq.{take_at}
use Rattle.curve.specs.declared.Kind.{Kind}
use Rattle.curve.specs.Cost.{costs_length, record_of, curved_of, Usable, table_of, tabled}
use Rattle.curve.proofs.TableLaws.{table_length, record_table}

module _ {k : Kind} (u : Usable k) (lent : List ℤ) {left : List ℤ}
    (e : left ≡ table_of (curved_of (record_of k)) ++ drop costs_length lent) where
  -- they are the kind's table and what was there
  pub filled : left ≡ tabled k lent
  filled = e ∙ ap (λ (xs : List ℤ). xs ++ drop costs_length lent) (record_table u)

  pub front : take costs_length left ≡ table_of k
  front = ap (take costs_length) filled ∙ take_at (table_of k) (drop costs_length lent) costs_length (table_length k)
