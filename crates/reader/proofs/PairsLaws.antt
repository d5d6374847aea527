-- Room for the pairs of a file whose sections follow one another, and for the number of its form. Assumes nothing.
use mathlib.Core.Path.{◌≡◌, ap}
use mathlib.Core.Bool.{false}
use mathlib.Core.List.{List}
use Prim.Native.Nat.{ℕ, ◌≤◌}
use native.Mathlib.Omega.{arith}
use lib.ListN.{length}
use Rattle.cases.specs.Symbols.{before}
use Rattle.cases.specs.Layout.{end_at, form_of}
use Rattle.cases.specs.Refusals.{refusal1}
use Rattle.cases.proofs.FormsLaws.{known, four_sections, five_sections}
use Rattle.cases.proofs.AcceptedLaws.{linked}

-- a form has four sections or five
pub sections_between : (file : List ℕ) → (4 ≤ length (form_of file)) × (length (form_of file) ≤ 5)
sections_between file = (four_sections (known file), five_sections (known file))

module _ (file : List ℕ) (sound : refusal1 file ≡ false) where
  pub pair_room : 4 ≤ length file
  pair_room = omega (arith, (linked file sound).long, four_sections (known file))

  pub number_room : length (form_of file) ≡ 5 → (20 ≤ length file) × (end_at file 4 ≤ length file)
  number_room five =
      let l = linked file sound in
      (omega (arith, l.long), omega (arith, l.end, ap (λ n. end_at file (before n)) five))
