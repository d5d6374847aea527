-- The first i hours are written, and every other byte is as it was.
use Rattle.std.proofs.Common.{◌≡◌, ℕ, List, [], ◌∷◌, get_or}
use Rattle.std.proofs.lemmas.List.Edits.{sets}
use Rattle.cases.specs.Layout.{joined, no_mills, unsigned, field_bytes}
use Rattle.writer.proofs.put_hours.Given as goal

abbrev pub invariant-loop-i : goal.invariant-loop-i
invariant-loop-i l =
    let case = l.admitted.case in
    let hour : ℕ → List ℕ =
    λ k. field_bytes (4 ∷ 1 ∷ []) (unsigned (get_or case.prices k no_mills).0 ∷ get_or case.orders k 0 ∷ []) in
    l.out ≡ sets l.initial.out l.at (joined hour l.i)
