-- The first i outputs are written, and every other byte is as it was.
use Rattle.std.proofs.Common.{◌≡◌, [], ◌∷◌, get_or}
use Rattle.std.proofs.lemmas.List.Edits.{sets}
use Rattle.cases.specs.Layout.{joined, no_output, field_bytes}
use Rattle.writer.proofs.put_stages.Given as goal

abbrev pub invariant-loop-i : goal.invariant-loop-i
invariant-loop-i l =
    l.out ≡ sets l.initial.out l.at (joined (λ k. field_bytes (2 ∷ []) ((get_or l.outputs k no_output).0 ∷ [])) l.i)
