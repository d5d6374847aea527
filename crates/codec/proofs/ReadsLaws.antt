-- What reading, admitting and writing answer, and the lent bytes as a writing leaves them: the laws that their proofs
-- take. Assumes nothing.
use Rattle.std.proofs.Common.{◌≡◌, ◌≢◌, sym, ap, ℕ, ◌≤◌, ◌<◌, List, length}
use Rattle.std.specs.Prelude.{Ok}
use Rattle.std.proofs.lemmas.List.Edits.{sets}
use Rattle.cases.specs.Reads.{Refused}
use Rattle.cases.specs.declared.Case.{Case}
use Rattle.cases.specs.Layout.{bytes_of}
use Rattle.cases.specs.Refusals.{refusal_of}
use Rattle.cases.specs.Reads.{write_of}
use Rattle.cases.proofs.CodecLaws.{refused_by, read_of_one, read_of_two, read_of_twelve}
use Rattle.cases.proofs.CodecLaws.{read_of_refused, read_of_accepted}
use Rattle.cases.proofs.CodecLaws.{admit_of_accepted, admit_of_refused, write_of_refused, write_of_short, write_of_done}

module _ (c : Case) (lent : List ℕ) where
  pub refused_answer : refusal_of c ≢ 0 → (write_of c lent).answer ≡ Refused (refusal_of c)
  refused_answer h = ap (λ w. w.answer) (sym (write_of_refused c lent h))

  pub refused_lent : refusal_of c ≢ 0 → (write_of c lent).lent ≡ lent
  refused_lent h = ap (λ w. w.lent) (sym (write_of_refused c lent h))

  module _ (e : refusal_of c ≡ 0) where
    pub short_answer : length lent < length (bytes_of c) → (write_of c lent).answer ≡ Refused 10
    short_answer h = ap (λ w. w.answer) (sym (write_of_short c lent e h))

    pub short_lent : length lent < length (bytes_of c) → (write_of c lent).lent ≡ lent
    short_lent h = ap (λ w. w.lent) (sym (write_of_short c lent e h))

    pub done_answer : length (bytes_of c) ≤ length lent → (write_of c lent).answer ≡ Ok (length (bytes_of c))
    done_answer h = ap (λ w. w.answer) (sym (write_of_done c lent e h))

    pub done_lent : length (bytes_of c) ≤ length lent → (write_of c lent).lent ≡ sets lent 0 (bytes_of c)
    done_lent h = ap (λ w. w.lent) (sym (write_of_done c lent e h))

pub ruleset reading = (refused_by, read_of_one, read_of_two, read_of_twelve, read_of_refused, read_of_accepted)

pub ruleset admitting = (refused_by, admit_of_accepted, admit_of_refused)

pub ruleset writing = (refused_by, refused_answer, refused_lent, short_answer, short_lent, done_answer, done_lent)
