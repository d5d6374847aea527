-- `reader::pairs::form_number` meets its contract. The fifth section is the last one, and lies within the file. Assumes
-- nothing.
use Rattle.std.proofs.Common.{ap, sym, ◌∙◌}
use Rattle.cases.specs.Layout.{number_at}
use Rattle.cases.proofs.FormsLaws.{number_section}
use Rattle.reader.proofs.PairsLaws.{number_room}
use Rattle.reader.proofs.pairs.form_number.Goals as goal

pub section-requires : goal.section-requires
section-requires c = number_room c.args.file.now c.requires.file_value c.requires.file_len

pub returns : goal.returns
returns c =
    c.front.ensures ∙ ap (λ s. number_at s 0 2) c.section.ensures ∙ sym (number_section c.args.file.now)
