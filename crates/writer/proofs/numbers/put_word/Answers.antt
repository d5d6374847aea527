-- `writer::numbers::put_word` meets its contract. Assumes nothing.
use Rattle.std.proofs.Common.{◌∙◌}
use Rattle.cases.specs.Layout.{bytes}
use Rattle.cases.proofs.LayoutLaws.{length_bytes}
use Rattle.writer.proofs.BytesLaws.{bytes_two, written}
use Rattle.writer.proofs.numbers.put_word.Goals as goal

pub returns : goal.returns
returns c =
    written c.args.at 2 c.args.out.now c.copy_from_slice.new.self (bytes 2 c.args.x)
    (c.copy_from_slice.ensures.after ∙ c.to_le_bytes.ensures ∙ bytes_two c.args.x) (length_bytes 2 c.args.x) c.requires
