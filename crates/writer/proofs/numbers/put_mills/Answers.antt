-- `writer::numbers::put_mills` meets its contract. Assumes nothing.
use Rattle.std.proofs.Common.{◌≡◌, ◌∙◌, ap, ℤ, rules}
use Rattle.std.specs.Int.{w32, to_le_bytes, cast_unsigned}
use mir.Val.{SFits}
use mir.Facts.{to_z-of_z}
use Rattle.cases.specs.Layout.{bytes, unsigned}
use Rattle.cases.proofs.LayoutLaws.{length_bytes}
use Rattle.writer.proofs.BytesLaws.{bytes_four, unsigned_is, written}
use Rattle.writer.proofs.numbers.put_mills.Goals as goal

pub returns : goal.returns
returns c =
    let fits : SFits w32 c.args.mills.0 = search rules in
    let read : c.to_le_bytes.result ≡ to_le_bytes w32 (cast_unsigned w32 c.args.mills.0) =
    c.to_le_bytes.ensures ∙ ap (λ (z : ℤ). to_le_bytes w32 (cast_unsigned w32 z)) (to_z-of_z fits) in
    written c.args.at 4 c.args.out.now c.copy_from_slice.new.self (bytes 4 (unsigned c.args.mills.0))
    (c.copy_from_slice.ensures.after ∙ read ∙ bytes_four _ ∙ ap (bytes 4) (unsigned_is c.args.mills.0))
    (length_bytes 4 _) c.requires
