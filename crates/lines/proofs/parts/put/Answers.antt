-- `lines::parts::put` meets its contract: the part stands where it was copied to. Assumes nothing.
use Rattle.std.proofs.Common.{arith, refl, sym, ap, ◌+◌, ◌∙◌, ◌++◌, length, take, drop}
use Rattle.std.proofs.lemmas.List.Edits.{sets-eq}
use Rattle.std.proofs.lemmas.Slice.{put_mid-paste}
use lib.Seq.{take_all}
use Rattle.lines.proofs.parts.put.Goals as goal

pub returns : goal.returns
returns c =
    let out = c.args.out.now in
    let at = c.args.at in
    let part = c.args.part.now in
    let n = length part in
    record {
      bytes = put_mid-paste at _ out _ part n c.copy_from_slice.ensures.after (omega arith) refl
          ∙ ap (λ t. take at out ++ t ++ drop (at + n) out) (take_all n part (omega arith))
          ∙ sym (sets-eq part out at c.requires);
      place = refl;
    }
