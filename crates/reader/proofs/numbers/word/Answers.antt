-- `reader::numbers::word` meets its contract. A number of two bytes is two numbers of one byte. Assumes nothing.
use Rattle.std.proofs.Common.{◌+◌, arith}
use Rattle.cases.proofs.NumbersLaws.{number_at_one, number_at_split}
use Rattle.reader.proofs.numbers.word.Goals as goal

pub returns : goal.returns
returns c =
    let l = c.args.part.now in
    let at = c.args.at in
    omega (arith, c.from_le_bytes.ensures, number_at_split l at 1 1, number_at_one l at, number_at_one l (at + 1))
