-- `reader::numbers::front` meets its contract. A number of two bytes is two numbers of one byte. Assumes nothing.
use Rattle.std.proofs.Common.{arith}
use Rattle.cases.proofs.NumbersLaws.{number_at_one, number_at_split}
use Rattle.reader.proofs.numbers.front.Goals as goal

pub returns : goal.returns
returns c =
    let l = c.args.part.now in
    omega (arith, c.from_le_bytes.ensures, number_at_split l 0 1 1, number_at_one l 0, number_at_one l 1)
