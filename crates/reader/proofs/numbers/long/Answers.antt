-- `reader::numbers::long` meets its contract. A number of four bytes is four numbers of one byte. Assumes nothing.
use Rattle.std.proofs.Common.{◌≡◌, ◌+◌, ap, get_or, arith}
use Rattle.cases.proofs.NumbersLaws.{number_at_one, number_at_split}
use Rattle.reader.proofs.numbers.long.Goals as goal

pub returns : goal.returns
returns c =
    let l = c.args.part.now in
    let at = c.args.at in
    let last : at + 3 ≡ at + 2 + 1 = omega arith in
    omega (
      arith,
      c.from_le_bytes.ensures,
      number_at_split l at 2 2,
      number_at_split l at 1 1,
      number_at_split l (at + 2) 1 1,
      number_at_one l at,
      number_at_one l (at + 1),
      number_at_one l (at + 2),
      number_at_one l (at + 2 + 1),
      ap (λ k. get_or l k 0) last,
    )
