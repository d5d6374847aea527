-- `writer::put_pairs` meets its contract. The record is within the limits, so that every offset and length is a 16-bit
-- number; each pair stands where the one before ends. Assumes nothing.
use Rattle.std.proofs.Common.{arith, rules}
use Rattle.cases.proofs.SetsLaws.{pairs_written}
use Rattle.writer.proofs.SectionsLaws.{file_short}
use Rattle.writer.proofs.put_pairs.Goals as goal

pub overflow_mul-rises : goal.overflow_mul-rises
overflow_mul-rises c = omega (arith, file_short c.args.admitted.now.case c.args.admitted.now.within)

pub overflow_mul-falls : goal.overflow_mul-falls
overflow_mul-falls c = omega (arith, file_short c.args.admitted.now.case c.args.admitted.now.within)

pub overflow_mul-hours : goal.overflow_mul-hours
overflow_mul-hours c = omega (arith, file_short c.args.admitted.now.case c.args.admitted.now.within)

pub overflow_add-falls_at : goal.overflow_add-falls_at
overflow_add-falls_at c = omega (arith, file_short c.args.admitted.now.case c.args.admitted.now.within)

pub overflow_add-hours_at : goal.overflow_add-hours_at
overflow_add-hours_at c = omega (arith, file_short c.args.admitted.now.case c.args.admitted.now.within)

pub overflow_add-form_at : goal.overflow_add-form_at
overflow_add-form_at c = omega (arith, file_short c.args.admitted.now.case c.args.admitted.now.within)

pub put_place-requires-2-clause-offset_lt_words : goal.put_place-requires-2-clause-offset_lt_words
put_place-requires-2-clause-offset_lt_words c =
    let r = file_short c.args.admitted.now.case c.args.admitted.now.within in
    search rules

pub put_place-requires-3-clause-offset_lt_words : goal.put_place-requires-3-clause-offset_lt_words
put_place-requires-3-clause-offset_lt_words c =
    let r = file_short c.args.admitted.now.case c.args.admitted.now.within in
    search rules

pub put_place-requires-4-clause-offset_lt_words : goal.put_place-requires-4-clause-offset_lt_words
put_place-requires-4-clause-offset_lt_words c =
    let r = file_short c.args.admitted.now.case c.args.admitted.now.within in
    search rules

pub put_place-requires-5-clause-offset_lt_words : goal.put_place-requires-5-clause-offset_lt_words
put_place-requires-5-clause-offset_lt_words c =
    let r = file_short c.args.admitted.now.case c.args.admitted.now.within in
    search rules

pub returns : goal.returns
returns c =
    pairs_written c.args.admitted.now.case c.args.out.now c.put_place.ensures c.put_place-2.ensures
    c.put_place-3.ensures c.put_place-4.ensures c.put_place-5.ensures
