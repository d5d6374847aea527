-- `writer::file_length` meets its contract. The sum is that of the sections' lengths, and fits. Assumes nothing.
use Rattle.std.proofs.Common.{arith}
use Rattle.cases.proofs.TripLaws.{length_bytes_of}
use Rattle.writer.proofs.SectionsLaws.{file_short}
use Rattle.writer.proofs.file_length.Goals as goal

pub overflow_mul-result : goal.overflow_mul-result
overflow_mul-result c = omega (arith, file_short c.args.admitted.now.case c.args.admitted.now.within)

pub overflow_add-result : goal.overflow_add-result
overflow_add-result c = omega (arith, file_short c.args.admitted.now.case c.args.admitted.now.within)

pub overflow_mul-result-2 : goal.overflow_mul-result-2
overflow_mul-result-2 c = omega (arith, file_short c.args.admitted.now.case c.args.admitted.now.within)

pub overflow_add-result-2 : goal.overflow_add-result-2
overflow_add-result-2 c = omega (arith, file_short c.args.admitted.now.case c.args.admitted.now.within)

pub overflow_mul-result-3 : goal.overflow_mul-result-3
overflow_mul-result-3 c = omega (arith, file_short c.args.admitted.now.case c.args.admitted.now.within)

pub overflow_add-result-3 : goal.overflow_add-result-3
overflow_add-result-3 c = omega (arith, file_short c.args.admitted.now.case c.args.admitted.now.within)

pub overflow_add-result-4 : goal.overflow_add-result-4
overflow_add-result-4 c = omega (arith, file_short c.args.admitted.now.case c.args.admitted.now.within)

pub returns : goal.returns
returns c = omega (arith, length_bytes_of c.args.admitted.now.case)
