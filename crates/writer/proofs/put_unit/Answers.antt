-- `writer::put_unit` meets its contract. Each two fields stand where the two before end. Assumes nothing.
use Rattle.cases.proofs.SetsLaws.{unit_written}
use Rattle.writer.proofs.put_unit.Goals as goal

pub returns : goal.returns
returns c =
    unit_written c.args.case.now c.args.out.now c.put_pair.ensures c.put_pair-2.ensures c.put_pair-3.ensures
    c.put_costs.ensures c.put_costs-2.ensures c.put_pair-4.ensures c.put_bytes.ensures
