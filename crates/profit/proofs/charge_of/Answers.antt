-- `profit::charge_of` meets its contract: the three charges are added. Assumes nothing.
use Rattle.std.proofs.Common.{arith, ap, nat_abs}
use Rattle.laws.proofs.Magnitude.{abs_add}
use Rattle.cases.specs.declared.admitted.Admitted.{Admitted}
use Rattle.cases.proofs.LimitsLaws.{Limits, limits_of_refusal_of}
use Rattle.profit.proofs.EarnedLaws.{charged_le}
use Rattle.profit.proofs.charge_of.Goals as goal

-- the case keeps the limits
limits : (a : Admitted) → Limits a.case
limits a = limits_of_refusal_of a.case a.within

pub sum-requires : goal.sum-requires
sum-requires c =
    let h = limits c.args.case.now in
    let start = charged_le c.args.m.start h.startcost_in (omega arith) c.charged-start.ensures in
    let stop = charged_le c.args.m.stop h.stopcost_in (omega arith) c.charged-stop.ensures in
    omega arith

pub sum-requires-2 : goal.sum-requires-2
sum-requires-2 c =
    let h = limits c.args.case.now in
    let online = charged_le c.args.m.online h.fixed_in (omega arith) c.charged-online.ensures in
    let start = charged_le c.args.m.start h.startcost_in (omega arith) c.charged-start.ensures in
    let stop = charged_le c.args.m.stop h.stopcost_in (omega arith) c.charged-stop.ensures in
    omega (arith, ap nat_abs c.sum.ensures, abs_add c.charged-start.result.0 c.charged-stop.result.0)

pub returns : goal.returns
returns c =
    let h = limits c.args.case.now in
    let online = charged_le c.args.m.online h.fixed_in (omega arith) c.charged-online.ensures in
    let start = charged_le c.args.m.start h.startcost_in (omega arith) c.charged-start.ensures in
    let stop = charged_le c.args.m.stop h.stopcost_in (omega arith) c.charged-stop.ensures in
    record {
      is = (cc);
      most = omega (
        arith,
        ap nat_abs c.sum-2.ensures,
        ap nat_abs c.sum.ensures,
        abs_add c.charged-online.result.0 c.sum.result.0,
        abs_add c.charged-start.result.0 c.charged-stop.result.0,
      );
    }
