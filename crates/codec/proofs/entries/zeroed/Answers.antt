-- `codec::entries::zeroed` meets its contract: the counts are those of a case within the limits. Assumes nothing.
use Rattle.std.proofs.Common.{arith}
use Rattle.cases.proofs.LimitsLaws.{limits_of_refusal_of}
use Rattle.codec.proofs.entries.zeroed.Goals as goal

pub front-kept-requires : goal.front-kept-requires
front-kept-requires c = let l = limits_of_refusal_of _ c.args.admitted.now.within in omega (arith, l.rises_le)

pub front-kept-requires-2 : goal.front-kept-requires-2
front-kept-requires-2 c = let l = limits_of_refusal_of _ c.args.admitted.now.within in omega (arith, l.falls_le)

pub front-kept-requires-3 : goal.front-kept-requires-3
front-kept-requires-3 c = let l = limits_of_refusal_of _ c.args.admitted.now.within in omega (arith, l.hours_le)

pub front-kept-requires-4 : goal.front-kept-requires-4
front-kept-requires-4 c = let l = limits_of_refusal_of _ c.args.admitted.now.within in omega (arith, l.hours_le)
