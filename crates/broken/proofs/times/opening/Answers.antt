-- `broken::times::opening` meets its contract: before hour 1 there is neither a start nor a stop. Assumes nothing.
use Rattle.std.proofs.Common.{arith, sym}
use Rattle.day.specs.Marks.{y, z}
use Rattle.day.proofs.BreachLaws.{since_first}
use Rattle.broken.proofs.times.opening.Goals as goal

pub returns : goal.returns
returns c =
    let a = c.args.case.now in
    λ l. record {
      start = record { is = sym (since_first a.elapsed.0 (y a l)); most = omega arith };
      stop = record { is = sym (since_first a.elapsed.0 (z a l)); most = omega arith };
    }
