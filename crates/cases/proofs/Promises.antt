-- Every promise of specs/Promises, each by its law. Assumes nothing.
use Rattle.cases.specs.Promises.{Promises}
use Rattle.cases.proofs.LimitedLaws.{limits}
use Rattle.cases.proofs.FileLimitsLaws.{file_limits}
use Rattle.cases.proofs.WorkLaws.{working}
use Rattle.cases.proofs.WiderLaws.{admitted_before, refused_before, read_before}
use Rattle.cases.proofs.CutLaws.{unread, read_past, admitted, unadmitted}
use Rattle.cases.proofs.HoldsLaws.{read_holds}
use Rattle.cases.proofs.TripLaws.{written, unwritten, refused_writing, written_reads, read_writes, read_again}
use Rattle.cases.proofs.TripLaws.{old_prices, old_reads}
use Rattle.cases.proofs.RereadLaws.{two_reads}

pub promises : Promises
promises =
    record {
      limits = limits;
      file_limits = file_limits;
      admitted_before = admitted_before;
      refused_before = refused_before;
      read_before = read_before;
      working = working;
      read_holds = read_holds;
      read_past = read_past;
      unread = unread;
      admitted = admitted;
      unadmitted = unadmitted;
      written = written;
      unwritten = unwritten;
      refused_writing = refused_writing;
      written_reads = written_reads;
      read_writes = read_writes;
      read_again = read_again;
      old_prices = old_prices;
      old_reads = old_reads;
      form2_reads = two_reads;
    }
