-- What is admitted without request F-6 is admitted, and its search works in as many numbers; what is refused within the
-- older limits of the hours and of the minimum times is refused by the same number. Assumes nothing.
use mathlib.Core.Path.{◌≡◌}
use mathlib.Core.List.{List}
use mathlib.Core.Logic.{◌↔◌}
use Prim.Native.Nat.{ℕ, ◌≤◌}
use native.Mathlib.Omega.{arith}
use lib.Dec.{ltb}
use Rattle.cases.specs.declared.Case.{Case}
use Rattle.cases.specs.Limits.{short_time, short_work}
use Rattle.cases.specs.Symbols.{up_time, down_time}
use Rattle.cases.specs.Refusals.{work_length, refusal_of}
use Rattle.cases.specs.Reads.{read_of, outcome_number}
use Rattle.cases.specs.Published.{CountsTo, RatesTo, LimitedTo, Limited, LimitedBefore, NoLonger, limit2, limit3}
use Rattle.cases.specs.Published.{limit4, limit5, limit6, limit7, limit8, limit13, FirstRefused, later}
use Rattle.cases.specs.Published.{record_order, file_order, FileLimited, FileLimitedBefore, file1, file2, file12}
use Rattle.cases.specs.Published.{held}
use Rattle.cases.proofs.RefusalsLaws.{first_same, none_first, record_numbers, file_numbers}
use Rattle.cases.proofs.LimitedLaws.{limits}
use Rattle.cases.proofs.CutLaws.{read_of_accepted}
use Rattle.cases.proofs.HoldsLaws.{read_holds}
use Rattle.cases.proofs.FileLimitsLaws.{file_limits}
use Rattle.cases.proofs.WorkLaws.{work_short}
use Rattle.cases.specs.Reads.{Accepted}

-- limits that are kept are kept with other bounds that the record's hours and minimum times do not pass
moved_counts : {hours more : ℕ} {c : Case} → (c.hours ≤ hours → c.hours ≤ more) → CountsTo hours c
    → CountsTo more c
moved_counts day n = record { rises = n.rises; falls = n.falls; hours = (n.hours.0, day n.hours.1) }

moved_rates : {time longer : ℕ} {c : Case} → (c.minup.0 ≤ time → c.minup.0 ≤ longer)
    → (c.mindown.0 ≤ time → c.mindown.0 ≤ longer) → RatesTo time c → RatesTo longer c
moved_rates up down m =
    record {
      rampup = m.rampup;
      rampdown = m.rampdown;
      minup = (m.minup.0, up m.minup.1);
      mindown = (m.mindown.0, down m.mindown.1);
    }

moved : {hours more time longer : ℕ} {c : Case} → (c.hours ≤ hours → c.hours ≤ more)
    → (c.minup.0 ≤ time → c.minup.0 ≤ longer) → (c.mindown.0 ≤ time → c.mindown.0 ≤ longer) → (n : ℕ)
    → LimitedTo hours time c n → LimitedTo more longer c n
moved day up down n (limit2 m) = limit2 (moved_counts day m)
moved day up down n (limit3 m) = limit3 m
moved day up down n (limit4 m) = limit4 (moved_rates up down m)
moved day up down n (limit5 m) = limit5 m
moved day up down n (limit6 m) = limit6 m
moved day up down n (limit7 m) = limit7 m
moved day up down n (limit8 m) = limit8 m
moved day up down n (limit13 m) = limit13 m

-- what keeps the limits without request F-6 keeps the limits
wider : (c : Case) (n : ℕ) → LimitedBefore c n → Limited c n
wider c = moved (λ h. omega arith) (λ h. omega arith) (λ h. omega arith)

wider_file : (s : List ℕ) (n : ℕ) → FileLimitedBefore s n → FileLimited s n
wider_file s n (file1 m) = file1 m
wider_file s n (file2 c m k) = file2 c m (moved_counts (λ h. omega arith) k)
wider_file s n (file12 m) = file12 m
wider_file s n (held m c h l) = held m c h (wider c m l)

-- short minimum times
short_times : {c : Case} → LimitedBefore c 4 → (up_time c ≤ short_time) × (down_time c ≤ short_time)
short_times (limit4 m) = (m.minup.1, m.mindown.1)

pub admitted_before : (c : Case) → FirstRefused (LimitedBefore c) record_order 0
    → (refusal_of c ≡ 0) × (work_length c ≡ short_work)
admitted_before c f =
    ((limits c 0).1 (none_first (wider c) record_numbers f), short_of f)
  where
    short_of : FirstRefused (LimitedBefore c) record_order 0 → work_length c ≡ short_work
    short_of (later a (later b (later l k))) = let (u, d) = short_times l in work_short c u d

pub refused_before : (c : Case) (n : ℕ) → NoLonger c
    → (refusal_of c ≡ n) ↔ FirstRefused (LimitedBefore c) record_order n
refused_before c n l = (
  λ e. first_same (ltb 0) (λ m some. (narrower m, wider c m)) record_numbers ((limits c n).0 e),
  λ f. (limits c n).1 (first_same (ltb 0) (λ m some. (wider c m, narrower m)) record_numbers f),
)
  where
    narrower : (m : ℕ) → Limited c m → LimitedBefore c m
    narrower = moved (λ h. l.hours) (λ h. l.minup) (λ h. l.mindown)

pub read_before : (s : List ℕ) → FirstRefused (FileLimitedBefore s) file_order 0
    → ((read_of s).outcome ≡ Accepted) × (work_length (read_of s).case ≡ short_work)
read_before s f = (read_of_accepted s read, short_of f)
  where
    read : outcome_number (read_of s).outcome ≡ 0
    read = (file_limits s 0).1 (none_first (wider_file s) file_numbers f)

    short_of : FirstRefused (FileLimitedBefore s) file_order 0 → work_length (read_of s).case ≡ short_work
    short_of (later a (later b (later c (later d (later l k))))) = go l
      where
        go : FileLimitedBefore s 4 → work_length (read_of s).case ≡ short_work
        go (held n c h m) =
            let k = read_holds s read in
            let (u, d) = short_times m in
            work_short (read_of s).case (omega (arith, h.minup, k.minup)) (omega (arith, h.mindown, k.mindown))
