-- How many numbers a search of a record works in. Assumes nothing.
use mathlib.Core.Path.{◌≡◌, sym}
use mathlib.Core.Logic.{◌↔◌}
use Prim.Native.Nat.{ℕ, ◌≤◌, ◌<◌}
use native.Mathlib.Decide.{dec_lt}
use native.Mathlib.Omega.{arith}
use borrow.Author.Tests.{le-leb, lt-leb}
use lib.Dec.{leb}
use Rattle.laws.proofs.Tests.{and_false}
use Rattle.cases.specs.declared.Case.{Case}
use Rattle.cases.specs.Limits.{short_time, short_work, long_work}
use Rattle.cases.specs.Symbols.{up_time, down_time}
use Rattle.cases.specs.Refusals.{work_length}
use Rattle.cases.specs.Published.{WorksIn, short, up, down}

module _ (c : Case) where
  pub work_short : up_time c ≤ short_time → down_time c ≤ short_time → work_length c ≡ short_work
  unfolding work_length
  work_short u d = rw (le-leb (up_time c) short_time u, le-leb (down_time c) short_time d)

  pub work_up : short_time < up_time c → work_length c ≡ long_work
  unfolding work_length
  work_up u = rw (lt-leb (up_time c) short_time u)

  pub work_down : short_time < down_time c → work_length c ≡ long_work
  unfolding work_length
  work_down d = rw (lt-leb (down_time c) short_time d, and_false (leb (up_time c) short_time))

  works : WorksIn c (work_length c)
  works = go (dec_lt short_time (up_time c)) (dec_lt short_time (down_time c))
    where
      go : Dec (short_time < up_time c) → Dec (short_time < down_time c) → WorksIn c (work_length c)
      go (yes u) d = rw (work_up u) (up u)
      go (no u) (yes d) = rw (work_down d) (down d)
      go (no u) (no d) = rw (work_short (omega arith) (omega arith)) (short (omega arith) (omega arith))

  work_of : {n : ℕ} → WorksIn c n → work_length c ≡ n
  work_of (short u d) = work_short u d
  work_of (up u) = work_up u
  work_of (down d) = work_down d

  pub working : (n : ℕ) → (work_length c ≡ n) ↔ WorksIn c n
  working n = (λ e. rw (sym e) works, work_of)

  -- the fewest, and the most
  pub work_within : (short_work ≤ work_length c) × (work_length c ≤ long_work)
  work_within = go works
    where
      go : {n : ℕ} → WorksIn c n → (short_work ≤ n) × (n ≤ long_work)
      go (short u d) = (omega arith, omega arith)
      go (up u) = (omega arith, omega arith)
      go (down d) = (omega arith, omega arith)
