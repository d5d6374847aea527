-- `layers::last_entries` meets its contract. Assumes nothing.
use native.Mathlib.Omega.{arith}
use mathlib.Core.Path.{◌≡◌, refl, ◌∙◌}
use Prim.Native.Nat.{ℕ, suc, ◌+◌, ◌-◌, ◌*◌, ◌≤◌, ◌<◌, min}
use Rattle.machine.specs.Moves.{worth}
use Rattle.cells.specs.Ahead.{tariffs}
use Rattle.cells.specs.Table.{Row, cells_of}
use Rattle.cells.proofs.Ends.{row_at, row_fewer, entry_at, reach_step}
use Rattle.layers.proofs.EntryLaws.{entries_at, entries_step, entries_end}
use Rattle.layers.proofs.last_entries.Goals as goal

pub loop-h-init : goal.loop-h-init
loop-h-init c =
    let u = c.args.day.now.unit in (
      λ j. row_at u _ refl (omega arith) (row_fewer _ (omega arith) (c.end_row.ensures _ j)),
      rw c.store.ensures (entries_end u _ c.args.entries.now c.args.day.now.fit c.requires.entries_len),
    )

-- the cells that are looked at, in the hours that the invariant counts
looked : (h last step n : ℕ) {r : ℕ} → last < h → r ≡ min (1 + (h - 1 + 1 - last) * step) n
    → r ≡ min (1 + (h - last) * step) n
looked h last step n b e = let q : h - 1 + 1 - last ≡ h - last = omega arith in rw q at e

pub lock_hour-requires : goal.lock_hour-requires
lock_hour-requires c =
    let u = c.args.day.now.unit in
    let l = c.loop-h in
    let up : l.h ≡ suc (l.h - 1) = omega (arith, c.loop-h-test.true) in
    let here : c.reached-seen.result ≡ min (1 + (l.h - c.less-last.result.0) * u.rampup.0) (cells_of u) =
    looked l.h c.less-last.result.0 u.rampup.0 (cells_of u) c.loop-h-test.true c.reached-seen.ensures in
    record {
      k_lt_hours = (
        omega (arith, c.loop-h-test.true),
        (0 + (u.hours.0 - l.h), rw here (row_at u _ up refl (l.invariant.0 0))),
      );
    }

pub loop-h-preserved : goal.loop-h-preserved
loop-h-preserved c =
    let a = c.args.day.now in
    let day = tariffs a in
    let u = a.unit in
    let l = c.loop-h in
    let last = c.less-last.result.0 in
    let h : ℕ = l.h - 1 in
    let n : ℕ = u.hours.0 - l.h in
    let d : ℕ = h - last in
    let up : l.h ≡ suc h = omega (arith, c.loop-h-test.true) in
    let far : l.h - last ≡ suc d = omega (arith, c.loop-h-test.true) in
    let m = min (1 + d * u.rampup.0) (cells_of u) in
    let here : c.reached-seen.result ≡ min (1 + (l.h - last) * u.rampup.0) (cells_of u) =
    looked l.h last u.rampup.0 (cells_of u) c.loop-h-test.true c.reached-seen.ensures in
    let seen : min (m + u.rampup.0) (cells_of u) ≤ c.reached-seen.result = rw (here, far) (reach_step u 1 d) in
    let down : (j : ℕ) → Row u (worth u day h) (suc (j + n)) m c.lock_hour.new.row =
    λ j. c.lock_hour.ensures (j + n) m (omega arith) seen (rw here (row_at u day up refl (l.invariant.0 j))) in
    let few : suc n ≤ u.lock.0 = omega (arith, c.less-last.ensures, c.loop-h-test.true, l.auto.h) in (
      λ j. row_at u day refl (omega (arith, c.loop-h-test.true, l.auto.h)) (down j),
      rw c.store-in-loop-h.ensures
          (entries_step u day h (omega (arith, a.fit.hours_le, l.auto.h)) (entries_at u day up l.invariant.1)
          (c.first_of.ensures
          ∙ entry_at u day h (omega (arith, a.fit.minimum_le))
          (row_at u day refl (omega arith) (down (u.lock.0 - suc n))))),
    )
