-- `locks::fill` meets its contract: a turn keeps one row more. Assumes nothing.
use Rattle.std.proofs.Common.{arith, rules, refl, sym, ◌≡◌, ℕ, suc, List, ◌+◌, ◌-◌, ◌≤◌, ◌<◌, min, ℤ}
use Rattle.machine.specs.declared.Unit.{Unit}
use Rattle.machine.specs.Moves.{worth, Tariff}
use Rattle.machine.specs.Lengths.{row_length, most_places}
use Rattle.cells.specs.Ahead.{tariffs}
use Rattle.cells.specs.Table.{Row, cells_of}
use Rattle.cells.proofs.Ends.{row_at}
use Rattle.locks.specs.Locked.{lock_end}
use Rattle.locks.proofs.LockedLaws.{row_few, lock_start, locked_start, locked_step, locked_from}
use Rattle.locks.proofs.fill.Goals as goal

-- the row of the lock's end, taken down to the hour before which the rows end
pub loop-h-init : goal.loop-h-init
loop-h-init c =
    let day = c.args.passed.now.day in
    let u = day.unit in
    let b = c.args.b.0 in
    let to = c.min-to.result.0 in
    let le : to ≡ min b (c.args.k.0 + most_places) = search rules in
    let left : to + (b - to) ≡ b = omega arith in
    record {
      limit = le;
      made = λ j e.
          let i : ℕ = j - (b - to) in
          row_at u (tariffs day) refl (omega (arith, c.requires.k_le_b.1))
          (rw c.cells_of-wide.ensures at (c.lock_down.ensures i
          (row_at u (tariffs day) (sym left) refl
          (lock_start u (tariffs day) b i (omega (arith, c.requires.k_le_b.1)) c.layer_at.ensures.row))));
      locked = locked_start u (tariffs day) to b (search rules);
    }

-- the row of the hour that a turn comes from, in the states of the hour that it comes to
from : (u : Unit) (day : ℕ → Tariff) (b h n : ℕ) {row : List ℤ} → 0 < h → h ≤ b → b ≤ u.hours.0 → n ≡ cells_of u
    → ((j : ℕ) → b ≡ lock_end u h j → Row u (worth u day h) j (cells_of u) row)
    → (j : ℕ) → b ≡ lock_end u (h - 1) j → Row u (worth u day (suc (h - 1))) (j - 1) n row
from u day b h n pos le within few made j e =
    row_few (sym few) (row_at u day (omega arith) refl (made (j - 1) (omega arith)))

pub lock_hour-requires : goal.lock_hour-requires
lock_hour-requires c =
    let day = c.args.passed.now.day in
    let within = c.requires.k_le_b.1 in
    let j : ℕ = c.args.b.0 - (c.loop-h.h - 1) in
    record {
      k_lt_hours = (
        omega (arith, within),
        (
          j - 1,
          from day.unit (tariffs day) c.args.b.0 c.loop-h.h _ (omega arith) (omega arith) within
              c.cells_of-wide.ensures c.loop-h.invariant.made j (omega (arith, within)),
        ),
      );
    }

pub loop-h-preserved : goal.loop-h-preserved
loop-h-preserved c =
    let day = c.args.passed.now.day in
    let u = day.unit in
    let h : ℕ = c.loop-h.h - 1 in
    let within = c.requires.k_le_b.1 in
    let n = c.cells_of-wide.ensures in
    let wide : cells_of u ≤ row_length = let f = day.fit in omega (arith, f.capacity_le, f.minimum_pos) in
    let row = c.lock_hour.new.row in
    let made : (j : ℕ) → c.args.b.0 ≡ lock_end u h j → Row u (worth u (tariffs day) h) j (cells_of u) row =
    λ j e. row_at u (tariffs day) refl (omega (arith, within))
    (c.lock_hour.ensures (j - 1) (cells_of u) (omega arith) (omega (arith, n))
    (from u (tariffs day) c.args.b.0 c.loop-h.h _ (omega arith) (omega arith) within n c.loop-h.invariant.made j
    e)) in
    record {
      limit = c.loop-h.invariant.limit;
      made = made;
      locked = locked_step u (tariffs day) h _ c.args.b.0 (omega arith) (omega (arith, wide)) made
          (rw n at c.put.ensures) (locked_from u (tariffs day) (suc h) (omega arith) c.loop-h.invariant.locked);
    }
