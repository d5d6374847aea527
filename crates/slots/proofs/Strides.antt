-- The smallest stride for which so many numbers have room. Assumes nothing.
use mathlib.Core.Path.{◌≡◌, ap, ◌∙◌}
use Prim.Native.Nat.{ℕ, suc, ◌+◌, ◌-◌, ◌*◌, ◌/◌, ◌≤◌, ◌<◌, min}
use native.Mathlib.Nat.{div-add-mod', mod-lt, mul-le-mul_right, suc-mul, mul-suc, mul_comm, le-div_iff_mul-le}
use native.Mathlib.Nat.{div-le_of_le-mul, lt_of_mul-lt-mul_right}
use native.Mathlib.Omega.{arith}
use Rattle.cases.specs.Limits.{long_work}
use Rattle.machine.specs.declared.Unit.{Unit}
use Rattle.machine.specs.Fit.{Fit}
use Rattle.cells.specs.Table.{cells_of}
use Rattle.machine.specs.Lengths.{side_length}
use Rattle.slots.specs.Saved.{Slotted}

-- t hours in m slots: l hours to a slot
module _ (t m : ℕ) (ht : 1 ≤ t) (hm : 1 ≤ m) where
  stride_pos : 1 ≤ (t + m - 1) / m
  stride_pos = (le-div_iff_mul-le hm).1 (omega (arith, suc-mul 0 m))

  stride_le : (t + m - 1) / m ≤ t
  stride_le =
      let h = t - 1 in
      let e : t ≡ suc h = omega arith in
      let p : m * t ≡ m * h + m = ap (λ n. m * n) e ∙ mul-suc m h in
      let q : 1 * h ≤ m * h = mul-le-mul_right h hm in
      div-le_of_le-mul m (omega (arith, suc-mul 0 h))

  stride_covers : t ≤ (t + m - 1) / m * m
  stride_covers = omega (arith, div-add-mod' (t + m - 1) m, mod-lt (t + m - 1) hm)

-- the slots that so many numbers have room for, as far as the day needs them
module _ (u : Unit) (fit : Fit u) (w numbers : ℕ) (width : w ≡ cells_of u + side_length) (one : w ≤ numbers) where
  abbrev pub slots_of : ℕ
  slots_of = min (numbers / w) u.hours.0

  slots_pos : 1 ≤ slots_of
  slots_pos =
      let h : 1 ≤ w = omega arith in
      let room : 1 ≤ numbers / w = (le-div_iff_mul-le h).1 (omega (arith, suc-mul 0 w)) in
      omega (arith, fit.hours_pos)

  -- as many hours to a slot
  abbrev pub stride_of : ℕ
  stride_of = (u.hours.0 + slots_of - 1) / slots_of

  pub slotted_of : numbers ≤ long_work → Slotted u stride_of w numbers
  slotted_of most =
      let m = slots_of in
      let l = stride_of in
      record {
        stride_pos = stride_pos u.hours.0 m fit.hours_pos slots_pos;
        stride_le = stride_le u.hours.0 m fit.hours_pos slots_pos;
        width = width;
        most = most;
        room = λ s h.
            let c : u.hours.0 ≤ l * m = stride_covers u.hours.0 m fit.hours_pos slots_pos in
            let b : s * l < m * l = omega (arith, mul_comm l m) in
            let d : s < numbers / w = omega (arith, lt_of_mul-lt-mul_right l b) in
            let e : suc s * w ≤ numbers / w * w = mul-le-mul_right w d in
            omega (arith, suc-mul s w, div-add-mod' numbers w);
      }
