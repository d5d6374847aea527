-- The profit of a day, added up hour by hour, and how large it is. Assumes nothing.
use mathlib.Core.Path.{◌≡◌, sym, ap, ◌∙◌}
use mathlib.Core.List.{List}
use Prim.Native.Nat.{ℕ, ◌+◌, ◌*◌, ◌≤◌, ◌<◌}
use native.Mathlib.Omega.{arith}
use native.Mathlib.Numerals.{add-one}
use lib.IntN.{ℤ, pos, nat_abs, ◌+ℤ◌, ◌-ℤ◌, ◌*ℤ◌}
use lib.ListN.{get_or}
use Rattle.laws.proofs.Magnitude.{abs_add, abs_sub, abs_mul_le}
use Rattle.cases.specs.declared.Case.{Case}
use Rattle.cases.specs.Limits.{most_charge}
use Rattle.cases.specs.Symbols.{F, last, price}
use Rattle.day.specs.Marks.{p}
use Rattle.day.specs.Profit.{energy, profit_at, profit_to, profit_of}
use Rattle.cases.specs.Layout.{no_mills}
use Rattle.cases.proofs.SymbolsLaws.{before_is}
use Rattle.cases.proofs.LimitsLaws.{Amount, Limits}
use Rattle.cases.proofs.RefusalsLaws.{priced_here}
use Rattle.day.proofs.ProfitLaws.{energy_is, charge_is, profit_of_parts}
use Rattle.day.proofs.ProfitLaws.{profit_to_none, profit_to_more, profit_of_is}
use Rattle.machine.specs.Bounds.{most_margin, most_fee, most_hour_profit}
use Rattle.hours.specs.declared.marks.Marks.{Marks}
use Rattle.hours.specs.Marked.{Marked}
use Rattle.hours.proofs.MarkLaws.{marks_at_is}
use Rattle.profit.specs.Worth.{Worth, Hourly, charge_of}

-- what the price of hour k + 1 leaves above F
pub over_of : (c : Case) (k : ℕ) {m : ℤ} → Limits c → k < last c → m ≡ (get_or c.prices k no_mills).0 -ℤ F c
    → Worth (price c (k + 1) -ℤ F c) most_margin m
over_of c k {m} lim h d =
    let is : m ≡ price c (k + 1) -ℤ F c = d ∙ rw (add-one k) (ap (λ x. x -ℤ F c) (priced_here c.prices k)) in
    let apart = abs_sub (price c (k + 1)) (F c) in
    let price = lim.price_le (k + 1) (omega arith) (omega arith) in
    record { is = is; most = omega (arith, ap nat_abs is, apart, price, lim.variable_in.le) }

-- an amount that is charged once at the most
pub charged_le : {z r : ℤ} (n : ℕ) → Amount most_charge z → n ≤ 1 → r ≡ z *ℤ pos (2 * n) → nat_abs r ≤ most_fee
charged_le {z} {r} n a h e =
    let once : 2 * n ≤ 2 = omega arith in
    omega (arith, ap nat_abs e, abs_mul_le z a.le once)

module _ {c : Case} {l : List ℕ} where
  -- what an hour earns
  pub hour_of : {k q r : ℕ} {over gain cost : ℤ} {m : Marks} → Hourly c l k over q r → Marked q r m
      → gain ≡ over *ℤ pos (r + q) → cost ≡ charge_of c m → gain -ℤ cost ≡ profit_at c l k
  hour_of {k} {q} {r} {over} {gain} {cost} {m} h e g w =
      let energy : r + q ≡ energy c l k =
      rw (h.is, h.was) (sym (energy_is c l k ∙ ap (λ j. p c l k + p c l j) (before_is k))) in
      let at = marks_at_is c l k h.part h.was h.is e in
      profit_of_parts c l k h.margin energy g (w ∙ ap (charge_of c) at ∙ sym (charge_is c l k))

-- the hours 1 to k are added up; the last ends at output q
pub record Earned (c : Case) (l : List ℕ) (k : ℕ) (total : ℤ) (q : ℕ) : Type 0 where
  pub is : total ≡ profit_to c l k
  pub most : nat_abs total ≤ most_hour_profit * k
  pub part : k ≤ c.hours
  pub was : q ≡ p c l k

module _ {c : Case} {l : List ℕ} where
  pub earned_start : {q : ℕ} → q ≡ p c l 0 → Earned c l 0 (pos 0) q
  earned_start e = record { is = sym (profit_to_none c l); most = omega arith; part = omega arith; was = e }

  pub earned_step : {k q : ℕ} {total : ℤ} (x r : ℤ) (s : ℕ) → Earned c l k total q → k < c.hours
      → Worth (profit_at c l (k + 1)) most_hour_profit x → r ≡ total +ℤ x → s ≡ p c l (k + 1) → Earned c l (k + 1) r s
  earned_step {k} {q} {total} x r s h m w e f =
      record {
        is = (let so = h.is in let here = w.is in cc (profit_to_more c l k));
        most = omega (arith, ap nat_abs e, abs_add total x, h.most, w.most);
        part = omega arith;
        was = f;
      }

  pub earned_end : {k q : ℕ} {total : ℤ} → Earned c l k total q → c.hours ≤ k → total ≡ profit_of c l
  earned_end {k} {q} {total} h m =
      h.is ∙ ap (profit_to c l) (let e : k ≡ c.hours = omega (arith, h.part) in e) ∙ sym (profit_of_is c l)
