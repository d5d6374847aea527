-- Constraints (1) to (12) and rules 21 to 23 by the numbers of an hour. Assumes nothing.
use mathlib.Core.Path.{◌≡◌, sym, ap, ◌∙◌}
use mathlib.Core.Bool.{◌&&◌, ◌||◌}
use mathlib.Core.List.{List}
use Prim.Native.Nat.{ℕ, ◌+◌, ◌*◌}
use lib.Dec.{leb, eqb}
use Rattle.cases.specs.declared.Case.{Case}
use Rattle.cases.specs.Symbols.{high, low, RU, RD, order}
use Rattle.day.specs.Marks.{p, v, starting}
use Rattle.day.specs.Constraints.{stopping}
use Rattle.day.specs.Constraints.{rule1, rule2, rule3, rule4, rule5, rule6}
use Rattle.day.specs.Constraints.{rule7, rule8, rule9, rule10, rule11, rule12}
use Rattle.day.specs.Rules.{rule21, rule22, rule23}
use Rattle.day.proofs.ConstraintsLaws.{rule1_is, rule2_is, rule3_is, rule4_is, rule5_is, rule6_is}
use Rattle.day.proofs.ConstraintsLaws.{rule7_is, rule8_is, rule9_is, rule10_is, rule11_is, rule12_is}
use Rattle.day.proofs.BreachLaws.{rule21_is, rule22_is, rule23_is}
use Rattle.cases.proofs.LimitsLaws.{Limits}
use Rattle.hours.specs.declared.Numbers.{Numbers}
use Rattle.hours.specs.Numbered.{Numbered}
use Rattle.broken.specs.declared.times.Since.{Since}
use Rattle.broken.specs.Compared.{above_least, below_most, within_ramp, meets_low}
use Rattle.broken.specs.Elapsed.{Elapsed}

-- a minimum time, at a mark
pub timed : {m n x y : ℕ} (least : ℕ) → m ≡ n → x ≡ y → (eqb m 0 || leb least x) ≡ (eqb n 0 || leb least y)
timed least a b = cc

module _ {c : Case} {l : List ℕ} {k : ℕ} {n : Numbers} (h : Numbered c l k n) where
  pub rule1_of : above_least (low c) n n.startup ≡ rule1 c l k
  rule1_of = ap (λ m. above_least (low c) m m.startup) h.are ∙ sym (rule1_is c l k)

  pub rule2_of : above_least (low c) n n.shutdown ≡ rule2 c l k
  rule2_of = ap (λ m. above_least (low c) m m.shutdown) h.are ∙ sym (rule2_is c l k)

  pub rule3_of : below_most (high c) n n.startup ≡ rule3 c l k
  rule3_of = ap (λ m. below_most (high c) m m.startup) h.are ∙ sym (rule3_is c l k)

  pub rule4_of : below_most (high c) n n.shutdown ≡ rule4 c l k
  rule4_of = ap (λ m. below_most (high c) m m.shutdown) h.are ∙ sym (rule4_is c l k)

  pub rule5_of :
      within_ramp (high c) (RU c) n.earlier.0 n.output.0 n.startup.marks n.marks.online ≡ rule5 c l k
  rule5_of =
      ap
      (λ m. within_ramp (high c) (RU c) m.earlier.0 m.output.0 m.startup.marks m.marks.online)
      h.are
      ∙ sym (rule5_is c l k)

  pub rule6_of :
      within_ramp (high c) (RD c) n.output.0 n.earlier.0 n.falling n.marks.wasonline ≡ rule6 c l k
  rule6_of =
      ap (λ m. within_ramp (high c) (RD c) m.output.0 m.earlier.0 m.falling m.marks.wasonline) h.are
      ∙ sym (rule6_is c l k)

  pub rule7_of : {a b : ℕ} → a ≡ n.marks.start + n.marks.wasonline → b ≡ n.marks.online + n.marks.stop
      → eqb a b ≡ rule7 c l k
  rule7_of d e =
      rw (d, e)
      (ap (λ m. eqb (m.marks.start + m.marks.wasonline) (m.marks.online + m.marks.stop)) h.are
      ∙ sym (rule7_is c l k))

  pub rule8_of : leb n.startup.marks n.marks.online ≡ rule8 c l k
  rule8_of = ap (λ m. leb m.startup.marks m.marks.online) h.are ∙ sym (rule8_is c l k)

  pub rule9_of : leb n.shutdown.marks n.marks.online ≡ rule9 c l k
  rule9_of = ap (λ m. leb m.shutdown.marks m.marks.online) h.are ∙ sym (rule9_is c l k)

  pub rule10_of : {a : ℕ} → a ≡ n.marks.start + n.meeting → leb a 1 ≡ rule10 c l k
  rule10_of e = rw e (ap (λ m. leb (m.marks.start + m.meeting) 1) h.are ∙ sym (rule10_is c l k))

  -- PU ends and PD begins at the minimum output
  met : {m : ℕ} → m ≡ low c → meets_low (low c) n ≡ leb (m * (stopping c l k + starting c l k)) (p c l k + m)
  met e =
      ap (meets_low (low c)) h.are ∙ ap (λ m. leb (m * (stopping c l k + starting c l k)) (p c l k + m)) (sym e)

  pub rule11_of : Limits c → meets_low (low c) n ≡ rule11 c l k
  rule11_of s = met s.rise_top ∙ sym (rule11_is c l k)

  pub rule12_of : Limits c → meets_low (low c) n ≡ rule12 c l k
  rule12_of s = met s.fall_top ∙ sym (rule12_is c l k)

  module _ {s : Since} (e : Elapsed c l k s) where
    pub rule21_of : (eqb n.marks.stop 0 || leb c.minup.0 s.start.0) ≡ rule21 c l k
    rule21_of = timed c.minup.0 (ap (λ m. m.marks.stop) h.are) e.start.is ∙ sym (rule21_is c l k)

    pub rule22_of : (eqb n.marks.start 0 || leb c.mindown.0 s.stop.0) ≡ rule22 c l k
    rule22_of = timed c.mindown.0 (ap (λ m. m.marks.start) h.are) e.stop.is ∙ sym (rule22_is c l k)

  pub rule23_of : {o : ℕ} → o ≡ order c k
      → (eqb o 0 || (eqb o 1 && eqb n.marks.online 1 || eqb o 2 && eqb n.marks.online 0)) ≡ rule23 c l k
  rule23_of e =
      let online : n.marks.online ≡ v c l k = ap (λ m. m.marks.online) h.are in
      rw (e, online) (sym (rule23_is c l k))
