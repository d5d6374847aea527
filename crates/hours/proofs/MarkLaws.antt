-- The marks of an hour by the outputs at its ends. Assumes nothing.
use mathlib.Core.Path.{◌≡◌, sym, ap, ◌∙◌}
use mathlib.Core.Logic.{⊎_elim}
use mathlib.Core.List.{List}
use Prim.Native.Nat.{ℕ, zero, suc, ◌-◌, ◌≤◌, ◌<◌}
use native.Mathlib.Nat.{eq-zero-or-pos}
use native.Mathlib.Omega.{arith}
use Rattle.cases.specs.declared.Case.{Case}
use Rattle.cases.specs.Symbols.{last}
use Rattle.day.specs.Marks.{p, v}
use Rattle.day.proofs.MarksLaws.{v_on, v_off, y_zero, z_zero, y_after_off, y_after_on, z_at_off, z_at_on}
use Rattle.cases.proofs.SymbolsLaws.{before_is}
use Rattle.hours.specs.declared.marks.Marks.{Marks}
use Rattle.hours.specs.Marked.{Online, Began, Marked}
use Rattle.hours.specs.Numbered.{marks_at}

-- an output that stays marks neither a start nor a stop
pub stays : {q r : ℕ} {m : Marks} → q ≡ r → Marked q r m → (m.start ≡ 0) × (m.stop ≡ 0)
stays {q} {r} {m} e h = ⊎_elim off on (eq-zero-or-pos q)
  where
    off : q ≡ 0 → (m.start ≡ 0) × (m.stop ≡ 0)
    off d =
        let was = h.wasonline.off d in
        let is = h.online.off (sym e ∙ d) in
        (h.start.off was ∙ is, h.stop.off is ∙ was)

    on : 0 < q → (m.start ≡ 0) × (m.stop ≡ 0)
    on d =
        let was = h.wasonline.on d in
        let is = h.online.on (omega arith) in
        (h.start.on (omega arith), h.stop.on (omega arith))

-- a start by v(k−1) and v(k), and a stop by the two the other way round
began_of : {a b r u w x : ℕ} → a ≡ u → b ≡ w → a ≤ 1 → (u ≡ 0 → x ≡ w) → (u ≡ 1 → x ≡ 0) → Began a b r → r ≡ x
began_of {a} was is m off on h =
    ⊎_elim (λ (d : a ≡ 0). h.off d ∙ is ∙ sym (off (sym was ∙ d)))
    (λ (d : 0 < a). h.on d ∙ sym (on (omega arith)))
    (eq-zero-or-pos a)

marks_of : (m : Marks) {a b d e : ℕ} → m.online ≡ a → m.wasonline ≡ b → m.start ≡ d → m.stop ≡ e
    → m ≡ record { online = a; wasonline = b; start = d; stop = e }
marks_of m a b d e = rw (← a, ← b, ← d, ← e)

module _ (c : Case) (l : List ℕ) where
  online_of : (k : ℕ) {q r : ℕ} → q ≡ p c l k → Online q r → r ≡ v c l k
  online_of k {q} {r} e h =
      ⊎_elim (λ (d : q ≡ 0). h.off d ∙ sym (v_off c l k (sym e ∙ d)))
      (λ (d : 0 < q). h.on d ∙ sym (v_on c l k (omega arith)))
      (eq-zero-or-pos q)

  -- from hour 0 to T
  pub marks_at_is : (k : ℕ) {q r : ℕ} {m : Marks} → k ≤ last c → q ≡ p c l (k - 1) → r ≡ p c l k → Marked q r m
      → m ≡ marks_at c l k
  marks_at_is zero {q} {r} {m} to was is h =
      let same : q ≡ r = was ∙ ap (p c l) (let e : 0 - 1 ≡ 0 = omega arith in e) ∙ sym is in
      let none = stays same h in
      marks_of m (online_of 0 is h.online) (online_of 0 (same ∙ is) h.wasonline) (none.0 ∙ sym (y_zero c l))
      (none.1 ∙ sym (z_zero c l))
  marks_at_is (suc k) {q} {r} {m} to was is h =
      let some : 0 < suc k = omega arith in
      let before = online_of (suc k - 1) was h.wasonline in
      let here = online_of (suc k) is h.online in
      marks_of m here (before ∙ ap (v c l) (sym (before_is (suc k))))
      (began_of before here h.wasonline.most (y_after_off c l (suc k) some to) (y_after_on c l (suc k) some to)
      h.start)
      (began_of here before h.online.most (z_at_off c l (suc k) some to) (z_at_on c l (suc k) some to)
      h.stop)
