-- A step of the automaton is a move of the machine. Assumes nothing.
use mathlib.Core.Path.{◌≡◌, refl, sym, ap, ◌∙◌}
use mathlib.Core.Option.{some}
use Prim.Native.Nat.{ℕ, zero, suc, ◌+◌, ◌-◌, ◌<◌, min}
use native.Mathlib.Omega.{arith}
use native.Mathlib.Numerals.{add-one}
use borrow.Author.Tests.{eq-eqb, ne_eqb, le-leb, lt-leb, lt-ltb, le-ltb}
use Rattle.cases.specs.declared.Case.{Case}
use Rattle.cases.specs.Symbols.{high, low, RU, RD, UD, DD, PU}
use Rattle.cases.proofs.LimitsLaws.{Limits}
use Rattle.machine.specs.Moves.{idle, running, pu_at, pd_at, output, risen, fallen, sunk, ramped, leaves, move}
use Rattle.machine.specs.Cases.{unit_of}
use Rattle.day.specs.Automaton.{St, off, up, run, down, Step, stay, start, start1, climb, reach, hold, leave}
use Rattle.day.specs.Automaton.{leave1, sink, land}
use Rattle.machine.specs.Image.{image, Good}
use Rattle.machine.proofs.Bridge.CasesLaws.{pu_at_is, pd_at_is}

module _ (c : Case) (lim : Limits c) where
  pub step_move : (q : ℕ) (s t : St) → Good c s → Step c q s t → move (unit_of c) (image c s) q ≡ some (image c t)
  unfolding unit_of move risen fallen sunk ramped leaves
  step_move q (off d) t g (stay d₁ e) =
      let rest = lim.mindown_pos in
      rw (eq-eqb q 0 e) (ap (λ n. some (idle n)) (omega arith))
  step_move q (off d) t g (start d₁ e l r) =
      let first = e ∙ sym (pu_at_is c lim 0 lim.rises_pos) in
      let on = lim.rise_pos in
      rw (
        ne_eqb q 0 (λ z. omega arith),
        eq-eqb q (pu_at (unit_of c) 0) first,
        le-leb c.mindown.0 (min d c.mindown.0) (omega arith),
        lt-ltb (0 + 1) (UD c) r,
      ) refl
  step_move q (off d) t g (start1 d₁ e l r) =
      let on = lim.minimum_pos in
      let top : PU c 1 ≡ low c = ap (PU c) (sym r) ∙ lim.rise_top in
      let first = e ∙ sym top ∙ sym (pu_at_is c lim 0 lim.rises_pos) in
      rw (
        ne_eqb q 0 (λ z. omega arith),
        eq-eqb q (pu_at (unit_of c) 0) first,
        le-leb c.mindown.0 (min d c.mindown.0) (omega arith),
        le-ltb (0 + 1) (UD c) (omega arith),
      )
      (ap (λ n. some (running (low c) n)) (omega arith)
      ∙ ap (λ n. some (running n (c.minup.0 + 1 - (1 + DD c)))) (sym e))
  step_move q (up zero) t g x = absurd (omega (arith, g.0))
  step_move q (up (suc i)) t g (climb i₁ e l) =
      rw (
        add-one i,
        eq-eqb q (pu_at (unit_of c) (suc i)) (e ∙ sym (pu_at_is c lim (suc i) g.1)),
        add-one (suc i),
        lt-ltb (suc (suc i)) (UD c) l,
      ) refl
  step_move q (up (suc i)) t g (reach i₁ e l) =
      let top : PU c (suc (suc i)) ≡ low c = ap (PU c) l ∙ lim.rise_top in
      rw (
        add-one i,
        eq-eqb q (pu_at (unit_of c) (suc i)) (e ∙ sym top ∙ sym (pu_at_is c lim (suc i) g.1)),
        add-one (suc i),
        le-ltb (suc (suc i)) (UD c) (omega arith),
      )
      (ap (λ n. some (running (low c) n)) (omega arith)
      ∙ ap (λ n. some (running n (c.minup.0 + 1 - (suc (suc i) + DD c)))) (sym e))
  step_move q (run r w) t g (hold r₁ w₁ a b d e) =
      rw (le-leb (low c) q a, le-leb q (high c) b, le-leb q (r + RU c) d, le-leb r (q + RD c) e)
      (ap (λ n. some (running q n)) (omega arith))
  step_move q (run r w) t g (leave r₁ w₁ a b d e) =
      let below : q < low c = omega (arith, lim.fall_down 1 (omega arith) e, lim.fall_top) in
      rw (
        lt-leb (low c) q below,
        lt-ltb 1 (DD c) e,
        eq-eqb q (pd_at (unit_of c) 1) (a ∙ sym (pd_at_is c lim 1 e)),
        eq-eqb (c.minup.0 + 1 - (w + DD c)) 0 (omega arith),
        eq-eqb r (low c) b,
      ) refl
  step_move q (run r w) t g (leave1 r₁ w₁ a b d e) =
      let below : q < low c = omega (arith, lim.minimum_pos) in
      let rest = lim.mindown_pos in
      rw (
        lt-leb (low c) q below,
        le-ltb 1 (DD c) (omega arith),
        eq-eqb q 0 a,
        eq-eqb (c.minup.0 + 1 - (w + DD c)) 0 (omega arith),
        eq-eqb r (low c) b,
      )
      (ap (λ n. some (idle n)) (omega arith))
  step_move q (down zero) t g x = absurd (omega (arith, g.0))
  step_move q (down (suc i)) t g (sink i₁ e l) =
      rw (
        add-one,
        lt-ltb (suc i) (DD c) l,
        eq-eqb q (pd_at (unit_of c) (suc i)) (e ∙ sym (pd_at_is c lim (suc i) l)),
      ) refl
  step_move q (down (suc i)) t g (land i₁ e l) =
      let rest = lim.mindown_pos in
      rw (add-one, le-ltb (suc i) (DD c) (omega arith), eq-eqb q 0 e) (ap (λ n. some (idle n)) (omega arith))

  pub good_step : (q : ℕ) (s t : St) → Good c s → Step c q s t → Good c t
  good_step q (off d) t g (stay d₁ e) = tt
  good_step q (off d) t g (start d₁ e l r) = (omega arith, r)
  good_step q (off d) t g (start1 d₁ e l r) = (omega arith, omega (arith, lim.minimum_le))
  good_step q (up i) t g (climb i₁ e l) = (omega arith, l)
  good_step q (up i) t g (reach i₁ e l) = (omega arith, omega (arith, lim.minimum_le))
  good_step q (run r w) t g (hold r₁ w₁ a b d e) = (a, b)
  good_step q (run r w) t g (leave r₁ w₁ a b d e) = (omega arith, e)
  good_step q (run r w) t g (leave1 r₁ w₁ a b d e) = tt
  good_step q (down i) t g (sink i₁ e l) = (omega arith, l)
  good_step q (down i) t g (land i₁ e l) = tt

  -- the output of a step's state is the output of the hour
  pub step_output : (q : ℕ) (s t : St) → Good c s → Step c q s t → output (unit_of c) (image c t) ≡ q
  step_output q (off d) t g (stay d₁ e) = sym e
  step_output q (off d) t g (start d₁ e l r) = pu_at_is c lim 0 lim.rises_pos ∙ sym e
  step_output q (off d) t g (start1 d₁ e l r) = refl
  step_output q (up i) t g (climb i₁ e l) = pu_at_is c lim i g.1 ∙ sym e
  step_output q (up i) t g (reach i₁ e l) = refl
  step_output q (run r w) t g (hold r₁ w₁ a b d e) = refl
  step_output q (run r w) t g (leave r₁ w₁ a b d e) = pd_at_is c lim 1 e ∙ sym a
  step_output q (run r w) t g (leave1 r₁ w₁ a b d e) = sym a
  step_output q (down i) t g (sink i₁ e l) = pd_at_is c lim i l ∙ sym e
  step_output q (down i) t g (land i₁ e l) = sym e
