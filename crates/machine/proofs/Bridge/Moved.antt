-- A move of the machine is a step of the automaton. Assumes nothing.
use mathlib.Core.Path.{◌≡◌, refl, sym, ap, ◌∙◌}
use mathlib.Core.Bool.{Bool, true, false, ◌&&◌, cond}
use mathlib.Core.Option.{some}
use Prim.Native.Nat.{ℕ, zero, suc, ◌+◌, ◌-◌, ◌≤◌, ◌<◌, min}
use native.Mathlib.Omega.{arith}
use native.Mathlib.Numerals.{add-one}
use borrow.Author.Tests.{ne_eqb, lt-leb, eqb-true, eqb-false, leb-true, leb-false, ltb-true, ltb-false}
use lib.Dec.{leb, ltb, eqb}
use Rattle.laws.proofs.Tests.{both}
use Rattle.cases.specs.declared.Case.{Case}
use Rattle.cases.specs.Symbols.{high, low, RU, RD, UD, DD, PU, PD}
use Rattle.cases.proofs.LimitsLaws.{Limits}
use Rattle.machine.specs.declared.State.{State}
use Rattle.machine.specs.declared.State.TheVariants.{Rise, Fall}
use Rattle.machine.specs.Moves.{idle, running, pu_at, pd_at, risen, fallen, sunk, ramped, leaves, move}
use Rattle.machine.specs.Cases.{unit_of}
use Rattle.day.specs.Automaton.{St, off, up, run, down, Step, stay, start, start1, climb, reach, hold, leave}
use Rattle.day.specs.Automaton.{leave1, sink, land}
use Rattle.machine.specs.Image.{image, Good}
use Rattle.machine.proofs.Table.Sizes.{only_some}
use Rattle.machine.proofs.Table.Follows.{follow_stay, follow_start, follow_rise, follow_run, follow_leave}
use Rattle.machine.proofs.Table.Follows.{follow_fall, follow_ramp}
use Rattle.machine.proofs.Bridge.CasesLaws.{pu_at_is, pd_at_is}

-- with output q, the automaton goes from s to a state whose image is x
pub data Lands (c : Case) (q : ℕ) (s : St) (x : State) : Type 0 where
  lands : (t : St) → Step c q s t → image c t ≡ x → Lands c q s x

module _ (c : Case) (lim : Limits c) where
  -- off-line: the unit stays, or starts
  module _ (d q : ℕ) (x : State) (k : move (unit_of c) (idle (min d c.mindown.0)) q ≡ some x) where
    begun : (q ≡ 0 → ⊥) → (q ≡ PU c 1) × (c.mindown.0 ≤ d)
    unfolding unit_of move
    begun z =
        let first = eqb q (pu_at (unit_of c) 0) in
        let rested = leb c.mindown.0 (min d c.mindown.0) in
        let t = rw (ne_eqb q 0 z) at k in
        let (a, b) = both first rested (only_some (first && rested) (some (risen (unit_of c) 0)) x t).0 in (
          eqb-true q (pu_at (unit_of c) 0) a ∙ pu_at_is c lim 0 lim.rises_pos,
          omega (arith, leb-true c.mindown.0 (min d c.mindown.0) b),
        )

    rose : (q ≡ 0 → ⊥) → (b : Bool) → ltb (0 + 1) (UD c) ≡ b
        → cond b (Rise 0) (running (low c) (c.minup.0 + 1 - (UD c + DD c))) ≡ x → Lands c q (off d) x
    rose z true e f = lands (up 1) (start d (begun z).0 (begun z).1 (ltb-true (0 + 1) (UD c) e)) f
    rose z false e f =
        let one : UD c ≡ 1 = omega (arith, ltb-false (0 + 1) (UD c) e, lim.rises_pos) in
        let low : q ≡ low c = (begun z).0 ∙ ap (PU c) (sym one) ∙ lim.rise_top in
        lands (run q 1) (start1 d low (begun z).1 one)
        (ap (λ n. running n (c.minup.0 + 1 - (1 + DD c))) low ∙ ap (running c.minimum.0) (omega arith) ∙ f)

    from_off : Lands c q (off d) x
    unfolding unit_of risen
    from_off = go (eqb q 0) refl
      where
        go : (b : Bool) → eqb q 0 ≡ b → Lands c q (off d) x
        go true e =
            let z = eqb-true q 0 e in
            let next = follow_stay (unit_of c) (record { 0 = min d c.mindown.0 }) q x z k in
            lands (off (suc d)) (stay d z) (ap idle (omega arith) ∙ next)
        go false e =
            let z = eqb-false q 0 e in
            rose z (ltb (0 + 1) (UD c)) refl (follow_start (unit_of c) (record { 0 = min d c.mindown.0 }) q x z k)

  -- in a start-up: the next entry, or the minimum
  from_up : (i q : ℕ) (x : State) → suc i < UD c → move (unit_of c) (Rise i) q ≡ some x → Lands c q (up (suc i)) x
  unfolding unit_of move risen
  from_up i q x b k = go (ltb (i + 1 + 1) (UD c)) refl (follow_rise (unit_of c) i q x k)
    where
      out : q ≡ PU c (suc (suc i))
      out =
          let here = (only_some (eqb q (pu_at (unit_of c) (i + 1))) (some (risen (unit_of c) (i + 1))) x k).0 in
          eqb-true q (pu_at (unit_of c) (suc i)) (rw (add-one i) at here) ∙ pu_at_is c lim (suc i) b

      go : (t : Bool) → ltb (i + 1 + 1) (UD c) ≡ t
          → cond t (Rise (i + 1)) (running (low c) (c.minup.0 + 1 - (UD c + DD c))) ≡ x → Lands c q (up (suc i)) x
      go true e f =
          let more = ltb-true (i + 1 + 1) (UD c) e in
          lands (up (suc (suc i))) (climb (suc i) out (omega arith)) (ap Rise (omega arith) ∙ f)
      go false e f =
          let top : suc (suc i) ≡ UD c = omega (arith, ltb-false (i + 1 + 1) (UD c) e) in
          let low : q ≡ low c = out ∙ ap (PU c) top ∙ lim.rise_top in
          lands (run q (suc (suc i))) (reach (suc i) low top)
          (ap (λ n. running n (c.minup.0 + 1 - (suc (suc i) + DD c))) low ∙ ap (running c.minimum.0) (omega arith)
          ∙ f)

  -- on-line: a ramp, or the beginning of a shut-down
  module _ (r w q : ℕ) (x : State) (k : move (unit_of c) (running r (c.minup.0 + 1 - (w + DD c))) q ≡ some x) where
    left : q < low c → (q ≡ sunk (unit_of c) 1) × (c.minup.0 + 1 ≤ w + DD c) × (r ≡ low c)
    unfolding unit_of move leaves
    left l =
        let out = eqb q (sunk (unit_of c) 1) in
        let free = leaves (unit_of c) r (c.minup.0 + 1 - (w + DD c)) in
        let t = rw (lt-leb (low c) q l) at k in
        let (a, b) = both out free (only_some (out && free) (some (fallen (unit_of c) 1)) x t).0 in
        let (d, e) = both (eqb (c.minup.0 + 1 - (w + DD c)) 0) (eqb r (low c)) b in (
          eqb-true q (sunk (unit_of c) 1) a,
          omega (arith, eqb-true (c.minup.0 + 1 - (w + DD c)) 0 d),
          eqb-true r (low c) e,
        )

    sank : q < low c → (b : Bool) → ltb 1 (DD c) ≡ b → q ≡ cond b (pd_at (unit_of c) 1) 0
        → cond b (Fall 1) (idle 1) ≡ x → Lands c q (run r w) x
    sank l true e o f =
        let two = ltb-true 1 (DD c) e in
        let out : q ≡ PD c 2 = o ∙ pd_at_is c lim 1 two in
        lands (down 2) (leave r w out (left l).2 (omega (arith, (left l).1)) two) f
    sank l false e o f =
        let one : DD c ≡ 1 = omega (arith, ltb-false 1 (DD c) e, lim.falls_pos) in
        let rest = lim.mindown_pos in
        lands (off 1) (leave1 r w o (left l).2 (omega (arith, (left l).1)) one) (ap idle (omega arith) ∙ f)

    from_run : Lands c q (run r w) x
    unfolding unit_of ramped sunk fallen
    from_run = go (leb (low c) q) refl
      where
        j : ℕ
        j = c.minup.0 + 1 - (w + DD c)

        go : (b : Bool) → leb (low c) q ≡ b → Lands c q (run r w) x
        go true e =
            let l = leb-true (low c) q e in
            let held = follow_ramp (unit_of c) (record { 0 = r }) (record { 0 = j }) q x l k in
            let (a, b) = both (leb q (high c)) (leb q (r + RU c) && leb r (q + RD c)) held in
            let (u, d) = both (leb q (r + RU c)) (leb r (q + RD c)) b in
            lands (run q (suc w))
            (hold r w l (leb-true q (high c) a) (leb-true q (r + RU c) u) (leb-true r (q + RD c) d))
            (ap (running q) (omega arith) ∙ follow_run (unit_of c) (record { 0 = r }) (record { 0 = j }) q x l k)
        go false e =
            let l = leb-false (low c) q e in
            sank l (ltb 1 (DD c)) refl (left l).0 (follow_leave (unit_of c) (record {
              0 =
                  r;
            }) (record { 0 = j }) q x l k)

  -- in a shut-down: the next entry, or 0
  from_down : (i q : ℕ) (x : State) → suc i ≤ DD c → move (unit_of c) (Fall i) q ≡ some x → Lands c q (down (suc i)) x
  unfolding unit_of move fallen sunk
  from_down i q x a k = go (ltb (i + 1) (DD c)) refl out (follow_fall (unit_of c) i q x k)
    where
      out : q ≡ sunk (unit_of c) (i + 1)
      out =
          eqb-true q (sunk (unit_of c) (i + 1))
          (only_some (eqb q (sunk (unit_of c) (i + 1))) (some (fallen (unit_of c) (i + 1))) x k).0

      go : (b : Bool) → ltb (i + 1) (DD c) ≡ b → q ≡ cond b (pd_at (unit_of c) (i + 1)) 0
          → cond b (Fall (i + 1)) (idle 1) ≡ x → Lands c q (down (suc i)) x
      go true e o f =
          let more : suc i < DD c = omega (arith, ltb-true (i + 1) (DD c) e) in
          let here = o ∙ ap (λ n. pd_at (unit_of c) n) (add-one i) ∙ pd_at_is c lim (suc i) more in
          lands (down (suc (suc i))) (sink (suc i) here more) (ap Fall (omega arith) ∙ f)
      go false e o f =
          let rest = lim.mindown_pos in
          lands (off 1) (land (suc i) o (omega (arith, ltb-false (i + 1) (DD c) e))) (ap idle (omega arith) ∙ f)

  pub move_step : (q : ℕ) (s : St) (x : State) → Good c s → move (unit_of c) (image c s) q ≡ some x → Lands c q s x
  move_step q (off d) x g k = from_off d q x k
  move_step q (up zero) x g k = absurd (omega (arith, g.0))
  move_step q (up (suc i)) x g k = from_up i q x g.1 k
  move_step q (run r w) x g k = from_run r w q x k
  move_step q (down zero) x g k = absurd (omega (arith, g.0))
  move_step q (down (suc i)) x g k = from_down i q x g.1 k
