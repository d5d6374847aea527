-- Runs through a list and on through another, on another record of the same unit, and from states that differ only in
-- counts past the minimum times. Assumes nothing.
use mathlib.Core.Path.{◌≡◌, subst}
use mathlib.Core.List.{List, [], ◌∷◌, ◌++◌}
use Prim.Native.Nat.{ℕ, suc, ◌+◌, ◌≤◌, ◌<◌, min}
use native.Mathlib.Decide.{dec_le}
use native.Mathlib.Omega.{arith}
use lib.ListN.{length}
use Rattle.cases.specs.declared.Case.{Case}
use Rattle.quantities.specs.declared.Mills.{Mills}
use Rattle.cases.specs.Layout.{Opening, opening_of, remade}
use Rattle.day.specs.Automaton.{St, off, up, run, down, Step, stay, start, start1, climb, reach, hold, leave}
use Rattle.day.specs.Automaton.{leave1, sink, land, Runs, Final}

-- ---- a list, and then another
module _ (U : Case) (last : St → Type 0) (obeys : ℕ → ℕ → Type 0) (m : List ℕ) (n : ℕ) where
  -- through the second, from hour n on
  abbrev On : St → Type 0
  On t = Runs U last obeys n t m

  pub runs_split : (l : List ℕ) (k : ℕ) (s : St) → k + length l ≡ n → Runs U last obeys k s (l ++ m)
      → Runs U On obeys k s l
  runs_split [] k s e r = subst (λ j. Runs U last obeys j s m) (let q : k ≡ n = omega arith in q) r
  runs_split (q ∷ l) k s e (t, g, o, r) = (t, g, o, runs_split l (suc k) t (omega arith) r)

  pub runs_join : (l : List ℕ) (k : ℕ) (s : St) → k + length l ≡ n → Runs U On obeys k s l
      → Runs U last obeys k s (l ++ m)
  runs_join [] k s e r = subst (λ j. Runs U last obeys j s m) (let q : n ≡ k = omega arith in q) r
  runs_join (q ∷ l) k s e (t, g, o, r) = (t, g, o, runs_join l (suc k) t (omega arith) r)

-- what holds in whatever state a run ends
pub runs_const : (U : Case) (X : Type 0) (obeys : ℕ → ℕ → Type 0) (l : List ℕ) (k : ℕ) (s : St)
    → Runs U (λ t. X) obeys k s l → X
runs_const U X obeys [] k s r = r
runs_const U X obeys (q ∷ l) k s (t, g, o, r) = runs_const U X obeys l (suc k) t r

-- ---- another record of the same unit
module _ (c : Case) (o : Opening) (prices : List Mills) (orders : List ℕ) (n : ℕ) where
  abbrev other : Case
  other = remade c o c.rise c.fall prices orders n

  pub step_to : (q : ℕ) (s t : St) → Step c q s t → Step other q s t
  step_to q s t (stay d a) = stay d a
  step_to q s t (start d a b e) = start d a b e
  step_to q s t (start1 d a b e) = start1 d a b e
  step_to q s t (climb i a b) = climb i a b
  step_to q s t (reach i a b) = reach i a b
  step_to q s t (hold r u a b e f) = hold r u a b e f
  step_to q s t (leave r u a b e f) = leave r u a b e f
  step_to q s t (leave1 r u a b e f) = leave1 r u a b e f
  step_to q s t (sink i a b) = sink i a b
  step_to q s t (land i a b) = land i a b

-- and back: the record is one of the other's unit
pub step_from : (c : Case) (o : Opening) (prices : List Mills) (orders : List ℕ) (n q : ℕ) (s t : St)
    → Step (remade c o c.rise c.fall prices orders n) q s t → Step c q s t
step_from c o prices orders n =
    step_to (remade c o c.rise c.fall prices orders n) (opening_of c) c.prices c.orders c.hours

-- a run on one record is a run on the other, where its hours are ordered alike
module _ (U W : Case) (f : (q : ℕ) (s t : St) → Step U q s t → Step W q s t) (P : St → Type 0)
    (obeys obeys' : ℕ → ℕ → Type 0) where
  pub runs_map : (l : List ℕ) (k j : ℕ) (s : St)
      → ((i q : ℕ) → i < length l → obeys (suc (k + i)) q → obeys' (suc (j + i)) q)
      → Runs U P obeys k s l → Runs W P obeys' j s l
  runs_map [] k j s h r = r
  runs_map (q ∷ l) k j s h (t, g, o, r) =
      let here : obeys' (suc (j + 0)) q = h 0 q (omega arith)
      (subst (λ x. obeys x q) (let e : suc k ≡ suc (k + 0) = omega arith in e) o) in (
        t,
        f q s t g,
        subst (λ x. obeys' x q) (let e : suc (j + 0) ≡ suc j = omega arith in e) here,
        runs_map l (suc k) (suc j) t (later h) r,
      )
    where
      later : ((i q : ℕ) → i < suc (length l) → obeys (suc (k + i)) q → obeys' (suc (j + i)) q)
          → (i q : ℕ) → i < length l → obeys (suc (suc k + i)) q → obeys' (suc (suc j + i)) q
      later h i q a x =
          subst (λ y. obeys' y q) (let e : suc (j + suc i) ≡ suc (suc j + i) = omega arith in e)
          (h (suc i) q (omega arith)
          (subst (λ y. obeys y q) (let e : suc (suc k + i) ≡ suc (k + suc i) = omega arith in e) x))

-- ---- states alike: the same, or with counts that have both reached the minimum time, a down and b up
pub data Alike (a b : ℕ) : St → St → Type 0 where
  same : (s : St) → Alike a b s s
  rested : (d e : ℕ) → a ≤ d → a ≤ e → Alike a b (off d) (off e)
  held : (r u w : ℕ) → b ≤ u → b ≤ w → Alike a b (run r u) (run r w)

-- a count that stops at `most`
pub alike_off : (a b most d e : ℕ) → a ≤ most → e ≡ min d most → Alike a b (off d) (off e)
alike_off a b most d e h q = go (dec_le d most)
  where
    go : Dec (d ≤ most) → Alike a b (off d) (off e)
    go (yes l) = subst (λ x. Alike a b (off d) (off x)) (let f : d ≡ e = omega arith in f) (same (off d))
    go (no l) = rested d e (omega arith) (omega arith)

pub alike_run : (a b most r u w : ℕ) → b ≤ most → w ≡ min u most → Alike a b (run r u) (run r w)
alike_run a b most r u w h q = go (dec_le u most)
  where
    go : Dec (u ≤ most) → Alike a b (run r u) (run r w)
    go (yes l) = subst (λ x. Alike a b (run r u) (run r x)) (let f : u ≡ w = omega arith in f) (same (run r u))
    go (no l) = held r u w (omega arith) (omega arith)

module _ (U : Case) where
  abbrev Like : St → St → Type 0
  Like = Alike U.mindown.0 U.minup.0

  alike_step : (q : ℕ) {s t x : St} → Like s x → Step U q s t → (y : St) × Step U q x y × Like t y
  alike_step q {s} {t} {x} (same r) g = (t, g, same t)
  alike_step q (rested d e a b) (stay n z) =
      (off (suc e), stay e z, rested (suc d) (suc e) (omega arith) (omega arith))
  alike_step q (rested d e a b) (start n z m u) = (up 1, start e z b u, same (up 1))
  alike_step q (rested d e a b) (start1 n z m u) = (run q 1, start1 e z b u, same (run q 1))
  alike_step q (held r u w a b) (hold n m x y z v) =
      (run q (suc w), hold r w x y z v, held q (suc u) (suc w) (omega arith) (omega arith))
  alike_step q (held r u w a b) (leave n m x y z v) = (down 2, leave r w x y (omega arith) v, same (down 2))
  alike_step q (held r u w a b) (leave1 n m x y z v) = (off 1, leave1 r w x y b v, same (off 1))

  pub alike_runs : (obeys : ℕ → ℕ → Type 0) (l : List ℕ) (k : ℕ) (s x : St) → Like s x
      → Runs U Final obeys k s l → Runs U Final obeys k x l
  alike_runs obeys [] k s x a r = tt
  alike_runs obeys (q ∷ l) k s x a (t, g, o, r) =
      let (y, h, b) = alike_step q a g in
      (y, h, o, alike_runs obeys l (suc k) t y b r)

  pub alike_back : {s x : St} → Like s x → Like x s
  alike_back (same s) = same s
  alike_back (rested d e a b) = rested e d b a
  alike_back (held r u w a b) = held r w u b a
