-- One hour's constraints, once the windows of starts and stops around it are known: the sums become the place of the
-- one start or stop. Assumes nothing.
use mathlib.Core.Path.{◌≡◌, refl, ◌∙◌, ap}
use Prim.Native.Nat.{ℕ, zero, suc, ◌+◌, ◌*◌, ◌-◌, ◌≤◌}
use native.Mathlib.Omega.{arith}
use Rattle.cases.specs.declared.Case.{Case}
use Rattle.cases.specs.Symbols.{sum, UD, DD, PU, PD}
use Rattle.cases.proofs.SymbolsLaws.{sum_same}
use Rattle.day.proofs.LiteralLaws.{Hour, Open}
use Rattle.day.proofs.Automaton.Hours.{on, back, later}
use Rattle.day.proofs.Automaton.Windows.{Win, win_sum0, win_sum1, win_wsum0, win_wsum1, win_rev0, win_rev1}

pub on_le : (n : ℕ) → on n ≤ 1
on_le zero = omega arith
on_le (suc n) = omega arith

-- f at the place t, and 0 where there is no place
abbrev pub placed : (ℕ → ℕ) → ℕ → ℕ
placed f zero = 0
placed f (suc t) = f (suc t)

-- the output of the shut-down trajectory t hours before its stop
abbrev pub fall_at : Case → ℕ → ℕ
fall_at U t = PD U (suc (DD U) - t)

module _ {n : ℕ} {f : ℕ → ℕ} where
  pub win_sum : (t : ℕ) → Win n f t → sum f n ≡ on t
  win_sum zero w = win_sum0 w
  win_sum (suc t) w = win_sum1 w (omega arith)

  win_wsum : (t : ℕ) → Win n f t → (c : ℕ → ℕ) → sum (λ i. c i * f i) n ≡ placed c t
  win_wsum zero w c = win_wsum0 w c
  win_wsum (suc t) w c = win_wsum1 w (omega arith) c

  win_rsum : (t : ℕ) → Win n f t → (r c : ℕ → ℕ) → ((i : ℕ) → 1 ≤ i → i ≤ n → r i ≡ f (suc n - i))
      → sum (λ i. c i * r i) n ≡ placed (λ j. c (suc n - j)) t
  win_rsum zero w r c e = win_wsum0 (win_rev0 w r e refl) c
  win_rsum (suc t) w r c e = win_wsum1 (win_rev1 w r e (omega arith)) (omega (arith, w.fits)) c

-- an hour's constraints at the places a and t of the start and the stop in its windows, s that of the stop in the
-- window one hour before
abbrev pub Now : Case → ℕ → ℕ → ℕ → ℕ → ℕ → ℕ → ℕ → ℕ → Type 0
Now U p q y z a t s b =
    Hour U p q (on p) (on q) y z (on a) (placed (PU U) a) (on t) (placed (fall_at U) t) (on s) b

pub sum_before : (z : ℕ → ℕ) (m n t : ℕ) → Win n (later z m) t → sum (λ i. z (suc m + i - 1)) n ≡ on t
sum_before z m n t w =
    sum_same (λ i. z (suc m + i - 1)) (later z m) n (λ i c d. ap z (omega arith)) ∙ win_sum t w

module _ (U : Case) (past p y z : ℕ → ℕ) (m : ℕ) {a t s : ℕ} (wa : Win (UD U) (back past y (suc m)) a)
    (wt : Win (DD U) (later z (suc m)) t) (ws : Win (DD U) (later z m) s) where
  stop_sum : sum (λ i. PD U i * z (suc m + DD U + 1 - i)) (DD U) ≡ placed (fall_at U) t
  stop_sum = win_rsum t wt (λ i. z (suc m + DD U + 1 - i)) (PD U) (λ i c d. ap z (omega arith))

  abbrev Sums : ℕ → Type 0
  Sums b = Hour U (p (suc m)) (p m) (on (p (suc m))) (on (p m)) (y (suc m)) (z (suc m))
      (sum (λ i. back past y (suc m) i) (UD U)) (sum (λ i. PU U i * back past y (suc m) i) (UD U))
      (sum (λ i. z (suc m + i)) (DD U)) (sum (λ i. PD U i * z (suc m + DD U + 1 - i)) (DD U))
      (sum (λ i. z (suc m + i - 1)) (DD U)) b

  pub now_of_sums : {b : ℕ} → Sums b → Now U (p (suc m)) (p m) (y (suc m)) (z (suc m)) a t s b
  now_of_sums h =
      rw (win_sum a wa, win_wsum a wa (PU U), win_sum t wt, stop_sum, sum_before z m (DD U) s ws) at h

  pub sums_of_now : {b : ℕ} → Now U (p (suc m)) (p m) (y (suc m)) (z (suc m)) a t s b → Sums b
  sums_of_now h = rw (win_sum a wa, win_wsum a wa (PU U), win_sum t wt, stop_sum, sum_before z m (DD U) s ws) h

-- hour 0
abbrev pub Now0 : Case → ℕ → ℕ → ℕ → Type 0
Now0 U p a t = Open U p (on p) (on a) (on t) (placed (fall_at U) t)

module _ (U : Case) (past p y z : ℕ → ℕ) {a t : ℕ} (wa : Win (UD U) (back past y 0) a)
    (wt : Win (DD U) (later z 0) t) where
  stop_sum0 : sum (λ i. PD U i * z (0 + DD U + 1 - i)) (DD U) ≡ placed (fall_at U) t
  stop_sum0 = win_rsum t wt (λ i. z (0 + DD U + 1 - i)) (PD U) (λ i c d. ap z (omega arith))

  abbrev Sums0 : Type 0
  Sums0 = Open U (p 0) (on (p 0)) (sum (λ i. back past y 0 i) (UD U)) (sum (λ i. z (0 + i)) (DD U))
      (sum (λ i. PD U i * z (0 + DD U + 1 - i)) (DD U))

  pub now_of_sums0 : Sums0 → Now0 U (p 0) a t
  now_of_sums0 h = rw (win_sum a wa, win_sum t wt, stop_sum0) at h

  pub sums_of_now0 : Now0 U (p 0) a t → Sums0
  sums_of_now0 h = rw (win_sum a wa, win_sum t wt, stop_sum0) h
