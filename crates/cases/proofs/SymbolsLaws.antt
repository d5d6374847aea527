-- The source's sums: by their terms, with no term but one, and above each term; entries of a record by place.
-- Assumes nothing.
use mathlib.Core.Path.{◌≡◌, refl, ap}
use mathlib.Core.Logic.{◌≢◌}
use mathlib.Core.List.{List}
use Prim.Native.Nat.{ℕ, zero, suc, ◌+◌, ◌≤◌}
use native.Mathlib.Decide.{ℕ_discrete}
use native.Mathlib.Omega.{arith}
use lib.IntN.{pos}
use lib.ListN.{get_or}
use Rattle.quantities.specs.declared.Output.{Output}
use Rattle.quantities.specs.declared.Mills.{Mills}
use Rattle.cases.specs.Symbols.{sum, stage, hourly, priced}
use mathlib.Core.Path.{◌∙◌}
use Prim.Native.Nat.{◌-◌, ◌<◌}
use Rattle.cases.specs.Symbols.{before}

pub sum_suc : (f : ℕ → ℕ) (n : ℕ) → sum f (suc n) ≡ sum f n + f (suc n)
unfolding sum
sum_suc f n = refl

-- a sum depends on its terms alone
pub sum_same : (f g : ℕ → ℕ) (n : ℕ) → ((i : ℕ) → 1 ≤ i → i ≤ n → f i ≡ g i) → sum f n ≡ sum g n
unfolding sum
sum_same f g zero h = refl
sum_same f g (suc n) h =
    omega (arith, sum_same f g n (λ i a b. h i a (omega arith)), h (suc n) (omega arith) (omega arith))

pub sum_zeros : (f : ℕ → ℕ) (n : ℕ) → ((i : ℕ) → 1 ≤ i → i ≤ n → f i ≡ 0) → sum f n ≡ 0
unfolding sum
sum_zeros f zero h = refl
sum_zeros f (suc n) h =
    omega (arith, sum_zeros f n (λ i a b. h i a (omega arith)), h (suc n) (omega arith) (omega arith))

-- all terms are 0 but the one at t
pub sum_one : (f : ℕ → ℕ) (n t : ℕ) → 1 ≤ t → t ≤ n → ((i : ℕ) → 1 ≤ i → i ≤ n → i ≢ t → f i ≡ 0) → sum f n ≡ f t
unfolding sum
sum_one f zero t a b h = absurd (omega arith)
sum_one f (suc n) t a b h = go (λ b' h'. sum_one f n t a b' h') (ℕ_discrete (suc n) t)
  where
    go : (t ≤ n → ((i : ℕ) → 1 ≤ i → i ≤ n → i ≢ t → f i ≡ 0) → sum f n ≡ f t) → Dec (suc n ≡ t)
        → sum f n + f (suc n) ≡ f t
    go ih (yes e) = omega (arith, ap f e, sum_zeros f n (λ i c d. h i c (omega arith) (omega arith)))
    go ih (no e) =
        omega (arith, ih (omega arith) (λ i c d. h i c (omega arith)), h (suc n) (omega arith) (omega arith) e)

pub term_le_sum : (f : ℕ → ℕ) (n j : ℕ) → 1 ≤ j → j ≤ n → f j ≤ sum f n
unfolding sum
term_le_sum f zero j a b = absurd (omega arith)
term_le_sum f (suc n) j a b = go (λ b'. term_le_sum f n j a b') (ℕ_discrete (suc n) j)
  where
    go : (j ≤ n → f j ≤ sum f n) → Dec (suc n ≡ j) → f j ≤ sum f n + f (suc n)
    go ih (yes e) = omega (arith, ap f e)
    go ih (no e) = omega (arith, ih (omega arith))

-- entries counted from 1
pub stage_suc : (l : List Output) (i : ℕ) → stage l (suc i) ≡ (get_or l i (record { 0 = 0 })).0
unfolding stage
stage_suc l i = refl

pub hourly_suc : (l : List ℕ) (k : ℕ) → hourly l (suc k) ≡ get_or l k 0
unfolding hourly
hourly_suc l k = refl

pub priced_suc : (l : List Mills) (k : ℕ) → priced l (suc k) ≡ (get_or l k (record { 0 = pos 0 })).0
unfolding priced
priced_suc l k = refl

-- the hour before, and the entry of an hour
pub before_is : (k : ℕ) → before k ≡ k - 1
before_is zero = omega arith
before_is (suc k) = omega arith

pub hourly_at : (xs : List ℕ) (k : ℕ) → 0 < k → hourly xs k ≡ get_or xs (k - 1) 0
hourly_at xs k m = ap (hourly xs) (let e : k ≡ suc (k - 1) = omega arith in e) ∙ hourly_suc xs (k - 1)
