-- A record with other prices: what a list earns changes by what the prices differ by, over its energy. Of any earnings
-- that change so, what the best lists of two and of three rows of prices have to do with one another. Assumes nothing.
use mathlib.Core.Path.{◌≡◌, ap, subst, ◌∙◌}
use mathlib.Core.Bool.{Bool}
use mathlib.Core.List.{List}
use Prim.Native.Nat.{ℕ, zero, suc, ◌+◌, ◌*◌, ◌-◌, ◌≤◌}
use native.Mathlib.Omega.{arith}
use lib.IntN.{ℤ, pos, ◌+ℤ◌, ◌-ℤ◌, ◌*ℤ◌}
use lib.Signed.{◌≤ℤ◌}
use Rattle.laws.proofs.Signed.{linear, parts_add, parts_sub, parts_mul, parts_pos}
use Rattle.cases.specs.declared.Case.{Case}
use Rattle.quantities.specs.declared.Mills.{Mills}
use Rattle.cases.specs.Symbols.{before, priced, last, high}
use Rattle.day.specs.Marks.{p, v, y, y_back, starting, closes, z}
use Rattle.day.specs.Profit.{energy, profit_of, profit_by}
use Rattle.model.specs.Best.{Best}
use Rattle.day.specs.Words.{Marking, marking_of, sold, spent, spent_at}
use Rattle.promises.specs.Forecast.{with_prices, entry, NoLower, HalfWay, RaisedBy, RaisedAt, gain, distance}
use Rattle.promises.specs.Forecast.{energy_of}
use Rattle.cases.proofs.SymbolsLaws.{before_is}
use Rattle.day.proofs.SalesLaws.{profit_earned}
use Rattle.day.proofs.CostLaws.{profit_by_earned}
use Rattle.model.proofs.BestLaws.{best_most}
use Rattle.promises.proofs.RowsLaws.{term_cancel, sum_z_same, over_pos, over_constant, over_one, over_differ}
use Rattle.promises.proofs.RowsLaws.{over_apart}

-- ---- what a list earns
module _ (c : Case) (f g : List Mills) (l : List ℕ) where
  abbrev marks : Marking
  marks = marking_of c l

  -- half-megawatt-hours of an hour
  abbrev both : ℕ → ℕ
  both k = p c l k + p c l (k - 1)

  hour_gain : (k : ℕ) → 1 ≤ k
      → (priced g k -ℤ priced f k) *ℤ pos (both k) ≡ (entry g k -ℤ entry f k) *ℤ pos (energy c l k)
  unfolding priced energy
  hour_gain zero h = absurd (omega arith)
  hour_gain (suc k) h = let e : suc k - 1 ≡ k = omega arith in rw e

  sold_gain : sold (with_prices c g) marks ≡ sold (with_prices c f) marks +ℤ gain c f g l
  sold_gain =
      over_differ both (priced f) (priced g) (last c)
      ∙ ap (λ x. sold (with_prices c f) marks +ℤ x) (sum_z_same _ _ (last c) (λ k a b. hour_gain k a))

  -- what is left of two sums after the same costs differs as the sums do
  left : (r : ℤ) {x y : ℤ} → x ≡ sold (with_prices c f) marks -ℤ r → y ≡ sold (with_prices c g) marks -ℤ r
      → y ≡ x +ℤ gain c f g l
  left r {x} {y} a b =
      let (s, t) : ℤ × ℤ = (sold (with_prices c f) marks, sold (with_prices c g) marks) in
      omega (linear, sold_gain, parts_sub s r, parts_sub t r, parts_add s (gain c f g l), parts_add x (gain c f g l))

  pub profit_of_gain : profit_of (with_prices c g) l ≡ profit_of (with_prices c f) l +ℤ gain c f g l
  unfolding p v y z closes starting y_back
  profit_of_gain = left (spent c marks) (profit_earned (with_prices c f) l) (profit_earned (with_prices c g) l)

  pub profit_by_gain : (cost : ℕ → ℤ)
      → profit_by cost (with_prices c g) l ≡ profit_by cost (with_prices c f) l +ℤ gain c f g l
  unfolding p v y z closes starting y_back
  profit_by_gain cost = left (spent_at cost c marks) (profit_by_earned cost (with_prices c f) l)
      (profit_by_earned cost (with_prices c g) l)

-- ---- what rows differ by, over the energy of a list
module _ (c : Case) (l : List ℕ) where
  pub gain_no_lower : (f g : List Mills) → NoLower c f g → pos 0 ≤ℤ gain c f g l
  gain_no_lower f g h =
      over_pos (energy c l) (λ k. entry g k -ℤ entry f k) (last c)
      (λ k a b. omega (linear, h k a b, parts_sub (entry g k) (entry f k), parts_pos 0))

  gain_half_way : (f g e : List Mills) → HalfWay c f g e → gain c f e l ≡ gain c e g l
  gain_half_way f g e h =
      sum_z_same _ _ (last c) (λ k a b. ap (λ x. x *ℤ pos (energy c l k)) (hour k (h k a b)))
    where
      hour : (k : ℕ) → entry e k *ℤ pos 2 ≡ entry f k +ℤ entry g k → entry e k -ℤ entry f k ≡ entry g k -ℤ entry e k
      hour k q =
          omega (
            linear,
            q,
            parts_mul (entry e k) 2,
            parts_add (entry f k) (entry g k),
            parts_sub (entry e k) (entry f k),
            parts_sub (entry g k) (entry e k),
          )

  gain_raised : (d : ℕ) (f g : List Mills) → RaisedBy c d f g → gain c f g l ≡ pos (d * energy_of c l)
  gain_raised d f g h =
      over_constant (energy c l) (λ k. entry g k -ℤ entry f k) d (last c)
      (λ k a b. omega (linear, h k a b, parts_add (entry f k) (pos d), parts_sub (entry g k) (entry f k)))

  gain_raised_at : (j : ℕ) (f g : List Mills) → RaisedAt c j f g
      → gain c f g l ≡ (entry g j -ℤ entry f j) *ℤ pos (energy c l j)
  gain_raised_at j f g h =
      over_one (energy c l) (λ k. entry g k -ℤ entry f k) (last c) j h.inside.0 h.inside.1
      (λ k a b n. omega (linear, h.same k a b n, parts_sub (entry g k) (entry f k), parts_pos 0))

-- over the energy of two lists, within the capacity
pub gain_apart : (c : Case) (f g : List Mills) (l m : List ℕ) → ((k : ℕ) → k ≤ last c → p c l k ≤ high c)
    → ((k : ℕ) → k ≤ last c → p c m k ≤ high c)
    → gain c f g m ≤ℤ (gain c f g l +ℤ pos (2 * high c * distance c f g))
unfolding energy
gain_apart c f g l m a b =
    over_apart (λ k. entry g k -ℤ entry f k) (2 * high c) (energy c m) (energy c l) (last c)
    (λ k _ h. let i : before k ≤ last c = omega (arith, before_is k) in
    (omega (arith, b k h, b (before k) i), omega (arith, a k h, a (before k) i)))

-- ---- the best lists, by earnings that change with the prices by what these differ by, over the energy
module _ (c : Case) (passes : List ℕ → Bool) (earns : List Mills → List ℕ → ℤ)
    (gains : (f g : List Mills) (l : List ℕ) → earns g l ≡ earns f l +ℤ gain c f g l) where
  -- two rows: at the second, what the best list of either earns by what it earns at the first
  module _ (f g : List Mills) {l m : List ℕ} (at_f : Best passes (earns f) l) (at_g : Best passes (earns g) m) where
    best_gain : (earns f l +ℤ gain c f g l) ≤ℤ earns g m
    best_gain = subst (λ x. x ≤ℤ earns g m) (gains f g l) (best_most at_g at_f.kept)

    best_within : earns g m ≤ℤ (earns f l +ℤ gain c f g m)
    best_within =
        omega (
          linear,
          gains f g m,
          best_most at_f at_g.kept,
          parts_add (earns f m) (gain c f g m),
          parts_add (earns f l) (gain c f g m),
        )

    pub best_no_lower : NoLower c f g → earns f l ≤ℤ earns g m
    best_no_lower h =
        omega (linear, best_gain, gain_no_lower c l f g h, parts_add (earns f l) (gain c f g l), parts_pos 0)

    -- the first, at the prices of the second
    pub best_regret : earns g m ≤ℤ (earns g l +ℤ (gain c f g m -ℤ gain c f g l))
    best_regret =
        omega (
          linear,
          best_within,
          gains f g l,
          parts_add (earns f l) (gain c f g m),
          parts_add (earns f l) (gain c f g l),
          parts_sub (gain c f g m) (gain c f g l),
          parts_add (earns g l) (gain c f g m -ℤ gain c f g l),
        )

    -- what the rows differ by comes to no less over the energy of the second
    best_follows : gain c f g l ≤ℤ gain c f g m
    best_follows =
        omega (
          linear,
          best_gain,
          best_within,
          parts_add (earns f l) (gain c f g l),
          parts_add (earns f l) (gain c f g m),
        )

    pub best_raised_at : (j : ℕ) → RaisedAt c j f g → energy c l j ≤ energy c m j
    best_raised_at j h =
        let x = entry g j -ℤ entry f j in
        term_cancel x (energy c l j) (energy c m j)
        (omega (linear, h.higher, parts_sub (entry g j) (entry f j), parts_pos 0))
        (rw (← gain_raised_at c l j f g h, ← gain_raised_at c m j f g h) best_follows)

    pub best_raised : (d : ℕ) → RaisedBy c d f g
        → ((earns f l +ℤ pos (d * energy_of c l)) ≤ℤ earns g m)
        × (earns g m ≤ℤ (earns f l +ℤ pos (d * energy_of c m)))
        × (1 ≤ d → energy_of c l ≤ energy_of c m)
    best_raised d h =
        let of_l = gain_raised c l d f g h in
        let of_m = gain_raised c m d f g h in (
          rw (← of_l) best_gain,
          rw (← of_m) best_within,
          λ some. term_cancel (pos d) (energy_of c l) (energy_of c m) (omega (linear, parts_pos 0, parts_pos d))
              (omega (linear, best_follows, of_l, of_m)),
        )

  -- three rows: what a list earns half way is half of what it earns at the two
  pub earns_half_way : (f g e : List Mills) → HalfWay c f g e → (l : List ℕ)
      → earns e l *ℤ pos 2 ≡ earns f l +ℤ earns g l
  earns_half_way f g e h l =
      omega (
        linear,
        gains f e l,
        gains e g l,
        gain_half_way c l f g e h,
        parts_add (earns f l) (gain c f e l),
        parts_add (earns e l) (gain c e g l),
        parts_mul (earns e l) 2,
        parts_add (earns f l) (earns g l),
      )

  pub best_half_way : (f g e : List Mills) {l m n : List ℕ} → HalfWay c f g e → Best passes (earns f) l
      → Best passes (earns g) m → Best passes (earns e) n → (earns e n *ℤ pos 2) ≤ℤ (earns f l +ℤ earns g m)
  best_half_way f g e {l} {m} {n} h a b d =
      omega (
        linear,
        earns_half_way f g e h n,
        best_most a d.kept,
        best_most b d.kept,
        parts_add (earns f n) (earns g n),
        parts_add (earns f l) (earns g m),
      )
