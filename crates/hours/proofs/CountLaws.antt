-- Running counts: a sum of marks is the difference of two of them. Assumes nothing.
use mathlib.Core.Path.{◌≡◌, refl, sym, ap, ◌∙◌, subst}
use mathlib.Core.List.{List}
use Prim.Native.Nat.{ℕ, zero, suc, ◌+◌, ◌-◌, ◌≤◌, ◌<◌}
use native.Mathlib.Numerals.{add-one}
use native.Mathlib.Omega.{arith}
use lib.ListN.{length, get_or, set, replicate, length-set, length-replicate}
use lib.Seq.{get_or-set_same, get_or-set_other}
use native.Mathlib.Decide.{ℕ_discrete}
use Rattle.cases.specs.Symbols.{sum}
use Rattle.cases.proofs.SymbolsLaws.{sum_suc}
use Rattle.day.proofs.ConstraintsLaws.{sum_zero}
use Rattle.hours.specs.Counted.{counts_length, last_count, counted, Running}

module _ (f : ℕ → ℕ) where
  pub counted_zero : counted f 0 ≡ 0
  unfolding counted
  counted_zero = refl

  pub counted_more : (k : ℕ) → counted f (k + 1) ≡ counted f k + f k
  unfolding counted
  counted_more k = rw add-one refl

  -- the marks of n hours from hour k on
  pub counted_on : (k n : ℕ) → counted f (k + n) ≡ counted f k + sum (λ i. f (k + i - 1)) n
  counted_on k zero =
      let same : counted f (k + 0) ≡ counted f k = ap (counted f) (omega arith) in
      omega (arith, sum_zero (λ i. f (k + i - 1)))
  counted_on k (suc n) =
      let here : f (k + suc n - 1) ≡ f (k + n) = ap f (omega arith) in
      let far : counted f (k + suc n) ≡ counted f (k + n + 1) = ap (counted f) (omega arith) in
      omega (arith, counted_on k n, counted_more (k + n), sum_suc (λ i. f (k + i - 1)) n)

  -- the marks of n hours before hour k, where hour 0 has none
  pub counted_back : f 0 ≡ 0 → (k n : ℕ) → counted f k ≡ counted f (k - n) + sum (λ i. f (k - i)) n
  counted_back o k zero =
      let same : counted f (k - 0) ≡ counted f k = ap (counted f) (omega arith) in
      omega (arith, sum_zero (λ i. f (k - i)))
  counted_back o k (suc n) = go (k - n) refl (counted_back o k n)
    where
      go : (m : ℕ) → k - n ≡ m → counted f k ≡ counted f (k - n) + sum (λ i. f (k - i)) n
          → counted f k ≡ counted f (k - suc n) + sum (λ i. f (k - i)) (suc n)
      go zero e more =
          let none : f (k - suc n) ≡ 0 = ap f (omega arith) ∙ o in
          let same : counted f (k - suc n) ≡ counted f (k - n) = ap (counted f) (omega arith) in
          omega (arith, sum_suc (λ i. f (k - i)) n)
      go (suc m) e more =
          let same : counted f (k - n) ≡ counted f (k - suc n + 1) = ap (counted f) (omega arith) in
          omega (arith, counted_more (k - suc n), sum_suc (λ i. f (k - i)) n)

  -- no hour is marked twice
  module _ (once : (k : ℕ) → f k ≤ 1) where
    pub counted_apart : (k n : ℕ) → (counted f k ≤ counted f (k + n)) × (counted f (k + n) ≤ counted f k + n)
    counted_apart k zero = let e : counted f (k + 0) ≡ counted f k = ap (counted f) (omega arith) in omega arith
    counted_apart k (suc n) =
        let e : counted f (k + suc n) ≡ counted f (k + n + 1) = ap (counted f) (omega arith) in
        omega (arith, counted_apart k n, counted_more (k + n), once (k + n))

module _ {f : ℕ → ℕ} where
  -- the marks from hour a to before hour b
  pub running_between : {n : ℕ} {xs : List ℕ} → Running f n xs → (a b : ℕ) → a ≤ b → b ≤ n
      → (get_or xs a 0 ≤ get_or xs b 0) × (get_or xs b 0 - get_or xs a 0 ≡ counted f b - counted f a)
  running_between r a b h m =
      let at_a = r.at a (omega arith) in
      let at_b = r.at b m in
      let same : counted f (a + (b - a)) ≡ counted f b = ap (counted f) (omega arith) in
      let apart = counted_apart f r.once a (b - a) in
      (omega arith, omega arith)

-- x marks of f before hour k, and the places up to place k, as they are written over zeros
pub record Counting (f : ℕ → ℕ) (k x : ℕ) (xs : List ℕ) : Type 0 where
  pub here : x ≡ counted f k
  pub places : Running f k xs

module _ {f : ℕ → ℕ} where
  pub counting_start : {xs : List ℕ} → xs ≡ replicate counts_length 0 → f 0 ≡ 0 → ((k : ℕ) → f k ≤ 1)
      → Counting f 1 0 xs
  counting_start {xs} e o u =
      record {
        here = omega (arith, counted_zero f, counted_more f 0);
        places = record { long = ap length e ∙ length-replicate {A = ℕ} counts_length 0; none = o; once = u; at = at };
      }
    where
      at : (k : ℕ) → k ≤ 1 → get_or xs k 0 ≡ counted f k
      at zero m = ap (λ l. get_or l 0 0) e ∙ sym (counted_zero f)
      at (suc zero) m = ap (λ l. get_or l 1 0) e ∙ omega (arith, counted_zero f, counted_more f 0)
      at (suc (suc k)) m = absurd (omega arith)

  module _ {k x : ℕ} {xs : List ℕ} (c : Counting f k x xs) where
    pub counting_step : (m : ℕ) → k < last_count → m ≡ f k → Counting f (k + 1) (x + m) (set xs (k + 1) (x + m))
    counting_step m h e =
        record {
          here = here;
          places = record {
            long = length-set xs (k + 1) (x + m) ∙ c.places.long;
            none = c.places.none;
            once = c.places.once;
            at = λ i l. go i l (ℕ_discrete i (k + 1));
          };
        }
      where
        here : x + m ≡ counted f (k + 1)
        here = omega (arith, c.here, counted_more f k)

        go : (i : ℕ) → i ≤ k + 1 → Dec (i ≡ k + 1) → get_or (set xs (k + 1) (x + m)) i 0 ≡ counted f i
        go i l (yes q) =
            let room : k + 1 < length xs = omega (arith, c.places.long) in
            ap (λ j. get_or (set xs (k + 1) (x + m)) j 0) q
            ∙ get_or-set_same xs (k + 1) (x + m) 0 room
            ∙ here
            ∙ ap (counted f) (sym q)
        go i l (no q) = get_or-set_other xs (k + 1) i (x + m) 0 q ∙ c.places.at i (omega arith)

    pub counting_few : x ≤ k
    counting_few =
        let from : counted f (0 + k) ≡ counted f k = ap (counted f) (omega arith) in
        omega (arith, c.here, counted_apart f c.places.once 0 k, counted_zero f)

    pub counting_end : k ≡ last_count → Running f last_count xs
    counting_end e = subst (λ n. Running f n xs) e c.places
