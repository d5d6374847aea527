-- The numbers of an hour as the source has them. Assumes nothing.
use mathlib.Core.Path.{◌≡◌, sym, ap, ◌∙◌}
use mathlib.Core.List.{List}
use Prim.Native.Nat.{ℕ, ◌+◌, ◌*◌, ◌-◌, ◌≤◌}
use native.Mathlib.Omega.{arith}
use Rattle.cases.specs.declared.Case.{Case}
use Rattle.quantities.specs.declared.Output.{Output}
use Rattle.cases.specs.Limits.{most_stages}
use Rattle.cases.specs.Symbols.{sum, stage, UD, DD}
use Rattle.day.specs.Marks.{y_back, z}
use Rattle.day.specs.Constraints.{stopping, stops_within}
use Rattle.cases.proofs.SymbolsLaws.{sum_same}
use Rattle.day.proofs.MarksLaws.{z_zero}
use Rattle.day.proofs.ConstraintsLaws.{starting_is, start_output_is, stop_output_is, stops_within_is, stopping_is}
use Rattle.hours.specs.declared.marks.Marks.{Marks}
use Rattle.hours.specs.declared.stages.Sequence.{Sequence}
use Rattle.hours.specs.declared.Numbers.{Numbers}
use Rattle.hours.specs.Counted.{counted, start_of}
use Rattle.hours.specs.Numbered.{sequence_at, numbers_at}
use Rattle.hours.proofs.CountLaws.{counted_on, counted_back}
use Rattle.hours.proofs.StartsLaws.{start_back}

abbrev pub megawatts : ℕ → Output
megawatts n = record { 0 = n }

pub sequence_of : {a b : ℕ} {o p : Output} → a ≡ b → o.0 ≡ p.0
    → ◌≡◌ {A = Sequence} (record { marks = a; output = o }) (record { marks = b; output = p })
sequence_of {a} {b} {o} {p} x y = let e : o ≡ p = ap megawatts y in cc

pub numbers_of : {o p e f : Output} {m n : Marks} {s t u w : Sequence} {a b d g : ℕ} → o ≡ p → e ≡ f → m ≡ n → s ≡ t
    → u ≡ w → a ≡ b → d ≡ g
    → ◌≡◌ {A = Numbers}
    (record { output = o; earlier = e; marks = m; startup = s; shutdown = u; falling = a; meeting = d })
    (record { output = p; earlier = f; marks = n; startup = t; shutdown = w; falling = b; meeting = g })
numbers_of o e m s u a d = cc

module _ (c : Case) (l : List ℕ) where
  -- stops in n hours from hour k
  pub stops_are : (k n : ℕ) → counted (z c l) (k + n) - counted (z c l) k ≡ stops_within c l n k
  stops_are k n = omega (arith, counted_on (z c l) k n, stops_within_is c l n k)

  -- the stops of a shut-down's hours, from the last
  stopping_are : (k : ℕ) → sum (λ i. z c l (k + DD c + 1 - i)) (DD c) ≡ stopping c l k
  stopping_are k =
      let back = counted_back (z c l) (z_zero c l) (k + DD c + 1) (DD c) in
      let f = counted (z c l) in
      let start : f (k + DD c + 1 - DD c) ≡ f (k + 1) = ap f (omega arith) in
      let end : f (k + 1 + DD c) ≡ f (k + DD c + 1) = ap f (omega arith) in
      omega (arith, back, stops_are (k + 1) (DD c), stopping_is c l k)

  pub startup_is : UD c ≤ most_stages → (k : ℕ)
      → sequence_at (start_of c l) c.rise (UD c) (k + most_stages) ≡ (numbers_at c l k).startup
  startup_is few k =
      let here : (i : ℕ) → i ≤ UD c → start_of c l (k + most_stages + 1 - i) ≡ y_back c l k i =
      λ i b. start_back c l k i (omega arith) in
      sequence_of
      (sum_same (λ i. start_of c l (k + most_stages + 1 - i)) (λ i. y_back c l k i) (UD c) (λ i a b. here i b)
      ∙ sym (starting_is c l k))
      (sum_same (λ i. stage c.rise i * start_of c l (k + most_stages + 1 - i)) (λ i. stage c.rise i * y_back c l k i)
      (UD c) (λ i a b. ap (λ x. stage c.rise i * x) (here i b))
      ∙ sym (start_output_is c l k))

  pub shutdown_is : (k : ℕ) → sequence_at (z c l) c.fall (DD c) (k + DD c) ≡ (numbers_at c l k).shutdown
  shutdown_is k = sequence_of (stopping_are k) (sym (stop_output_is c l k))
