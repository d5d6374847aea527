-- The first breach of a day, as it is looked for hour by hour. Assumes nothing.
use mathlib.Core.Path.{◌≡◌, refl, sym, ap, ◌∙◌}
use mathlib.Core.List.{List}
use mathlib.Core.Option.{none, some}
use Prim.Native.Nat.{ℕ, ◌+◌, ◌-◌, ◌≤◌, ◌<◌}
use native.Mathlib.Omega.{arith}
use Rattle.std.specs.Prelude.{Some, None}
use Rattle.cases.specs.declared.Case.{Case}
use Rattle.cases.specs.declared.Breach.{Breach}
use Rattle.day.specs.Marks.{y}
use Rattle.day.specs.Rules.{broken_at, breach_from, breach}
use Rattle.day.proofs.BreachLaws.{breach_is, breach_from_none, breach_from_kept, breach_from_broken}
use Rattle.broken.specs.declared.times.Since.{Since}
use Rattle.broken.specs.Elapsed.{Held, Elapsed}
use Rattle.rules.specs.Found.{found}

pub found_none : found None ≡ none
unfolding found
found_none = refl

pub found_some : (b : Breach) → found (Some b) ≡ some b
unfolding found
found_some b = refl

-- the breach of an hour that breaks rule r
abbrev at : ℕ → ℕ → Breach
at k r = record { hour = record { 0 = k }; rule = r }

-- hours from 1 on that are looked at: those of the day, and those in which a stop after it may stand
abbrev pub reach : Case → ℕ
reach c = c.hours + c.falls - 1

module _ (c : Case) (l : List ℕ) where
  pub broken_here : (k n r : ℕ) → r ≡ broken_at c l k → (r ≡ 0 → ⊥) → breach_from c l k (n + 1) ≡ found (Some (at k r))
  broken_here k n r e m =
      breach_from_broken c l k n (λ z. m (e ∙ z)) ∙ ap (λ x. some (at k x)) (sym e) ∙ sym (found_some (at k r))

  -- hour 0, and then the hours from 1 on
  module _ (some : 1 ≤ c.falls) where
    hours_from : breach c l ≡ breach_from c l 0 (reach c + 1)
    hours_from = breach_is c l ∙ ap (breach_from c l 0) (omega arith)

    pub broken_edge : (r : ℕ) → r ≡ broken_at c l 0 → (r ≡ 0 → ⊥) → breach c l ≡ found (Some (at 0 r))
    broken_edge r e m = hours_from ∙ broken_here 0 (reach c) r e m

    pub kept_edge : broken_at c l 0 ≡ 0 → breach c l ≡ breach_from c l 1 (reach c)
    kept_edge e = hours_from ∙ breach_from_kept c l 0 (reach c) e

-- n hours from hour a on are looked at; none up to hour k − 1 breaks a rule
pub record Onward (c : Case) (l : List ℕ) (a n k : ℕ) : Type 0 where
  pub from : a ≤ k
  pub part : k ≤ a + n
  pub onward : breach_from c l a n ≡ breach_from c l k (a + n - k)

module _ {c : Case} {l : List ℕ} {a n : ℕ} where
  pub onward_start : Onward c l a n a
  onward_start =
      record { from = omega arith; part = omega arith; onward = ap (breach_from c l a) (omega arith) }

  module _ {k : ℕ} (h : Onward c l a n k) where
    next : k < a + n → breach_from c l a n ≡ breach_from c l k (a + n - k - 1 + 1)
    next m = h.onward ∙ ap (breach_from c l k) (omega arith)

    pub onward_step : k < a + n → broken_at c l k ≡ 0 → Onward c l a n (k + 1)
    onward_step m e =
        record {
          from = omega (arith, h.from);
          part = omega arith;
          onward = next m ∙ breach_from_kept c l k (a + n - k - 1) e ∙ ap (breach_from c l (k + 1)) (omega arith);
        }

    pub onward_broken : (r : ℕ) → k < a + n → r ≡ broken_at c l k → (r ≡ 0 → ⊥)
        → breach_from c l a n ≡ found (Some (at k r))
    onward_broken r m e f = next m ∙ broken_here c l k (a + n - k - 1) r e f

    pub onward_end : a + n ≤ k → breach_from c l a n ≡ found None
    onward_end m =
        h.onward ∙ ap (breach_from c l k) (let e : a + n - k ≡ 0 = omega arith in e)
        ∙ breach_from_none c l k ∙ sym found_none

-- the hours of the day up to hour k − 1 break no rule, with the hours since the latest start and stop
pub record Kept (c : Case) (l : List ℕ) (k : ℕ) (s : Since) : Type 0 where
  pub some : 0 < k
  pub inside : k ≤ c.hours + 1
  pub hours : Onward c l 1 (reach c) k
  pub elapsed : Elapsed c l k s

-- those after it up to hour k − 1 break none either, with the hours since the latest start
pub record KeptLate (c : Case) (l : List ℕ) (k since : ℕ) : Type 0 where
  pub past : c.hours < k
  pub hours : Onward c l (c.hours + 1) (c.falls - 1) k
  pub held : Held c (y c l) k since
