-- A struct may hold that an hour's amounts are within their limits: any two proofs of it are equal. Assumes nothing.
use mathlib.Core.Path.{◌≡◌, ap}
use mathlib.Core.Logic.{◌⊎◌, inl, inr}
use native.Mathlib.Omega.{arith}
use Prim.Native.Nat.{ℕ, ◌<◌}
use Rattle.std.proofs.Props.{props as std}

-- one of two facts that exclude each other
either-prop : {P Q : Type 0} → IsProp P → IsProp Q → (P → Q → ⊥) → IsProp (P ⊎ Q)
either-prop p q apart (inl a) (inl b) = ap inl (p a b)
either-prop p q apart (inl a) (inr b) = absurd (apart a b)
either-prop p q apart (inr a) (inl b) = absurd (apart b a)
either-prop p q apart (inr a) (inr b) = ap inr (q a b)

pub long-prop : {n m : ℕ} → IsProp ((n ≡ 0) ⊎ (m < n))
long-prop = either-prop (Prim.hlevel std) (Prim.hlevel std) (λ a b. omega arith)

pub ruleset props = (long-prop, std)
