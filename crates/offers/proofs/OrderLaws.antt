-- Which of two lists comes before the other by what they earn. Assumes nothing.
use mathlib.Core.Path.{◌≡◌}
use mathlib.Core.Bool.{true, false}
use mathlib.Core.List.{List}
use Prim.Native.Nat.{ℕ}
use lib.IntN.{ℤ}
use lib.Signed.{lt_z}
use Rattle.laws.proofs.Signed.{linear}
use Rattle.model.specs.Best.{lower, leads}
use Rattle.model.proofs.LeadsLaws.{leads_of_more, leads_of_less, leads_of_equal}

-- by what two lists earn
module _ (earns : List ℕ → ℤ) (l m : List ℕ) {x y : ℤ} (d : x ≡ earns l) (e : y ≡ earns m) where
  pub ahead : lt_z y x ≡ true → leads earns l m ≡ true
  ahead t = leads_of_more earns l m (omega linear)

  pub behind : lt_z x y ≡ true → leads earns l m ≡ false
  behind t = leads_of_less earns l m (omega linear)

  pub level : lt_z y x ≡ false → lt_z x y ≡ false → leads earns l m ≡ lower l m
  level s t = leads_of_equal earns l m (omega linear)
