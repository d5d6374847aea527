-- The places that a sweep takes from: any of them can offer, for any place. Assumes nothing.
use Rattle.std.proofs.Common.{ℕ, ◌+◌, ◌≤◌, ◌<◌, ℤ, nat_abs, arith}
use Rattle.blocks.specs.Offers.{offer_room}
use Rattle.blocks.specs.Cuts.{Offers}
use Rattle.blocks.specs.declared.Sources.{Sources}
use Rattle.blocks.proofs.OfferLaws.{Ready, offers_abs}

module _ (o : Sources) {at b : ℕ} (h : at < o.base + o.n) (k : b ≤ o.n) where
  pub sources_ready : Ready o.old.now o.costs.now at b
  sources_ready =
      record {
        long = omega (arith, o.long);
        roomy = record { roomy = λ i m. o.roomy.roomy i (omega arith) };
        reach = omega (arith, o.reach);
        bent = o.bent;
      }

  -- an amount that a place offers
  pub sources_abs : {a : ℕ} {v : ℤ} → Offers o.old.now o.costs.now at a b v → nat_abs v ≤ offer_room
  sources_abs x = offers_abs sources_ready x
