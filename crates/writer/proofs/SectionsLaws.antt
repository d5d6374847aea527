-- The sections of a case in the newest form, entry by entry. Assumes nothing.
use mathlib.Core.Path.{◌≡◌, refl}
use mathlib.Core.List.{[], ◌∷◌}
use Prim.Native.Nat.{◌<◌}
use native.Mathlib.Omega.{arith}
use lib.ListN.{get_or}
use Rattle.cases.specs.declared.Case.{Case}
use Rattle.quantities.specs.Widths.{words}
use Rattle.cases.specs.Forms.{newest}
use Rattle.cases.specs.Layout.{joined, bytes, no_output, no_mills, unsigned, field_bytes, section_bytes}
use Rattle.cases.specs.Refusals.{refusal_of}
use Rattle.cases.proofs.LimitsLaws.{limits_of_refusal_of}
use Rattle.cases.proofs.SetsLaws.{one_field}
use Rattle.cases.proofs.TripLaws.{file_length}

module _ (c : Case) where
  -- every offset and length of a case within the limits is a 16-bit number
  pub file_short : refusal_of c ≡ 0 → file_length c < words
  file_short e =
      let l = limits_of_refusal_of c e in
      omega (arith, l.rises_le, l.falls_le, l.hours_le)

  pub rise_section : joined (λ k. field_bytes (2 ∷ []) ((get_or c.rise k no_output).0 ∷ [])) c.rises
      ≡ section_bytes c newest 1
  unfolding section_bytes
  rise_section = refl

  pub fall_section : joined (λ k. field_bytes (2 ∷ []) ((get_or c.fall k no_output).0 ∷ [])) c.falls
      ≡ section_bytes c newest 2
  unfolding section_bytes
  fall_section = refl

  pub hours_section : joined
      (λ k. field_bytes (4 ∷ 1 ∷ []) (unsigned (get_or c.prices k no_mills).0 ∷ get_or c.orders k 0 ∷ []))
      c.hours
      ≡ section_bytes c newest 3
  unfolding section_bytes
  hours_section = refl

  pub form_section : bytes 2 newest.0 ≡ section_bytes c newest 4
  unfolding section_bytes joined
  form_section = one_field 2 newest.0
