-- What the machine earns with a list, hour by hour from 0, is the model's profit. Assumes nothing.
use mathlib.Core.Path.{◌≡◌, sym, ap, ◌∙◌}
use mathlib.Core.Bool.{cond}
use mathlib.Core.List.{List, [], ◌∷◌}
use Prim.Native.Nat.{ℕ, zero, suc, ◌+◌, ◌*◌, ◌-◌, ◌≤◌, ◌<◌}
use native.Mathlib.Nat.{add_comm}
use native.Mathlib.Omega.{arith}
use lib.Dec.{eqb, eqb-suc-zero}
use lib.IntN.{ℤ, pos, one, ◌+ℤ◌, ◌-ℤ◌, ◌*ℤ◌, *ℤ-zero, *ℤ-one, +ℤ_assoc, +ℤ_idl, +ℤ_idr}
use lib.ListN.{length, get_or}
use Rattle.cases.specs.declared.Case.{Case}
use Rattle.laws.proofs.Signed.{linear, parts_add, parts_sub, multiple__, less_self, less_none}
use Rattle.cases.specs.Limits.{most_output}
use Rattle.cases.specs.Symbols.{B, C, last, price, p0}
use Rattle.day.specs.Marks.{p}
use Rattle.day.specs.Profit.{profit_by_at, profit_by_to, profit_by}
use Rattle.cases.proofs.LimitsLaws.{Limits}
use Rattle.day.proofs.MarksLaws.{p_zero, p_suc}
use Rattle.day.proofs.ProfitLaws.{energy_is, profit_by_at_is, profit_by_to_none, profit_by_to_more, profit_by_is}
use Rattle.day.proofs.Automaton.Hours.{on, rise}
use Rattle.machine.specs.declared.Rates.{Rates}
use Rattle.machine.specs.Bounds.{most_energy}
use Rattle.machine.specs.Moves.{cost_at, spent, charge, earn}
use Rattle.machine.specs.Cases.{charges_of, tariff_at, Pays}
use Rattle.machine.specs.Image.{profit_from}
use Rattle.machine.proofs.Bridge.CasesLaws.{margin_at}
use Rattle.day.proofs.Automaton.Literals.{v_is, y_is, z_is}

-- what the hour costs by its marks, and what it is charged by the outputs at its ends, h being its cost without energy
charges : (h b d : ℤ) (q p : ℕ)
    → (h -ℤ h *ℤ pos (1 - on p)) +ℤ (b *ℤ pos (2 * rise q p) +ℤ d *ℤ pos (2 * rise p q))
    ≡ cond (eqb p 0) (cond (eqb q 0) (pos 0) (d *ℤ pos 2)) (cond (eqb q 0) (h +ℤ b *ℤ pos 2) h)
unfolding one
charges h b d zero zero = simp (*ℤ-zero, *ℤ-one, less_self)
charges h b d (suc q) zero = simp (eqb-suc-zero, *ℤ-zero, *ℤ-one, less_self, +ℤ_idl)
charges h b d zero (suc p) = simp (eqb-suc-zero, *ℤ-zero, less_none, +ℤ_idr)
charges h b d (suc q) (suc p) = simp (eqb-suc-zero, *ℤ-zero, less_none, +ℤ_idr)

-- what was sold, less the cost of energy and of the hour, less the rest
apart : (s x e h o r : ℤ) → (s -ℤ (((x +ℤ e) +ℤ h) -ℤ o)) -ℤ r ≡ ((s -ℤ x) -ℤ e) -ℤ ((h -ℤ o) +ℤ r)
apart s x e h o r =
    omega (
      linear,
      parts_add x e,
      parts_add (x +ℤ e) h,
      parts_sub ((x +ℤ e) +ℤ h) o,
      parts_sub s (((x +ℤ e) +ℤ h) -ℤ o),
      parts_sub (s -ℤ (((x +ℤ e) +ℤ h) -ℤ o)) r,
      parts_sub s x,
      parts_sub (s -ℤ x) e,
      parts_sub h o,
      parts_add (h -ℤ o) r,
      parts_sub ((s -ℤ x) -ℤ e) ((h -ℤ o) +ℤ r),
    )

-- an hour without energy costs what its table leaves
none_spent : {r : Rates} {costs : List ℤ} {cost : ℕ → ℤ} → Pays r costs cost → cost 0 ≡ r.holds.0
unfolding spent
none_spent {r} {costs} pays =
    pays.says 0 (omega arith)
    ∙ ap (λ x. x +ℤ r.holds.0)
    (ap (λ x. x +ℤ (cost_at costs 0 -ℤ cost_at costs 0)) (*ℤ-zero r.variable.0)
    ∙ +ℤ_idl (cost_at costs 0 -ℤ cost_at costs 0) ∙ less_self (cost_at costs 0))
    ∙ +ℤ_idl r.holds.0

module _ (c : Case) (lim : Limits c) {rates : Rates} {costs : List ℤ} {cost : ℕ → ℤ} (pays : Pays rates costs cost)
    (l : List ℕ) (within : (k : ℕ) → k ≤ last c → p c l k ≤ most_output) where
  -- the energy of an hour is among those that the table has
  energy_le : (k : ℕ) → k < last c → p c l k + p c l (suc k) ≤ most_energy
  energy_le k h = omega (arith, within k (omega arith), within (suc k) h)

  pub earn_same : (k : ℕ) → k < last c
      → profit_by_at cost c l (suc k) ≡ earn (tariff_at c rates costs k) (p c l k) (p c l (suc k))
  unfolding charges_of charge earn
  earn_same k h =
      let q = p c l k in
      let o = p c l (suc k) in
      let sold = price c (suc k) *ℤ pos (q + o) in
      let fuel = rates.variable.0 *ℤ pos (q + o) in
      let held = rates.holds.0 in
      rw (
        profit_by_at_is cost c l (suc k),
        energy_is c l (suc k) ∙ add_comm o q,
        pays.says (q + o) (energy_le k h),
        none_spent pays,
        v_is c l (suc k),
        y_is c l k h,
        z_is c l k h,
        margin_at c lim rates.variable k h,
        multiple__ (price c (suc k)) rates.variable.0 (q + o),
        ← charges held (B c) (C c) q o,
      )
      (apart sold fuel (spent costs (q + o)) held (held *ℤ pos (1 - on o))
      (B c *ℤ pos (2 * rise q o) +ℤ C c *ℤ pos (2 * rise o q)))

  -- the hours to k, and from k on, make the day
  profit_from_is : (m : List ℕ) (k : ℕ) → k + length m ≡ last c → ((i : ℕ) → p c l (suc (k + i)) ≡ get_or m i 0)
      → profit_by_to cost c l k +ℤ profit_from c rates costs k (p c l k) m ≡ profit_by_to cost c l (last c)
  profit_from_is [] k n e = +ℤ_idr (profit_by_to cost c l k) ∙ ap (profit_by_to cost c l) (omega arith)
  profit_from_is (q ∷ m) k n e =
      let here : p c l (suc k) ≡ q = ap (p c l) (omega arith) ∙ e 0 in
      let hour : earn (tariff_at c rates costs k) (p c l k) q ≡ profit_by_at cost c l (suc k) =
      ap (earn (tariff_at c rates costs k) (p c l k)) (sym here) ∙ sym (earn_same k (omega arith)) in
      let more = profit_by_to_more cost c l k in
      let rest = profit_from_is m (suc k) (omega arith) (λ i. ap (p c l) (omega arith) ∙ e (suc i)) in
      let after = profit_from c rates costs (suc k) in
      sym (+ℤ_assoc (profit_by_to cost c l k) (earn (tariff_at c rates costs k) (p c l k) q) (after q m))
      ∙ ap (λ x. profit_by_to cost c l k +ℤ x +ℤ after q m) hour
      ∙ ap (λ x. x +ℤ after q m) (sym more)
      ∙ ap (λ x. profit_by_to cost c l (suc k) +ℤ after x m) (sym here)
      ∙ rest

  pub profit_from_profit_by : length l ≡ last c → profit_from c rates costs 0 (p0 c) l ≡ profit_by cost c l
  profit_from_profit_by n =
      let day = profit_from_is l 0 (omega arith) (λ i. ap (λ j. p c l (suc j)) (omega arith) ∙ p_suc c l i) in
      sym (+ℤ_idl (profit_from c rates costs 0 (p0 c) l))
      ∙ ap (λ x. pos 0 +ℤ profit_from c rates costs 0 x l) (sym (p_zero c l))
      ∙ ap (λ x. x +ℤ profit_from c rates costs 0 (p c l 0) l) (sym (profit_by_to_none cost c l))
      ∙ day
      ∙ sym (profit_by_is cost c l)
