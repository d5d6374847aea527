-- The orders of a day by the marks of both lists. Assumes nothing.
use mathlib.Core.Path.{◌≡◌, refl, ap, ◌∙◌}
use mathlib.Core.Bool.{Bool, true, false, ◌&&◌, ◌||◌, not, cond}
use mathlib.Core.List.{List}
use Prim.Native.Nat.{ℕ, ◌+◌, ◌≤◌, ◌<◌}
use native.Mathlib.Omega.{arith}
use lib.Dec.{eqb}
use lib.ListN.{get_or, replicate, get_or-replicate}
use Rattle.cases.specs.Limits.{most_hours}
use Rattle.cases.specs.Symbols.{every, before}
use Rattle.cases.specs.Layout.{padded}
use Rattle.model.specs.Calendar.{covers, order_in, refusal15, filled_orders}
use Rattle.model.proofs.YearLaws.{refusal15_hours, filled_orders_hours}
use Rattle.orders.specs.Marked.{one_of, overlaid}
use Rattle.orders.proofs.MarkedLaws.{get_d_overlaid}

module _ (on off : List ℕ) (first hours : ℕ) (room : hours ≤ most_hours) where
  -- the mark of an hour by a list, where none was before
  marked_by : (mark : ℕ) (l xs : List ℕ) → xs ≡ overlaid first hours mark l (replicate most_hours 0) → (i : ℕ)
      → i < hours → get_or xs i 0 ≡ cond (covers l (first + i)) mark 0
  marked_by mark l xs e i h =
      ap (λ ys. get_or ys i 0) e
      ∙ get_d_overlaid first hours mark room i h l (replicate most_hours 0)
      ∙ ap (cond (covers l (first + i)) mark) (get_or-replicate most_hours i 0 0 (omega arith))

  module _ (ons offs : List ℕ) (e : ons ≡ overlaid first hours 1 on (replicate most_hours 0))
      (f : offs ≡ overlaid first hours 2 off (replicate most_hours 0)) where
    pub met : not (every (λ k. eqb (get_or ons (before k) 0) 0 || eqb (get_or offs (before k) 0) 0) hours)
        ≡ refusal15 on off first hours
    met =
        refusal15_hours on off first hours _
        (λ i h. rw (marked_by 1 on ons e i h, marked_by 2 off offs f i h)
        (go (covers on (first + i)) (covers off (first + i))))
      where
        go : (a b : Bool) → (eqb (cond a 1 0) 0 || eqb (cond b 2 0) 0) ≡ not (a && b)
        go true true = refl
        go true false = refl
        go false b = refl

    pub joined : padded 0 (λ i. one_of (get_or ons i 0) (get_or offs i 0)) hours most_hours
        ≡ filled_orders on off first hours
    unfolding order_in
    joined =
        filled_orders_hours on off first hours _
        (λ i h. rw (marked_by 1 on ons e i h, marked_by 2 off offs f i h)
        (go (covers on (first + i)) (covers off (first + i))))
      where
        go : (a b : Bool) → one_of (cond a 1 0) (cond b 2 0) ≡ cond a 1 (cond b 2 0)
        go true b = refl
        go false b = refl
