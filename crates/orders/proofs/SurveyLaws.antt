-- A list of windows that is gone over from its front, pair by pair. Assumes nothing.
use mathlib.Core.Path.{◌≡◌, refl, sym, ap, ◌∙◌}
use mathlib.Core.Bool.{true, false, ◌&&◌}
use mathlib.Core.List.{List, [], ◌∷◌}
use Prim.Native.Nat.{ℕ, suc, ◌+◌, ◌-◌, ◌≤◌, ◌<◌}
use native.Mathlib.Omega.{arith}
use lib.Dec.{leb}
use lib.ListN.{length, get_or, take, drop}
use lib.Seq.{take-length}
use Rattle.std.specs.Prelude.{is_some, IfSome, ◌==◌}
use Rattle.std.specs.Bool.{then_some}
use Rattle.cases.specs.Limits.{most_hours, year_hours}
use Rattle.model.specs.Calendar.{windows_from}
use Rattle.cases.proofs.LayoutLaws.{length_listed}
use Rattle.model.proofs.WindowsLaws.{windows_from_cons}
use Rattle.orders.specs.Marked.{marked, overlaid}

-- the windows passed stand, the last of them ends at hour `from`, and their hours are marked: what is left of the list
-- decides
pub record Surveyed (day hours mark : ℕ) (list before marks : List ℕ) (from : ℕ) (rest : List ℕ) : Type 0 where
  pub long : length marks ≡ most_hours
  pub stand : windows_from 0 list ≡ windows_from from rest
  pub over : overlaid day hours mark list before ≡ overlaid day hours mark rest marks

module _ {day hours mark : ℕ} {list before marks : List ℕ} {from : ℕ} where
  -- a window more, if it stands
  pub surveyed_unfit : (rest : List ℕ) → Surveyed day hours mark list before marks from rest → 2 ≤ length rest
      → (leb from (get_or rest 0 0) && (leb 1 (get_or rest 1 0) && leb (get_or rest 0 0 + get_or rest 1 0) year_hours))
      ≡ false → false ≡ windows_from 0 list
  surveyed_unfit [] s two e = absurd (omega arith)
  surveyed_unfit (a ∷ []) s two e = absurd (omega arith)
  surveyed_unfit (a ∷ n ∷ rest) s two e = sym (s.stand ∙ windows_from_cons from a n rest ∙ rw e refl)

  pub surveyed_step : (rest : List ℕ) → Surveyed day hours mark list before marks from rest → 2 ≤ length rest
      → (leb from (get_or rest 0 0) && (leb 1 (get_or rest 1 0) && leb (get_or rest 0 0 + get_or rest 1 0) year_hours))
      ≡ true → {next : List ℕ} → next ≡ marked day hours mark (get_or rest 0 0) (get_or rest 1 0) marks
      → Surveyed day hours mark list before next (get_or rest 0 0 + get_or rest 1 0)
      (take (length rest - 2) (drop 2 rest))
  unfolding overlaid marked
  surveyed_step [] s two e m = absurd (omega arith)
  surveyed_step (a ∷ []) s two e m = absurd (omega arith)
  surveyed_step (a ∷ n ∷ rest) s two e m =
      let left : suc (suc (length rest)) - 2 ≡ length rest = omega arith in
      rw (left, take-length rest) (record {
        long = ap length m ∙ length_listed _ most_hours;
        stand = s.stand ∙ windows_from_cons from a n rest ∙ rw e refl;
        over = s.over ∙ rw m refl;
      })

  -- no whole window is left
  pub surveyed_end : (rest : List ℕ) → Surveyed day hours mark list before marks from rest → length rest < 2
      → (is_some (then_some (length rest == 0) marks) ≡ windows_from 0 list)
      × IfSome (then_some (length rest == 0) marks) (λ m. m ≡ overlaid day hours mark list before)
  unfolding windows_from overlaid
  surveyed_end [] s few = (sym s.stand, sym s.over)
  surveyed_end (a ∷ []) s few = (sym s.stand, tt)
  surveyed_end (a ∷ n ∷ rest) s few = absurd (omega arith)
