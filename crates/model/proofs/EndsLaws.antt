-- The ends of a window in a list, and two windows that touch. Assumes nothing.
use mathlib.Core.Path.{◌≡◌, sym, subst, ◌∙◌}
use mathlib.Core.Logic.{◌↔◌, ⊎_elim}
use mathlib.Core.List.{List, [], ◌∷◌}
use Prim.Native.Nat.{ℕ, zero, suc, ◌+◌, ◌*◌, ◌≤◌, ◌<◌}
use native.Mathlib.Omega.{arith}
use lib.Dec.{T}
use lib.ListN.{length}
use Rattle.cases.specs.Limits.{year_hours}
use Rattle.model.specs.Calendar.{windows_from, covers}
use Rattle.model.specs.Windows.{begin, end, Windows, window}
use Rattle.model.proofs.WindowsLaws.{begin_suc, end_suc, spans_hour, covers_cons, in_covers, windows_cons}
use Rattle.model.proofs.WindowsLaws.{cons_windows, windows_from_stand, of_windows}

-- no window of a list holds an hour before its first begins
covers_from : (from : ℕ) (l : List ℕ) (t : ℕ) → T (windows_from from l) → T (covers l t) → from ≤ t
unfolding covers
covers_from from [] t h c = absurd c
covers_from from (a ∷ []) t h c = absurd c
covers_from from (a ∷ n ∷ l) t h c =
    let (x, y, z, w) = windows_cons from a n l h in
    ⊎_elim (λ s. omega (arith, (spans_hour a n t s).0)) (λ d. omega (arith, covers_from (a + n) l t w d))
    (covers_cons a n l t c)

-- an hour at which a list may begin is held only where its first window begins there
covers_first : (l : List ℕ) (t : ℕ) → T (windows_from t l) → T (covers l t) → begin l 0 ≡ t
unfolding covers
covers_first [] t h c = absurd c
covers_first (a ∷ []) t h c = absurd c
covers_first (a ∷ n ∷ l) t h c =
    let (x, y, z, w) = windows_cons t a n l h in
    ⊎_elim (λ s. omega (arith, (spans_hour a n t s).0)) (λ d. absurd (omega (arith, covers_from (a + n) l t w d)))
    (covers_cons a n l t c)

-- a window is not empty, so it holds its first hour
window_held : (from : ℕ) (l : List ℕ) (i : ℕ) → T (windows_from from l) → 2 * i + 1 < length l → begin l i < end l i
window_held from l i h room =
    let w = (windows_from_stand from l h).windows in
    w.held i (omega (arith, w.whole))

begin_covers : (from : ℕ) (l : List ℕ) (i : ℕ) → T (windows_from from l) → 2 * i + 1 < length l
    → T (covers l (begin l i))
begin_covers from l i h room =
    in_covers l (begin l i) (window i room (omega arith) (window_held from l i h room))

end_covers : (from : ℕ) (l : List ℕ) (i : ℕ) → T (windows_from from l) → 2 * i + 1 < length l → T (covers l (end l i))
    → begin l (suc i) ≡ end l i
end_covers from [] i h room c = absurd (omega arith)
end_covers from (a ∷ []) i h room c = absurd (omega arith)
end_covers from (a ∷ n ∷ l) zero h room c =
    let (x, y, z, w) = windows_cons from a n l h in
    ⊎_elim (λ s. absurd (omega (arith, (spans_hour a n (a + n) s).1))) (covers_first l (a + n) w)
    (covers_cons a n l (a + n) c)
end_covers from (a ∷ n ∷ l) (suc i) h room c =
    let (x, y, z, w) = windows_cons from a n l h in
    let inner : 2 * i + 1 < length l = omega arith in
    let later : a + n ≤ begin l i = covers_from (a + n) l (begin l i) w (begin_covers (a + n) l i w inner) in
    let some = window_held (a + n) l i w inner in
    let e = end_suc a n l i in
    ⊎_elim (λ s. absurd (omega (arith, (spans_hour a n (end l i) s).1)))
    (λ d. begin_suc a n l (suc i) ∙ end_covers (a + n) l i w inner d ∙ sym e)
    (covers_cons a n l (end l i) (subst (λ t. T (covers (a ∷ n ∷ l) t)) e c))

pub window_ends : (l : List ℕ) (i : ℕ) → Windows l → 2 * i + 1 < length l
    → T (covers l (begin l i)) × (T (covers l (end l i)) → begin l (suc i) ≡ end l i)
window_ends l i w room =
    let h = of_windows l w in
    (begin_covers 0 l i h room, end_covers 0 l i h room)

-- two windows
pub touching : (a n b m : ℕ) → 1 ≤ n → 1 ≤ m → b + m ≤ year_hours
    → T (windows_from 0 (a ∷ n ∷ b ∷ m ∷ [])) ↔ (a + n ≤ b)
unfolding windows_from
touching a n b m x y z = (
  λ h. (windows_cons (a + n) b m [] (windows_cons 0 a n (b ∷ m ∷ []) h).3).0,
  λ h. cons_windows 0 a n (b ∷ m ∷ []) (omega arith) x (omega arith) (cons_windows (a + n) b m [] h y z tt),
)
