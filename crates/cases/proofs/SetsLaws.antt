-- Laws of bytes that are written one part after the other: numbers, equal parts, and the file of a case section by
-- section. Assumes nothing.
use mathlib.Core.Path.{◌≡◌, refl, sym, ap, ◌∙◌}
use mathlib.Core.List.{List, [], ◌∷◌, ◌++◌, append_assoc, append-nil}
use Prim.Native.Nat.{ℕ, suc, ◌+◌, ◌*◌, ◌≤◌, ◌<◌}
use native.Mathlib.Nat.{add-zero, zero-add}
use native.Mathlib.Omega.{arith}
use native.Mathlib.Numerals.{add-one}
use lib.ListN.{length, set, drop, length-append}
use lib.Seq.{sets, sets-eq}
use Rattle.cases.specs.declared.Case.{Case}
use Rattle.cases.specs.Forms.{newest, entry_length}
use Rattle.cases.specs.Layout.{joined, bytes, unsigned, field_bytes, section_bytes, section_length, section_from}
use Rattle.cases.specs.Layout.{pair_bytes, file_of, bytes_of}
use Rattle.cases.proofs.LayoutLaws.{length_bytes, length_joined}
use Rattle.cases.proofs.NumbersLaws.{bytes_one}
use Rattle.cases.proofs.FormsLaws.{front}
use Rattle.cases.proofs.WrittenLaws.{length_pair, length_pair_bytes, sections_from}

module _ {X : Type 0} where
  pub sets_append : (xs ys l : List X) (at : ℕ) → sets l at (xs ++ ys) ≡ sets (sets l at xs) (at + length xs) ys
  sets_append [] ys l at = rw (add-zero at)
  sets_append (x ∷ xs) ys l at =
      let e : suc at + length xs ≡ at + suc (length xs) = omega arith in
      sets_append xs ys (set l at x) (suc at) ∙ ap (λ k. sets (sets (set l at x) (suc at) xs) k ys) e

  -- a part of n entries, and then the rest
  pub sets_next : (l : List X) {l₁ l₂ : List X} (xs ys : List X) (at n : ℕ) → length xs ≡ n → l₁ ≡ sets l at xs
      → l₂ ≡ sets l₁ (at + n) ys → l₂ ≡ sets l at (xs ++ ys)
  sets_next l xs ys at n w e f = rw (f, e, ← w) (sym (sets_append xs ys l at))

  -- all of it, from the front
  pub sets_front : (xs l : List X) → length xs ≤ length l → sets l 0 xs ≡ xs ++ drop (length xs) l
  sets_front xs l h = sets-eq xs l 0 (omega arith) ∙ ap (λ k. xs ++ drop k l) (zero-add (length xs))

-- equal parts, written one after the other: none, and one more
pub sets_start : (f : ℕ → List ℕ) (l : List ℕ) (at : ℕ) → l ≡ sets l at (joined f 0)
unfolding joined
sets_start f l at = refl

pub sets_step : (w : ℕ) (f : ℕ → List ℕ) (wide : (i : ℕ) → length (f i) ≡ w) (l : List ℕ) {l₁ l₂ : List ℕ} (at i : ℕ)
    → l₁ ≡ sets l at (joined f i) → l₂ ≡ sets l₁ (at + w * i) (f i) → l₂ ≡ sets l at (joined f (i + 1))
unfolding joined
sets_step w f wide l at i e g = rw add-one (sets_next l (joined f i) (f i) at (w * i) (length_joined w f wide i) e g)

pub sets_end : (f : ℕ → List ℕ) (l : List ℕ) {l₁ : List ℕ} (at i n : ℕ) → l₁ ≡ sets l at (joined f i) → i ≡ n
    → l₁ ≡ sets l at (joined f n)
sets_end f l at i n e q = e ∙ ap (λ k. sets l at (joined f k)) q

-- parts of any lengths: one more
sets_part : (f : ℕ → List ℕ) (l : List ℕ) {l₁ l₂ : List ℕ} (at i : ℕ) → l₁ ≡ sets l at (joined f i)
    → l₂ ≡ sets l₁ (at + length (joined f i)) (f i) → l₂ ≡ sets l at (joined f (suc i))
unfolding joined
sets_part f l at i e g = sets_next l (joined f i) (f i) at (length (joined f i)) refl e g

-- two numbers of a width
pub sets_both : (w a b : ℕ) (l : List ℕ) {l₁ l₂ : List ℕ} (at : ℕ) → l₁ ≡ sets l at (bytes w a)
    → l₂ ≡ sets l₁ (at + w) (bytes w b) → l₂ ≡ sets l at (bytes w a ++ bytes w b)
sets_both w a b l at e f = sets_next l (bytes w a) (bytes w b) at w (length_bytes w a) e f

-- two numbers of a width, and then the rest
sets_pair : (w a b : ℕ) (l : List ℕ) {l₁ l₂ : List ℕ} (ys : List ℕ) (at : ℕ) → l₁ ≡ sets l at (bytes w a ++ bytes w b)
    → l₂ ≡ sets l₁ (at + (w + w)) ys → l₂ ≡ sets l at (bytes w a ++ (bytes w b ++ ys))
sets_pair w a b l ys at e f =
    sets_next l (bytes w a ++ bytes w b) ys at (w + w)
    (omega (arith, length-append (bytes w a) (bytes w b), length_bytes w a, length_bytes w b)) e f
    ∙ ap (sets l at) (append_assoc (bytes w a) (bytes w b) ys)

-- ---- the entries of a section
pub one_field : (w n : ℕ) → bytes w n ≡ field_bytes (w ∷ []) (n ∷ [])
unfolding field_bytes
one_field w n = sym (append-nil (bytes w n))

-- an hour: its price in four bytes, and its order byte
pub hour_written : (price order : ℕ) → order < 256 → (l : List ℕ) {l₁ l₂ : List ℕ} (at : ℕ)
    → l₁ ≡ sets l at (bytes 4 price) → l₂ ≡ set l₁ (at + 4) order
    → l₂ ≡ sets l at (field_bytes (4 ∷ 1 ∷ []) (price ∷ order ∷ []))
unfolding field_bytes
hour_written price order h l at e f =
    sets_next l (bytes 4 price) (bytes 1 order ++ []) at 4 (length_bytes 4 price) e
    (f ∙ ap (sets _ (at + 4)) (sym (append-nil (bytes 1 order) ∙ bytes_one order h)))

-- two bytes
pub bytes_written : (a b : ℕ) → a < 256 → b < 256 → (l : List ℕ) (at : ℕ)
    → set (set l at a) (at + 1) b ≡ sets l at (bytes 1 a ++ bytes 1 b)
bytes_written a b h k l at =
    sets_both 1 a b l {l₁ = set l at a} at (ap (sets l at) (sym (bytes_one a h)))
    (ap (sets (set l at a) (at + 1)) (sym (bytes_one b k)))

-- where the unit ends
abbrev pub unit_end : ℕ
unit_end = front + entry_length newest.1 0

module _ (c : Case) where
  -- the pairs, written one after the other
  pub pairs_written : (l : List ℕ) {l₁ l₂ l₃ l₄ l₅ : List ℕ}
      → l₁ ≡ sets l 0 (bytes 2 front ++ bytes 2 (entry_length newest.1 0))
      → l₂ ≡ sets l₁ 4 (bytes 2 unit_end ++ bytes 2 (2 * c.rises))
      → l₃ ≡ sets l₂ 8 (bytes 2 (unit_end + 2 * c.rises) ++ bytes 2 (2 * c.falls))
      → l₄ ≡ sets l₃ 12 (bytes 2 (unit_end + 2 * c.rises + 2 * c.falls) ++ bytes 2 (5 * c.hours))
      → l₅ ≡ sets l₄ 16 (bytes 2 (unit_end + 2 * c.rises + 2 * c.falls + 5 * c.hours) ++ bytes 2 2)
      → l₅ ≡ sets l 0 (pair_bytes c newest)
  unfolding pair_bytes section_from section_length
  pairs_written l e₁ e₂ e₃ e₄ e₅ =
      let g : ℕ → List ℕ = λ i. bytes 2 (section_from c newest i) ++ bytes 2 (section_length c newest i) in
      let w : (i : ℕ) → length (g i) ≡ 4 = length_pair c newest in
      sets_step 4 g w l 0 4
      (sets_step 4 g w l 0 3
      (sets_step 4 g w l 0 2 (sets_step 4 g w l 0 1 (sets_step 4 g w l 0 0 (sets_start g l 0) e₁) e₂) e₃) e₄) e₅

  -- the unit, written two fields at a time
  pub unit_written : (l : List ℕ) {l₁ l₂ l₃ l₄ l₅ l₆ l₇ : List ℕ}
      → l₁ ≡ sets l front (bytes 2 c.capacity.0 ++ bytes 2 c.minimum.0)
      → l₂ ≡ sets l₁ (front + 4) (bytes 2 c.rampup.0 ++ bytes 2 c.rampdown.0)
      → l₃ ≡ sets l₂ (front + 8) (bytes 2 c.minup.0 ++ bytes 2 c.mindown.0)
      → l₄ ≡ sets l₃ (front + 12) (bytes 4 (unsigned c.variable.0) ++ bytes 4 (unsigned c.fixed.0))
      → l₅ ≡ sets l₄ (front + 20) (bytes 4 (unsigned c.startcost.0) ++ bytes 4 (unsigned c.stopcost.0))
      → l₆ ≡ sets l₅ (front + 28) (bytes 2 c.initial.0 ++ bytes 2 c.elapsed.0)
      → l₇ ≡ sets l₆ (front + 32) (bytes 1 c.upstage ++ bytes 1 c.downstage)
      → l₇ ≡ sets l front (section_bytes c newest 0)
  unfolding section_bytes joined field_bytes
  unit_written l {l₁} {l₂} {l₃} {l₄} {l₅} {l₆} {l₇} e₁ e₂ e₃ e₄ e₅ e₆ e₇ =
      sets_pair 2 _ _ l _ front e₁
      (sets_pair 2 _ _ l₁ _ (front + 4) e₂
      (sets_pair 2 _ _ l₂ _ (front + 8) e₃
      (sets_pair 4 _ _ l₃ _ (front + 12) e₄
      (sets_pair 4 _ _ l₄ _ (front + 20) e₅
      (sets_pair 2 _ _ l₅ _ (front + 28) e₆
      (e₇ ∙ ap (λ s. sets l₆ (front + 32) (bytes 1 c.upstage ++ s)) (one_field 1 c.downstage)))))))

  -- the sections, each where the one before ends
  pub case_written : (l : List ℕ) {l₁ l₂ l₃ l₄ l₅ l₆ : List ℕ}
      → l₁ ≡ sets l 0 (pair_bytes c newest)
      → l₂ ≡ sets l₁ front (section_bytes c newest 0)
      → l₃ ≡ sets l₂ unit_end (section_bytes c newest 1)
      → l₄ ≡ sets l₃ (unit_end + 2 * c.rises) (section_bytes c newest 2)
      → l₅ ≡ sets l₄ (unit_end + 2 * c.rises + 2 * c.falls) (section_bytes c newest 3)
      → l₆ ≡ sets l₅ (unit_end + 2 * c.rises + 2 * c.falls + 5 * c.hours) (section_bytes c newest 4)
      → l₆ ≡ sets l 0 (bytes_of c)
  unfolding file_of section_from section_length
  case_written l {l₁} {l₂} {l₃} {l₄} {l₅} {l₆} e₁ e₂ e₃ e₄ e₅ e₆ =
      sets_next l (pair_bytes c newest) (joined g 5) 0 front (length_pair_bytes c newest) e₁
      (next 4 l₅ e₆ (next 3 l₄ e₅ (next 2 l₃ e₄ (next 1 l₂ e₃ (next 0 l₁ e₂ (sets_start g l₁ front))))))
    where
      g : ℕ → List ℕ
      g = section_bytes c newest

      next : (i : ℕ) (m : List ℕ) {m₂ : List ℕ} → m₂ ≡ sets m (section_from c newest i) (g i)
          → m ≡ sets l₁ front (joined g i) → m₂ ≡ sets l₁ front (joined g (suc i))
      next i m e d = sets_part g l₁ front i d (e ∙ ap (λ at. sets m at (g i)) (sym (sections_from c newest i)))
