-- Laws of numbers in fields of given widths: as many bytes as the widths, and what is written is read. One law serves
-- every table of widths. Assumes nothing.
use mathlib.Core.Path.{◌≡◌, refl, sym, ap, ◌∙◌}
use mathlib.Core.List.{List, [], ◌∷◌, ◌++◌, append_assoc, append-nil}
use Prim.Native.Nat.{ℕ, zero, suc, ◌+◌, ◌*◌, ◌^◌, ◌≤◌, ◌<◌}
use native.Mathlib.Nat.{mul-suc, mul-le-mul_left}
use native.Mathlib.Omega.{arith}
use lib.ListN.{length, get_or, take, drop, length-append}
use lib.Seq.{take_at, drop-append_seam, take-add, drop-drop}
use Rattle.cases.specs.Forms.{width}
use Rattle.cases.specs.Layout.{AllBytes, number, number_at, joined, bytes, field_bytes, field_at}
use Rattle.cases.proofs.LayoutLaws.{length_bytes, number_bytes, bytes_number_at, number_at_part}
use Rattle.cases.proofs.LayoutLaws.{joined_part, joined_same, joined_parts}

pub length_field_bytes : (ws ns : List ℕ) → length (field_bytes ws ns) ≡ width ws
unfolding field_bytes
length_field_bytes [] ns = refl
length_field_bytes (w ∷ ws) [] =
    omega (arith, length-append (bytes w 0) (field_bytes ws []), length_bytes w 0, length_field_bytes ws [])
length_field_bytes (w ∷ ws) (n ∷ ns) =
    omega (arith, length-append (bytes w n) (field_bytes ws ns), length_bytes w n, length_field_bytes ws ns)

-- ---- what is written is read
-- a number between two lists
number_at_between : (front rest : List ℕ) (w n : ℕ) → n < 256 ^ w
    → number_at (front ++ (bytes w n ++ rest)) (length front) w ≡ n
unfolding number_at
number_at_between front rest w n h =
    ap (λ s. number (take w s)) (drop-append_seam front (bytes w n ++ rest))
    ∙ ap number (take_at (bytes w n) rest w (length_bytes w n)) ∙ number_bytes w n h

field_at_between : (ws ns front rest : List ℕ) (j : ℕ) → j < length ws → j < length ns → get_or ns j 0 < 256 ^ get_or ws j 0
    → field_at ws (front ++ (field_bytes ws ns ++ rest)) (length front) j ≡ get_or ns j 0
unfolding field_at field_bytes
field_at_between [] ns front rest j h k b = absurd (omega arith)
field_at_between (w ∷ ws) [] front rest j h k b = absurd (omega arith)
field_at_between (w ∷ ws) (n ∷ ns) front rest zero h k b =
    rw (append_assoc (bytes w n) (field_bytes ws ns) rest)
    (number_at_between front (field_bytes ws ns ++ rest) w n b)
field_at_between (w ∷ ws) (n ∷ ns) front rest (suc j) h k b =
    let e : length front + w ≡ length (front ++ bytes w n) =
    omega (arith, length-append front (bytes w n), length_bytes w n) in
    rw (
      append_assoc (bytes w n) (field_bytes ws ns) rest,
      ← append_assoc front (bytes w n) (field_bytes ws ns ++ rest),
      e,
    )
    (field_at_between ws ns (front ++ bytes w n) rest j (omega arith) (omega arith) b)

-- a field within a part of a list
field_at_part : (ws s : List ℕ) (at base size j : ℕ) → base + width ws ≤ size
    → field_at ws s (at + base) j ≡ field_at ws (take size (drop at s)) base j
unfolding field_at
field_at_part [] s at base size j h = refl
field_at_part (w ∷ ws) s at base size zero h = number_at_part s at size base w (omega arith)
field_at_part (w ∷ ws) s at base size (suc j) h =
    let e : at + base + w ≡ at + (base + w) = omega arith in
    rw e (field_at_part ws s at (base + w) size j (omega arith))

-- a field that an entry does not have
pub field_at_past : (ws s : List ℕ) (at j : ℕ) → length ws ≤ j → field_at ws s at j ≡ 0
unfolding field_at
field_at_past [] s at j h = refl
field_at_past (w ∷ ws) s at zero h = absurd (omega arith)
field_at_past (w ∷ ws) s at (suc j) h = field_at_past ws s (at + w) j (omega arith)

-- field j of entry k of n entries
pub field_at_entry : (ws : List ℕ) (f : ℕ → List ℕ) (n k j : ℕ) → k < n → j < length ws → j < length (f k)
    → get_or (f k) j 0 < 256 ^ get_or ws j 0
    → field_at ws (joined (λ i. field_bytes ws (f i)) n) (width ws * k) j ≡ get_or (f k) j 0
field_at_entry ws f n k j h a b small =
    let s = joined (λ i. field_bytes ws (f i)) n in
    let at = width ws * k in
    ap (λ x. field_at ws s x j) (let e : at ≡ at + 0 = omega arith in e)
    ∙ field_at_part ws s at 0 (width ws) j (omega arith)
    ∙ ap (λ part. field_at ws part 0 j)
    (joined_part (width ws) (λ i. field_bytes ws (f i)) (λ i. length_field_bytes ws (f i)) n k h
    ∙ sym (append-nil (field_bytes ws (f k))))
    ∙ field_at_between ws (f k) [] [] j a b small

-- ---- what is read is written
-- these numbers stand in fields of these widths, from an offset on
abbrev pub Matches : List ℕ → List ℕ → List ℕ → ℕ → Type 0
Matches [] ns s at = Unit {0}
Matches (w ∷ ws) [] s at = ⊥
Matches (w ∷ ws) (n ∷ ns) s at = (n ≡ number_at s at w) × Matches ws ns s (at + w)

field_bytes_read : (s : List ℕ) → AllBytes s → (ws ns : List ℕ) (at : ℕ) → at + width ws ≤ length s → Matches ws ns s at
    → field_bytes ws ns ≡ take (width ws) (drop at s)
unfolding field_bytes
field_bytes_read s a [] ns at h m = refl
field_bytes_read s a (w ∷ ws) [] at h m = absurd m
field_bytes_read s a (w ∷ ws) (n ∷ ns) at h m =
    rw (m.0, bytes_number_at a at w (omega arith), field_bytes_read s a ws ns (at + w) (omega arith) m.1)
    (ap (λ t. take w (drop at s) ++ take (width ws) t) (sym (drop-drop w at s))
    ∙ sym (take-add w (width ws) (drop at s)))

-- n entries that are read off a list have its bytes
pub entries_read : (s : List ℕ) → AllBytes s → (ws : List ℕ) (f : ℕ → List ℕ) (n : ℕ) → width ws * n ≡ length s
    → ((k : ℕ) → k < n → width ws * k + width ws ≤ length s → Matches ws (f k) s (width ws * k))
    → joined (λ k. field_bytes ws (f k)) n ≡ s
entries_read s a ws f n e m =
    joined_same _ (λ k. take (width ws) (drop (width ws * k) s)) n
    (λ k h. let room = within k h in field_bytes_read s a ws (f k) (width ws * k) room (m k h room))
    ∙ joined_parts s (width ws) n e
  where
    within : (k : ℕ) → k < n → width ws * k + width ws ≤ length s
    within k h = omega (arith, e, mul-le-mul_left (width ws) h, mul-suc (width ws) k)
