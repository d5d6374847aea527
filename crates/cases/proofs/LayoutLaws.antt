-- Laws of numbers in bytes, of arrays by index and of parts end to end. Assumes nothing.
use mathlib.Core.Path.{◌≡◌, refl, sym, ap, ◌∙◌, subst}
use mathlib.Core.Bool.{Bool, true, false, cond}
use mathlib.Core.Logic.{⊎_elim}
use mathlib.Core.List.{List, [], ◌∷◌, ◌++◌}
use Prim.Native.Nat.{ℕ, zero, suc, ◌+◌, ◌*◌, ◌-◌, ◌/◌, ◌%◌, ◌^◌, ◌≤◌, ◌<◌}
use native.Mathlib.Nat.{eq-or-lt_of_le, pow-suc, one-le-pow, mul-suc, mul-zero}
use native.Mathlib.Omega.{arith}
use borrow.Author.Tests.{lt-ltb, le-ltb, ltb-true}
use lib.Dec.{ltb}
use lib.ListN.{length, get_or, take, drop, length-append, length-take, length-drop, get_or-append}
use lib.Seq.{get_or_at, get_or-drop, take-append-le, drop-append-le, drop-append_seam, drop-drop, drop-nil, take-nil}
use lib.Seq.{take-take, take_all, take-add, ext_get_or}
use Rattle.cases.specs.Layout.{number, number_at, AllBytes, listed, joined, bytes, padded}

-- ---- arrays by index
module _ {X : Type 0} (f : ℕ → X) where
  pub length_listed : (n : ℕ) → length (listed f n) ≡ n
  unfolding listed
  length_listed zero = refl
  length_listed (suc n) = omega (arith, length-append (listed f n) (f n ∷ []), length_listed n)

  pub get_d_listed : (d : X) (n i : ℕ) → i < n → get_or (listed f n) i d ≡ f i
  unfolding listed
  get_d_listed d zero i h = absurd (omega arith)
  get_d_listed d (suc n) i h = ⊎_elim
      (λ e. ap (λ j. get_or (listed f n ++ (f n ∷ [])) j d) e ∙ get_or_at (listed f n) (f n) [] d n
      (length_listed n) ∙ ap f (sym e))
      (λ l. get_or-append (listed f n) (f n ∷ []) d i (omega (arith, length_listed n)) ∙ get_d_listed d n i l)
      (eq-or-lt_of_le (let k : i ≤ n = omega arith in k))

pub listed_same : {X : Type 0} (f g : ℕ → X) (n : ℕ) → ((i : ℕ) → i < n → f i ≡ g i) → listed f n ≡ listed g n
unfolding listed
listed_same f g zero h = refl
listed_same f g (suc n) h =
    let e = listed_same f g n (λ i l. h i (omega arith)) in
    let k = h n (omega arith) in
    cc

module _ {X : Type 0} (rest : X) (f : ℕ → X) (n size : ℕ) where
  pub length_padded : length (padded rest f n size) ≡ size
  unfolding padded
  length_padded = length_listed (λ i. cond (ltb i n) (f i) rest) size

  pub get_d_padded_in : (d : X) (i : ℕ) → i < n → i < size → get_or (padded rest f n size) i d ≡ f i
  unfolding padded
  get_d_padded_in d i h l = get_d_listed (λ i. cond (ltb i n) (f i) rest) d size i l
      ∙ ap (λ t. cond t (f i) rest) (lt-ltb i n h)

  pub get_d_padded_past : (d : X) (i : ℕ) → n ≤ i → i < size → get_or (padded rest f n size) i d ≡ rest
  unfolding padded
  get_d_padded_past d i h l =
      get_d_listed (λ i. cond (ltb i n) (f i) rest) d size i l ∙ ap (λ t. cond t (f i) rest) (le-ltb i n h)

pub padded_same : {X : Type 0} (rest : X) (f g : ℕ → X) (n size : ℕ) → ((i : ℕ) → i < n → f i ≡ g i)
    → padded rest f n size ≡ padded rest g n size
unfolding padded
padded_same rest f g n size h = listed_same _ _ size (λ i l. go i (ltb i n) refl)
  where
    go : (i : ℕ) (t : Bool) → ltb i n ≡ t → cond t (f i) rest ≡ cond t (g i) rest
    go i true e = h i (ltb-true i n e)
    go i false e = refl

-- a list whose entries are f below n and `rest` from n on is padded
pub padded_by : {X : Type 0} (d rest : X) (f : ℕ → X) (n size : ℕ) (xs : List X) → length xs ≡ size
    → ((i : ℕ) → i < size → get_or xs i d ≡ cond (ltb i n) (f i) rest) → xs ≡ padded rest f n size
unfolding padded
padded_by d rest f n size xs e h =
    ext_get_or d xs _ (e ∙ sym (length_listed _ size))
    (λ i l. h i (omega arith) ∙ sym (get_d_listed (λ i. cond (ltb i n) (f i) rest) d size i (omega arith)))

-- ---- numbers in bytes
pub length_bytes : (w n : ℕ) → length (bytes w n) ≡ w
unfolding bytes
length_bytes zero n = refl
length_bytes (suc w) n = ap suc (length_bytes w (n / 256))

-- the bytes of a number hold it
pub number_bytes : (w n : ℕ) → n < 256 ^ w → number (bytes w n) ≡ n
unfolding bytes number
number_bytes zero n h = omega arith
number_bytes (suc w) n h =
    let e = pow-suc 256 w in
    omega (arith, number_bytes w (n / 256) (omega arith))

pub tail_bytes : {b : ℕ} {s : List ℕ} → AllBytes (b ∷ s) → AllBytes s
tail_bytes a = record { byte = λ i. a.byte (suc i) }

pub drop_bytes : (n : ℕ) {s : List ℕ} → AllBytes s → AllBytes (drop n s)
drop_bytes n {s} a = record { byte = λ i. subst (λ x. x < 256) (sym (get_or-drop n s i 0)) (a.byte (n + i)) }

-- the number in so many bytes has them
bytes_number : (s : List ℕ) → AllBytes s → bytes (length s) (number s) ≡ s
unfolding bytes number
bytes_number [] a = refl
bytes_number (b ∷ s) a =
    let h : (b + 256 * number s) % 256 ≡ b = omega (arith, a.byte 0) in
    let t : (b + 256 * number s) / 256 ≡ number s = omega (arith, a.byte 0) in
    rw (h, t) (ap (λ r. b ∷ r) (bytes_number s (tail_bytes a)))

cons_bytes : {b : ℕ} {s : List ℕ} → b < 256 → AllBytes s → AllBytes (b ∷ s)
cons_bytes {b} {s} h a = record { byte = go }
  where
    go : (i : ℕ) → get_or (b ∷ s) i 0 < 256
    go zero = h
    go (suc i) = a.byte i

number_lt : (w : ℕ) (s : List ℕ) → AllBytes s → number (take w s) < 256 ^ w
unfolding number
number_lt zero s a = omega arith
number_lt (suc w) [] a = one-le-pow (suc w) 256 (omega arith)
number_lt (suc w) (b ∷ s) a = omega (arith, a.byte 0, number_lt w s (tail_bytes a), pow-suc 256 w)

pub take_bytes : (n : ℕ) (s : List ℕ) → AllBytes s → AllBytes (take n s)
take_bytes zero s a = record { byte = λ i. omega arith }
take_bytes (suc n) [] a = a
take_bytes (suc n) (b ∷ s) a = cons_bytes (a.byte 0) (take_bytes n s (tail_bytes a))

module _ {s : List ℕ} (a : AllBytes s) where
  -- the bytes of the number at an offset are the part there
  pub bytes_number_at : (at w : ℕ) → at + w ≤ length s → bytes w (number_at s at w) ≡ take w (drop at s)
  unfolding number_at
  bytes_number_at at w h =
      let e : length (take w (drop at s)) ≡ w = omega (arith, length-take w (drop at s), length-drop at s) in
      subst (λ n. bytes n (number (take w (drop at s))) ≡ take w (drop at s)) e
      (bytes_number (take w (drop at s)) (take_bytes w (drop at s) (drop_bytes at a)))

  pub number_at_lt : (at w : ℕ) → number_at s at w < 256 ^ w
  unfolding number_at
  number_at_lt at w = number_lt w (drop at s) (drop_bytes at a)

-- the number at an offset: the byte there, and the number in the bytes after it; past the end both are 0
pub number_at_suc : (s : List ℕ) (at w : ℕ) → number_at s at (suc w) ≡ get_or s at 0 + 256 * number_at s (suc at) w
unfolding number_at number
number_at_suc [] at w = rw (drop-nil at, take-nil w)
number_at_suc (b ∷ s) zero w = refl
number_at_suc (b ∷ s) (suc at) w = number_at_suc s at w

pub number_at_zero : (s : List ℕ) (at : ℕ) → number_at s at 0 ≡ 0
unfolding number_at number
number_at_zero s at = refl

-- a number within a part of a list
drop_take : {X : Type 0} (k w : ℕ) (s : List X) → drop k (take w s) ≡ take (w - k) (drop k s)
drop_take zero w s = ap (λ n. take n s) (let e : w ≡ w - 0 = omega arith in e)
drop_take (suc k) zero s = drop-nil (suc k)
    ∙ ap (λ n. take n (drop (suc k) s)) (let e : 0 ≡ 0 - suc k = omega arith in e)
drop_take (suc k) (suc w) [] = sym (take-nil (suc w - suc k))
drop_take (suc k) (suc w) (x ∷ s) = drop_take k w s
    ∙ ap (λ n. take n (drop k s)) (let e : w - k ≡ suc w - suc k = omega arith in e)

pub number_at_part : (s : List ℕ) (at w k m : ℕ) → k + m ≤ w → number_at s (at + k) m ≡ number_at (take w (drop at s)) k m
unfolding number_at
number_at_part s at w k m h =
    let e : drop (at + k) s ≡ drop k (drop at s) = sym (drop-drop k at s) in
    ap (λ t. number (take m t)) e
    ∙ ap number (sym (take-take m (w - k) (drop k (drop at s)) (omega arith)))
    ∙ ap (λ t. number (take m t)) (sym (drop_take k w (drop at s)))

-- ---- parts end to end
module _ (g : ℕ → List ℕ) where
  -- part i stands after those before it
  pub joined_room : (n i : ℕ) → i < n → length (joined g i) + length (g i) ≤ length (joined g n)
  unfolding joined
  joined_room zero i h = absurd (omega arith)
  joined_room (suc n) i h = ⊎_elim
      (λ e. rw e (omega (arith, length-append (joined g n) (g n))))
      (λ l. omega (arith, joined_room n i l, length-append (joined g n) (g n)))
      (eq-or-lt_of_le (let k : i ≤ n = omega arith in k))

  pub joined_at : (n i : ℕ) → i < n → take (length (g i)) (drop (length (joined g i)) (joined g n)) ≡ g i
  unfolding joined
  joined_at zero i h = absurd (omega arith)
  joined_at (suc n) i h = ⊎_elim here (λ l. earlier l (joined_at n i l))
      (eq-or-lt_of_le (let k : i ≤ n = omega arith in k))
    where
      here : i ≡ n → take (length (g i)) (drop (length (joined g i)) (joined g n ++ g n)) ≡ g i
      here e = rw e
          (ap (take (length (g n))) (drop-append_seam (joined g n) (g n)) ∙ take_all (length (g n)) (g n) (omega arith))

      earlier : i < n → take (length (g i)) (drop (length (joined g i)) (joined g n)) ≡ g i
          → take (length (g i)) (drop (length (joined g i)) (joined g n ++ g n)) ≡ g i
      earlier l e =
          let from = length (joined g i) in
          let room = joined_room n i l in
          ap (take (length (g i))) (drop-append-le from (joined g n) (g n) (omega arith))
          ∙ take-append-le (length (g i)) (drop from (joined g n)) (g n) (omega (arith, length-drop from (joined g n)))
          ∙ e

module _ (w : ℕ) (f : ℕ → List ℕ) (wide : (i : ℕ) → length (f i) ≡ w) where
  pub length_joined : (n : ℕ) → length (joined f n) ≡ w * n
  unfolding joined
  length_joined zero = sym (mul-zero w)
  length_joined (suc n) = omega (arith, length-append (joined f n) (f n), length_joined n, wide n, mul-suc w n)

  -- part i of equal parts
  pub joined_part : (n i : ℕ) → i < n → take w (drop (w * i) (joined f n)) ≡ f i
  joined_part n i h = rw (sym (length_joined i)) (rw (sym (wide i)) (joined_at f n i h))

-- the parts of a list, end to end, are the list
pub joined_prefix : (s : List ℕ) (w n : ℕ) → w * n ≤ length s → joined (λ i. take w (drop (w * i) s)) n ≡ take (w * n) s
unfolding joined
joined_prefix s w zero h = rw mul-zero
joined_prefix s w (suc n) h =
    ap (λ t. t ++ take w (drop (w * n) s)) (joined_prefix s w n (omega (arith, mul-suc w n)))
    ∙ sym (take-add (w * n) w s) ∙ ap (λ k. take k s) (sym (mul-suc w n))

pub joined_parts : (s : List ℕ) (w n : ℕ) → w * n ≡ length s → joined (λ i. take w (drop (w * i) s)) n ≡ s
joined_parts s w n e = joined_prefix s w n (omega arith) ∙ take_all (w * n) s (omega arith)

pub joined_same : (f g : ℕ → List ℕ) (n : ℕ) → ((i : ℕ) → i < n → f i ≡ g i) → joined f n ≡ joined g n
unfolding joined
joined_same f g zero h = refl
joined_same f g (suc n) h =
    let e = joined_same f g n (λ i l. h i (omega arith)) in
    let k = h n (omega arith) in
    cc
