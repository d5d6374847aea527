-- Laws of the refusal tests: the first that applies, the first number whose limits are not kept, a section that is so
-- many entries, a day that opens in a sequence, and tests that go over a list from its front. Assumes nothing.
use mathlib.Core.Path.{◌≡◌, refl, sym, ap, ◌∙◌, subst}
use mathlib.Core.Logic.{◌↔◌}
use mathlib.Core.Bool.{Bool, true, false, ◌&&◌, cond, false≢true}
use mathlib.Core.List.{List, [], ◌∷◌, ◌++◌}
use Prim.Native.Nat.{ℕ, zero, suc, ◌+◌, ◌*◌, ◌-◌, ◌/◌, ◌≤◌, ◌<◌, min}
use native.Mathlib.Nat.{mul-div_cancel_left, mul-div-le, mul-lt-mul_of_pos_left, min-eq_left, min-eq_right, le_of_lt}
use native.Mathlib.Omega.{arith}
use native.Mathlib.Numerals.{add-one}
use borrow.Author.Tests.{eq-eqb, ne_eqb, eqb-true, leb-true, leb-false}
use lib.Dec.{T, leb, ltb, eqb, eqb-suc-zero}
use lib.ListN.{get_or}
use Rattle.laws.proofs.Tests.{and_true, and_false, both}
use Rattle.cases.specs.declared.Case.{Case}
use Rattle.quantities.specs.declared.Output.{Output}
use Rattle.quantities.specs.declared.Mills.{Mills}
use Rattle.cases.specs.Symbols.{every, stage, hourly, priced, h}
use Rattle.cases.specs.Forms.{numbered, unknown}
use Rattle.cases.specs.Layout.{no_output, no_mills, offset_at, form_number_at}
use Rattle.cases.specs.Refusals.{refusal12}
use Rattle.cases.specs.Refusals.{within, fits, first_of, tests}
use Rattle.cases.specs.Refusals.{refusal_of}
use Rattle.cases.specs.Published.{FirstRefused, none, here, later, record_order, file_order}
use Rattle.cases.proofs.LimitsLaws.{Between, within_true, between_within}
use Rattle.cases.proofs.FormsLaws.{old_front}

-- ---- the first that applies
abbrev pub positive : List (ℕ × Bool) → Type 0
positive [] = T true
positive ((zero, t) ∷ ts) = ⊥
positive ((suc n, t) ∷ ts) = positive ts

-- tests with numbers above 0, and then further ones
pub first_of_append : (ts more : List (ℕ × Bool)) → positive ts
    → first_of (ts ++ more) ≡ cond (eqb (first_of ts) 0) (first_of more) (first_of ts)
unfolding first_of
first_of_append [] more h = refl
first_of_append ((zero, t) ∷ ts) more h = absurd h
first_of_append ((suc n, true) ∷ ts) more h = rw (eqb-suc-zero n)
first_of_append ((suc n, false) ∷ ts) more h = first_of_append ts more h

-- the tests of a record, and then further ones
pub first_of_tests : (c : Case) (more : List (ℕ × Bool))
    → first_of (tests c more) ≡ cond (eqb (refusal_of c) 0) (first_of more) (refusal_of c)
unfolding tests refusal_of
first_of_tests c more = first_of_append (tests c []) more tt

-- of a record within the limits only further tests can apply
pub tests_within : (c : Case) (more : List (ℕ × Bool)) → refusal_of c ≡ 0 → first_of (tests c more) ≡ first_of more
tests_within c more e = first_of_tests c more ∙ ap (λ n. cond (eqb n 0) (first_of more) n) e

-- ---- the first number whose limits are not kept
module _ {limited : ℕ → Type 0} where
  -- there is one at the most
  first_unique : {ns : List ℕ} {n m : ℕ} → FirstRefused limited ns n → FirstRefused limited ns m → n ≡ m
  first_unique none none = refl
  first_unique (here out) (here off) = refl
  first_unique (here out) (later l k) = absurd (out l)
  first_unique (later l k) (here off) = absurd (off l)
  first_unique (later l k) (later m j) = first_unique k j

  pub first_exactly : {ns : List ℕ} {r : ℕ} → FirstRefused limited ns r → (n : ℕ) → (r ≡ n) ↔ FirstRefused limited ns n
  first_exactly {ns} f n = (λ e. subst (FirstRefused limited ns) e f, first_unique f)

  -- a number whose test applies is the first; else those after it
  pub first_cond : {ns : List ℕ} {a r : ℕ} (t : Bool) → (limited a → t ≡ false)
      → (t ≡ false → FirstRefused limited (a ∷ ns) r) → FirstRefused limited (a ∷ ns) (cond t a r)
  first_cond true out rest = here (λ l. false≢true (sym (out l)))
  first_cond false out rest = rest refl

  -- the tests in turn, each false exactly where its limits are kept
  pub first_test : {ns : List ℕ} {a r : ℕ} (t : Bool) → ((t ≡ false) ↔ limited a) → FirstRefused limited ns r
      → FirstRefused limited (a ∷ ns) (cond t a r)
  first_test t same rest = first_cond t same.1 (λ e. later (same.0 e) rest)

  -- past a number whose limits are kept
  pub first_rest : {ns : List ℕ} {a r : ℕ} → limited a → FirstRefused limited (a ∷ ns) r → FirstRefused limited ns r
  first_rest l (here out) = absurd (out l)
  first_rest l (later m k) = k

-- families that agree where a test passes have one first number among numbers that pass it
abbrev pub among : (ℕ → Bool) → List ℕ → Type 0
among p [] = T true
among p (n ∷ ns) = T (p n) × among p ns

pub first_same : {limited other : ℕ → Type 0} (p : ℕ → Bool) → ((m : ℕ) → T (p m) → limited m ↔ other m)
    → {ns : List ℕ} {r : ℕ} → among p ns → FirstRefused limited ns r → FirstRefused other ns r
first_same p e in_p none = none
first_same p e in_p (here out) = here (λ l. out ((e _ in_p.0).1 l))
first_same p e in_p (later l k) = later ((e _ in_p.0).0 l) (first_same p e in_p.1 k)

-- where none is refused, limits that are kept with these refuse none
pub none_first : {limited other : ℕ → Type 0} → ((m : ℕ) → limited m → other m) → {ns : List ℕ} → among (ltb 0) ns
    → FirstRefused limited ns 0 → FirstRefused other ns 0
none_first {limited = limited} {other = other} e {ns = ns} in_p f = go ns refl f in_p
  where
    go : (ns : List ℕ) {r : ℕ} → r ≡ 0 → FirstRefused limited ns r → among (ltb 0) ns → FirstRefused other ns 0
    go [] z none in_p = none
    go (n ∷ ns) z (here out) in_p = absurd (subst (λ m. T (ltb 0 m)) z in_p.0)
    go (n ∷ ns) z (later l k) in_p = later (e _ l) (go ns z k in_p.1)

-- no number of a record, and none of a file, is 0
pub record_numbers : among (ltb 0) record_order
record_numbers = (tt, (tt, (tt, (tt, (tt, (tt, (tt, (tt, tt))))))))

pub file_numbers : among (ltb 0) file_order
file_numbers = (tt, (tt, (tt, (tt, (tt, (tt, (tt, (tt, (tt, (tt, tt))))))))))

-- ---- a section that is so many entries
pub fits_true : (w most n : ℕ) → fits w most n ≡ true → (w * (n / w) ≡ n) × Between 1 most (n / w)
unfolding fits
fits_true w most n e =
    let (a, b) = both (eqb (w * (n / w)) n) (within 1 most (n / w)) e in
    (eqb-true (w * (n / w)) n a, within_true 1 most (n / w) b)

pub fits_times : (w most n : ℕ) → 0 < w → Between 1 most n → fits w most (w * n) ≡ true
unfolding fits
fits_times w most n p b =
    rw (mul-div_cancel_left n p, eq-eqb (w * n) (w * n) refl, between_within 1 most n b)

-- the same of entries that are counted no further than there may be
pub fits_counted : (w most n : ℕ) → 0 < w
    → eqb (w * min (n / w) most) n && leb 1 (min (n / w) most) ≡ fits w most n
unfolding fits
fits_counted w most n p = go (leb (n / w) most) refl
  where
    go : (t : Bool) → leb (n / w) most ≡ t
        → eqb (w * min (n / w) most) n && leb 1 (min (n / w) most)
        ≡ eqb (w * (n / w)) n && (leb 1 (n / w) && leb (n / w) most)
    go true e =
        rw (min-eq_left (leb-true (n / w) most e), e)
        (ap (λ t. eqb (w * (n / w)) n && t) (sym (and_true (leb 1 (n / w)))))
    go false e =
        let past : most < n / w = leb-false (n / w) most e in
        let short : w * most < n = omega (arith, mul-lt-mul_of_pos_left past p, mul-div-le n w) in
        rw (min-eq_right (le_of_lt past), ne_eqb (w * most) n (λ d. omega arith), e)
        (sym (ap (λ t. eqb (w * (n / w)) n && t) (and_false (leb 1 (n / w))) ∙ and_false (eqb (w * (n / w)) n)))

-- ---- 12, of a file of the old form and of one that holds its number
module _ (file : List ℕ) where
  pub refusal12_old : offset_at file 0 ≡ old_front → refusal12 file ≡ false
  unfolding refusal12
  refusal12_old e = rw (eq-eqb (offset_at file 0) old_front e)

  pub refusal12_late : (offset_at file 0 ≡ old_front → ⊥) → refusal12 file ≡ unknown numbered (form_number_at file)
  unfolding refusal12
  refusal12_late h = rw (ne_eqb (offset_at file 0) old_front h)

-- ---- tests that go over a list from its front
pub every_none : (f : ℕ → Bool) → true ≡ every f 0
unfolding every
every_none f = refl

-- one test more
pub every_more : (f : ℕ → Bool) (i : ℕ) {so next : Bool} → so ≡ every f i → next ≡ f (suc i)
    → (so && next) ≡ every f (i + 1)
unfolding every
every_more f i {so} {next} e n = rw add-one (cc)

-- entry i of a list, as the document counts it
pub stage_here : (l : List Output) (i : ℕ) → (get_or l i no_output).0 ≡ stage l (suc i)
unfolding stage
stage_here l i = refl

pub stage_next : (l : List Output) (i : ℕ) → (get_or l (i + 1) no_output).0 ≡ stage l (suc (suc i))
unfolding stage
stage_next l i = rw add-one

pub stage_last : (l : List Output) (n : ℕ) → 1 ≤ n → (get_or l (n - 1) no_output).0 ≡ stage l n
unfolding stage
stage_last l n h = stage_here l (n - 1) ∙ ap (stage l) (let e : suc (n - 1) ≡ n = omega arith in e)

pub hourly_here : (l : List ℕ) (i : ℕ) → get_or l i 0 ≡ hourly l (suc i)
unfolding hourly
hourly_here l i = refl

pub priced_here : (l : List Mills) (i : ℕ) → (get_or l i no_mills).0 ≡ priced l (suc i)
unfolding priced
priced_here l i = refl
