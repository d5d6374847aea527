-- `hours::stages::sequence_at` meets its contract: where an hour is marked, the terms are added up one by one. Assumes
-- nothing.
use Rattle.std.proofs.Common.{arith, sym, ap, ◌≡◌, ◌+◌, ◌-◌, ◌*◌, ◌≤◌, ◌∙◌, ℕ, List}
use Rattle.cases.specs.Symbols.{sum, stage}
use Rattle.cases.specs.Limits.{most_output}
use Rattle.day.proofs.ConstraintsLaws.{stage_more}
use Rattle.hours.specs.Counted.{last_count, counted, Running}
use Rattle.hours.proofs.CountLaws.{counted_back, counted_more}
use Rattle.hours.proofs.NumbersLaws.{sequence_of}
use Rattle.hours.proofs.SumLaws.{summed_start, summed_step, summed_end, sum_unmarked}
use Rattle.hours.proofs.stages.sequence_at.Goals as goal

-- the hours are marked as often as the counts say
marked : (f : ℕ → ℕ) (counts : List ℕ) (k n from to marks : ℕ) → Running f last_count counts → to ≡ k + 1
    → from ≡ to - n → marks ≡ counted f to - counted f from → marks ≡ sum (λ i. f (k + 1 - i)) n
marked f counts k n from to marks r e d m =
    let low : from ≡ k + 1 - n = omega arith in
    omega (arith, counted_back f r.none (k + 1) n, ap (counted f) low, ap (counted f) e)

-- the mark of an hour, by the counts at its ends
mark_is : (f : ℕ → ℕ) (hour next mark : ℕ) → next ≡ hour + 1 → mark ≡ counted f next - counted f hour → mark ≡ f hour
mark_is f hour next mark e m = omega (arith, ap (counted f) e, counted_more f hour)

pub between-marks-requires : goal.between-marks-requires
between-marks-requires c = record { from_le_to = omega arith; by_index = c.requires.by_index }

pub returns-then-marks-eq0 : goal.returns-then-marks-eq0
returns-then-marks-eq0 c =
    let a = c.args in
    λ f r.
    let is = marked f a.counts.now a.k.0 a.n _ _ _ r c.next-hour.ensures c.less.ensures (c.between-marks.ensures f r) in
    let none = sym is ∙ c.if-marks-eq0.true in
    sequence_of is (sym (sum_unmarked (stage a.stages) (λ i. f (a.k.0 + 1 - i)) a.n none))

pub loop-i-init : goal.loop-i-init
loop-i-init c = record { at = omega arith; added = λ f r. summed_start }

pub between-mark-requires : goal.between-mark-requires
between-mark-requires c = record { from_le_to = omega arith; by_index = c.requires.by_index }

pub marked-requires : goal.marked-requires
marked-requires c =
    let (f, r) = c.requires.by_index in
    omega (arith, mark_is f _ _ _ c.next.ensures (c.between-mark.ensures f r), r.once c.less-hour.result.0)

pub plus-output-requires : goal.plus-output-requires
plus-output-requires c =
    let (f, r) = c.requires.by_index in
    let i = c.loop-i.i in
    let small : c.marked.result.0 ≤ most_output =
    omega (arith, c.requires.staged.most (i + 1) (omega arith), stage_more c.args.stages i) in
    omega (arith, (c.loop-i.invariant.added f r).most, c.requires.staged.count)

pub loop-i-preserved : goal.loop-i-preserved
loop-i-preserved c =
    let i = c.loop-i.i in
    let top = c.next-hour.result.0 in
    let small : c.marked.result.0 ≤ most_output =
    omega (arith, c.requires.staged.most (i + 1) (omega arith), stage_more c.args.stages i) in
    let at : c.less-hour.result.0 ≡ top - (i + 1) = omega arith in
    record {
      at = at;
      added = λ f r.
          let mark = mark_is f _ _ _ c.next.ensures (c.between-mark.ensures f r) ∙ ap f at in
          rw c.plus-output.ensures
          (summed_step c.marked.result.0 (c.loop-i.invariant.added f r) (omega arith)
          (c.marked.ensures.0 ∙ cc (stage_more c.args.stages i, mark)) small);
    }

pub returns : goal.returns
returns c =
    let a = c.args in
    λ f r.
    let is = marked f a.counts.now a.k.0 a.n _ _ _ r c.next-hour.ensures c.less.ensures (c.between-marks.ensures f r) in
    sequence_of is
    (summed_end (c.loop-i.invariant.added f r) (omega arith)
    ∙ ap (λ k. sum (λ j. stage a.stages j * f (k - j)) a.n) c.next-hour.ensures)
