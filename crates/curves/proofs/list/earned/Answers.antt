-- `curves::list::earned` meets its contract: what the hours earn is added up. Assumes nothing.
use Rattle.std.proofs.Common.{arith, sym, ap, ◌≡◌, ◌≤◌, ◌∙◌, ℤ, nat_abs, ◌+ℤ◌, add-one}
use Rattle.cases.specs.declared.admitted.Admitted.{Admitted}
use Rattle.day.specs.Profit.{profit_by_to}
use Rattle.day.proofs.KeepsLaws.{kept_length}
use Rattle.cases.proofs.LimitsLaws.{Limits, limits_of_refusal_of}
use Rattle.day.proofs.MarksLaws.{p_zero, p_suc}
use Rattle.day.proofs.ProfitLaws.{profit_by_to_none, profit_by_is}
use Rattle.machine.specs.Bounds.{most_earned}
use Rattle.machine.proofs.Table.Sizes.{earn_abs}
use Rattle.curves.proofs.DayLaws.{alike_fair, energy_within, earned_step, earned_more}
use Rattle.curves.proofs.list.earned.Goals as goal

-- the case keeps the limits
limits : (a : Admitted) → Limits a.case
limits a = limits_of_refusal_of a.case a.within

pub loop-k-init : goal.loop-k-init
loop-k-init c =
    record {
      was = sym (p_zero c.args.case.now.case c.args.list.now);
      most = omega arith;
      is = λ cost pays. sym (profit_by_to_none cost _ _);
    }

pub offset_bounds-list-k : goal.offset_bounds-list-k
offset_bounds-list-k c = omega (arith, (limits c.args.case.now).hours_le)

pub bounds-list-k : goal.bounds-list-k
bounds-list-k c = omega (arith, kept_length c.args.case.now.case c.args.list.now c.requires.keeps)

pub earned-requires : goal.earned-requires
earned-requires c =
    let a = c.args.case.now in
    let l = c.args.list.now in
    let k = c.loop-k.k in
    let (cost, pays) = c.requires.by_index in
    record {
      fair = alike_fair a.case a.within pays k c.loop-k-test.true c.terms_at-hour.ensures;
      p_bound = omega (
        arith,
        energy_within a.case a.within pays k c.loop-k-test.true c.terms_at-hour.ensures l c.requires.keeps,
        c.loop-k.invariant.was,
        p_suc a.case l k,
      );
    }

pub sum-total-requires : goal.sum-total-requires
sum-total-requires c =
    let a = c.args.case.now in
    let l = c.args.list.now in
    let k = c.loop-k.k in
    let (cost, pays) = c.requires.by_index in
    let fair = alike_fair a.case a.within pays k c.loop-k-test.true c.terms_at-hour.ensures in
    let within = energy_within a.case a.within pays k c.loop-k-test.true c.terms_at-hour.ensures l c.requires.keeps in
    let gain : nat_abs c.earned.result.0 ≤ most_earned =
    rw c.earned.ensures (earn_abs fair _ _ (omega (arith, within, c.loop-k.invariant.was, p_suc a.case l k))) in
    omega (arith, c.loop-k.invariant.most, (limits a).hours_le)

pub loop-k-preserved : goal.loop-k-preserved
loop-k-preserved c =
    let a = c.args.case.now in
    let l = c.args.list.now in
    let k = c.loop-k.k in
    let h = c.loop-k.invariant in
    let next = p_suc a.case l k in
    let (cost, pays) = c.requires.by_index in
    let fair = alike_fair a.case a.within pays k c.loop-k-test.true c.terms_at-hour.ensures in
    let within = energy_within a.case a.within pays k c.loop-k-test.true c.terms_at-hour.ensures l c.requires.keeps in
    let gain : nat_abs c.earned.result.0 ≤ most_earned =
    rw c.earned.ensures (earn_abs fair _ _ (omega (arith, within, h.was, next))) in
    record {
      was = rw (add-one k) (sym next);
      most = rw (add-one k, c.sum-total.ensures) (earned_more c.loop-k.total.0 c.earned.result.0 k h.most gain);
      is = λ cost pays. c.sum-total.ensures ∙ ap (λ (z : ℤ). z +ℤ c.earned.result.0) (h.is cost pays)
          ∙ ap (λ (z : ℤ). profit_by_to cost a.case l k +ℤ z) c.earned.ensures
          ∙ earned_step a.case a.within pays k c.loop-k-test.true c.terms_at-hour.ensures l c.requires.keeps h.was
          (sym next)
          ∙ ap (profit_by_to cost a.case l) (sym (add-one k));
    }

pub returns : goal.returns
returns c =
    let case = c.args.case.now.case in
    let e : c.loop-k.k ≡ case.hours = omega arith in
    λ cost pays. c.loop-k.invariant.is cost pays ∙ ap (profit_by_to cost case c.args.list.now) e
    ∙ sym (profit_by_is cost case c.args.list.now)
