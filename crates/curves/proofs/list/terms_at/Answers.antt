-- `curves::list::terms_at` meets its contract. Assumes nothing.
use Rattle.std.proofs.Common.{arith, sym, ap, ◌∙◌, ℤ, ◌-ℤ◌}
use Rattle.cases.proofs.LimitsLaws.{limits_of_refusal_of}
use Rattle.cases.proofs.SymbolsLaws.{priced_suc}
use Rattle.curves.proofs.list.terms_at.Goals as goal

pub offset_bounds-case-k : goal.offset_bounds-case-k
offset_bounds-case-k c =
    let a = c.args.case.now in
    omega (arith, (limits_of_refusal_of a.case a.within).hours_le)

pub bounds-case-k : goal.bounds-case-k
bounds-case-k c =
    let a = c.args.case.now in
    omega (arith, (limits_of_refusal_of a.case a.within).hours_le)

pub returns : goal.returns
returns c =
    record {
      margin = c.margin-margin.ensures
          ∙ ap (λ (x : ℤ). x -ℤ c.args.rates.variable.0) (sym (priced_suc c.args.case.now.case.prices c.args.k));
      charges = c.charges_of-charges.ensures;
    }
