-- `costs::fill_table` meets its contract: the record is the kind's, so its test and its table are. Assumes nothing.
use Rattle.std.proofs.Common.{◌≡◌, sym, ap, ◌∙◌, true, List, ◌++◌, ℤ, drop, arith}
use Rattle.laws.proofs.Tests.{true_to_t}
use Rattle.curve.specs.declared.Curve.{Curve}
use Rattle.curve.specs.Cost.{costs_length, record_of, curved_of, accepted, Usable, table_of}
use Rattle.curve.proofs.HeldLaws.{kind_held}
use Rattle.curve.proofs.SuppliedLaws.{answers_done}
use Rattle.curve.proofs.TableLaws.{record_table}
use Rattle.costs.proofs.fill_table.Goals as goal

pub returns : goal.returns
returns c =
    let k = c.args.kind in
    let l = c.args.table.now in
    let passed : accepted (record_of k) ≡ true =
    sym (c.accepts.ensures ∙ ap accepted c.record_of-curve.ensures) ∙ c.if-not-accepts.false in
    let usable : Usable k = record { floats = kind_held k c.well_formed.0; passes = true_to_t _ passed } in
    let a = answers_done k l passed (omega (arith, c.if-table-lt-ROOM.false)) in
    let table : table_of (curved_of c.record_of-curve.result) ≡ table_of k =
    ap (λ (r : Curve). table_of (curved_of r)) c.record_of-curve.ensures ∙ record_table usable in
    (sym a.0, c.fill.ensures ∙ ap (λ (t : List ℤ). t ++ drop costs_length l) table ∙ sym a.1)
