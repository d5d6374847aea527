-- Of the loop of `cells::scan`: `best` leads among the outputs before p, and t is the amount for p. Assumes nothing.
use Rattle.std.proofs.Common.{◌≡◌, ℕ, ◌-◌, ℤ}
use Rattle.std.proofs.Math.Option.{Option}
use Rattle.machine.specs.Span.{span}
use Rattle.window.specs.Rows.{sloped}
use Rattle.cells.specs.Picks.{Held, on_line}
use Rattle.cells.proofs.LeadLaws.{Leads}
use Rattle.cells.proofs.scan.Given as goal

abbrev pub invariant-loop-p : goal.invariant-loop-p
invariant-loop-p l = record {
  amount : l.t.0 ≡ sloped l.line.first.0 l.line.slope.0 (l.p - l.fn.a.0);
  leads : (f : ℕ → Option ℤ) → Held f l.row l.lo.0 l.fn.a.0 l.fn.b.0
      → Leads (span (on_line f l.costs l.r.0 l.fn.a.0 l.line.first.0 l.line.slope.0) l.fn.a.0 (l.p - l.fn.a.0)) l.best;
}
