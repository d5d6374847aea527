-- Without a table the window has the answers. Assumes nothing.
use Rattle.std.proofs.Common.{◌≡◌, length, rules}
use Rattle.rows.proofs.Opens.{swept_of_windowed}
use Rattle.rows.proofs.widest.Goals as goal

pub returns-then-is_empty : goal.returns-then-is_empty
returns-then-is_empty c =
    let none : length c.args.costs.now ≡ 0 = search rules in
    swept_of_windowed _ none c.window.ensures
