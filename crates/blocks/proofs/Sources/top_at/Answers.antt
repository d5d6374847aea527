-- The larger of three parts.
use Rattle.money.proofs.OrderLaws.{larger_of}
use Rattle.blocks.proofs.Sources.top_at.Goals as goal

pub returns : goal.returns
returns c =
    cc (
      larger_of c.max.result c.most-after.result c.max-2.ensures,
      larger_of c.most-before.result c.most-among.result c.max.ensures,
      c.most-before.ensures,
      c.most-among.ensures,
      c.most-after.ensures,
      c.min.ensures,
      c.min-b.ensures,
      c.saturating_sub-a.ensures,
    )
