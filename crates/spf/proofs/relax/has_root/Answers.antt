use Rattle.std.proofs.Common.{ap, not}
use Rattle.spf.proofs.Resetting.{rooted_by}
use Rattle.spf.proofs.relax.has_root.Goals as goal

pub returns-then-not-is_empty : goal.returns-then-not-is_empty
returns-then-not-is_empty c = (
  λ test. rooted_by c.args.graph.now c.links_from_at.result.now c.args.root.now c.is_empty.result c.requires c.links_from_at.ensures.exact c.is_empty.ensures test,
  λ has. ap not c.if-not-is_empty.true,
)
