use Rattle.std.proofs.Common.{subst}
use Rattle.std.specs.Prelude.{◌≡◌, ◌↔◌, IsTrue}
use Rattle.ospf_types.specs.declared.entry.Vertex.{Vertex}
use Rattle.ospf_types.specs.declared.entry.Vertex.TheVariants.{Router}
use Rattle.spf.proofs.hints.is_at_root.Goals as goal

pub returns : goal.returns
returns c = subst (λ (v : Vertex). IsTrue c.is_root.result ↔ (v ≡ Router c.args.root)) c.vertex.ensures c.is_root.ensures
