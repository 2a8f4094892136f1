-- The vertex is the one that is named.
use Rattle.std.proofs.Common.{◌≡◌, ℕ, ap, sym}
use Rattle.std.proofs.lemmas.Result.{on_ok_weaker}
use Rattle.ospf_types.specs.declared.entry.Vertex.{Vertex}
use Rattle.intra.specs.Following.{NamesIn}
use Rattle.intra.proofs.Following.{offered_fewer}
use Rattle.intra.proofs.area.AreaIntra.follow_named.Goals as goal

pub returns-then-stays_out-clause-offered : goal.returns-then-stays_out-clause-offered
returns-then-stays_out-clause-offered c =
    let a = c.args.self.now in
    offered_fewer a.index (λ v. v ≡ c.args.vertex.1) (NamesIn a.id c.args.vertex) c.args.named.now.prefixes.items c.name_prefixes.new.prefixes.items (λ v e. sym (ap (λ (named : ℕ × Vertex). named.1) e)) c.in_ok-flags.ensures.offered

pub returns-clause-offered : goal.returns-clause-offered
returns-clause-offered c =
    let a = c.args.self.now in
    on_ok_weaker c.update_vertex.result
    (λ updated. offered_fewer a.index (λ v. v ≡ c.args.vertex.1) (NamesIn a.id c.args.vertex) c.args.named.now.prefixes.items c.name_prefixes.new.prefixes.items (λ v e. sym (ap (λ (named : ℕ × Vertex). named.1) e)) c.in_ok-flags.ensures.offered)
    c.update_vertex.ensures
