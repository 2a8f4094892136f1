-- One named vertex more.
use Rattle.std.proofs.Common.{ℕ, ◌+◌, List, get_or, take, subst}
use Rattle.std.proofs.lemmas.List.{get_or_default, take_all}
use Rattle.ospf_types.specs.declared.entry.Vertex.{Vertex}
use Rattle.ospf_types.specs.declared.entry.Vertex.TheVariants.{Router}
use Rattle.spf.specs.HandedOn.{IsOfSome}
use Rattle.spf.proofs.OfSome.{of_more}
use Rattle.intra.specs.Indexes.{IndexValue}
use Rattle.intra.specs.Following.{HasOffered, AreRoutersUpdated, NamesIn}
use Rattle.intra.proofs.Following.{offered_then, updated_then}
use Rattle.intra.proofs.area.AreaIntra.follow_vertices.Goals as goal

pub loop-vertex-preserved : goal.loop-vertex-preserved
loop-vertex-preserved c =
    let i = c.loop-vertex.vertex-index in
    let all = c.args.vertices.now in
    let first = c.args.self.now in
    let now = c.loop-vertex.self in
    let names = NamesIn first.id in
    let x : ℕ × Vertex = get_or all i (0, Router 0) in
    let so_far = c.loop-vertex.invariant in
    let prefixes = c.loop-vertex.named.prefixes.items in
    let more = c.follow_named.new.named.prefixes.items in
    let routers = c.loop-vertex.named.routers.items in
    let then = c.follow_named.new.named.routers.items in
    let offered = subst (λ (j : IndexValue). HasOffered j (names x) prefixes more) so_far.updated.index (subst (λ (id : ℕ). HasOffered now.index (NamesIn id x) prefixes more) so_far.updated.id c.in_ok-follow_named.ensures.offered) in
    let updated = subst (λ (id : ℕ). AreRoutersUpdated c.args.rooted.now.root c.args.rooted.now.area.now (λ r. NamesIn id x (Router r)) now c.follow_named.new.self routers then) so_far.updated.id c.in_ok-follow_named.ensures.updated in
    let at = get_or_default all i (0, Router 0) _ c.loop-vertex-test.true in
    record {
      offered = offered_then first.index (IsOfSome (take i all) names) (names x) (IsOfSome (take (i + 1) all) names) _ prefixes _ (λ v. (of_more names all i x v c.loop-vertex-test.true at).0) so_far.offered offered;
      updated = updated_then c.args.rooted.now.root c.args.rooted.now.area.now (λ r. IsOfSome (take i all) names (Router r)) (λ r. names x (Router r)) (λ r. IsOfSome (take (i + 1) all) names (Router r)) _ now _ _ routers _
          (λ r. of_more names all i x (Router r) c.loop-vertex-test.true at) so_far.updated updated;
    }

pub returns-clause-offered : goal.returns-clause-offered
returns-clause-offered c =
    subst (λ (all : List (ℕ × Vertex)). HasOffered c.args.self.now.index (IsOfSome all (NamesIn c.args.self.now.id)) c.args.named.now.prefixes.items c.loop-vertex.named.prefixes.items)
    (take_all c.loop-vertex.vertex-index c.args.vertices.now c.loop-vertex-test.false) c.loop-vertex.invariant.offered

pub returns-clause-updated : goal.returns-clause-updated
returns-clause-updated c =
    subst (λ (all : List (ℕ × Vertex)). AreRoutersUpdated c.args.rooted.now.root c.args.rooted.now.area.now (λ r. IsOfSome all (NamesIn c.args.self.now.id) (Router r)) c.args.self.now c.loop-vertex.self c.args.named.now.routers.items c.loop-vertex.named.routers.items)
    (take_all c.loop-vertex.vertex-index c.args.vertices.now c.loop-vertex-test.false) c.loop-vertex.invariant.updated
