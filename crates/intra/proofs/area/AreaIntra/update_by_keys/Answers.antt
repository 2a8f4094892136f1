-- The routers of one named thing more.
use Rattle.std.proofs.Common.{ℕ, ◌+◌, List, get_or, take, subst}
use Rattle.std.proofs.lemmas.List.{get_or_default, take_all}
use Rattle.ospf_types.specs.declared.entry.Vertex.TheVariants.{Router}
use Rattle.ospf_types.specs.declared.key.Key.{Key}
use Rattle.ospf_types.specs.declared.key.Scope.{Scope}
use Rattle.ospf_types.specs.declared.key.Scope.TheVariants.{Area}
use Rattle.spf.specs.HandedOn.{IsOfSome}
use Rattle.spf.proofs.OfSome.{of_more}
use Rattle.intra.specs.Following.{NamesVertex, AreRoutersUpdated}
use Rattle.intra.proofs.Following.{updated_then}
use Rattle.intra.proofs.area.AreaIntra.update_by_keys.Goals as goal

pub loop-named-preserved : goal.loop-named-preserved
loop-named-preserved c =
    let i = c.loop-named.named-index in
    let all = c.args.keys.now in
    let names = NamesVertex c.args.self.now.id in
    let x : Scope × Key = get_or all i (Area 0, record { kind = 0; id = 0; router = 0 }) in
    let step = subst (λ (id : ℕ). AreRoutersUpdated c.args.rooted.now.root c.args.rooted.now.area.now (λ r. NamesVertex id x (Router r)) c.loop-named.self c.update_by_key.new.self c.loop-named.routers.items c.update_by_key.new.routers.items) c.loop-named.invariant.id c.in_ok-update_by_key.ensures in
    updated_then c.args.rooted.now.root c.args.rooted.now.area.now (λ r. IsOfSome (take i all) names (Router r)) (λ r. names x (Router r)) (λ r. IsOfSome (take (i + 1) all) names (Router r)) _ c.loop-named.self _ _ c.loop-named.routers.items _
    (λ r. of_more names all i x (Router r) c.loop-named-test.true (get_or_default all i _ _ c.loop-named-test.true)) c.loop-named.invariant step

pub returns : goal.returns
returns c =
    subst (λ (all : List (Scope × Key)). AreRoutersUpdated c.args.rooted.now.root c.args.rooted.now.area.now (λ r. IsOfSome all (NamesVertex c.args.self.now.id) (Router r)) c.args.self.now c.loop-named.self c.args.routers.now.items c.loop-named.routers.items)
    (take_all c.loop-named.named-index c.args.keys.now c.loop-named-test.false) c.loop-named.invariant
