use Rattle.std.proofs.Common.{◌≢◌, List, sym, ap, subst, ◌∙◌}
use Rattle.std.specs.List.{AllPairs, Contains}
use Rattle.ospf_types.proofs.Elements.{no_element}
use Rattle.intra.specs.declared.offered.OfferedPrefix.{OfferedPrefix}
use Rattle.std.specs.FinMap.{insert, from_entries}
use Rattle.ospf_types.specs.Vertices.{vertex_cmp}
use Rattle.ospf_types.specs.declared.entry.Vertex.{Vertex}
use Rattle.intra.specs.Indexes.{IndexValue, IsSource, OfferedByVertex, offers_of}
use Rattle.intra.specs.IndexSteps.{HaveOffersCome, IsOfferOf}
use Rattle.ospf_types.proofs.VertexOrder.{vertex_total, vertex_exact, vertices_order}
use Rattle.route_choice.proofs.KeyedMaps.{inserted}
use Rattle.intra.proofs.SourceMaps.{sources_map}
use Rattle.intra.proofs.IndexSteps.{put_there, come_kept}
use Rattle.intra.proofs.area_index.AreaIndex.put_in.Goals as goal

pub add_sources-requires-clause-absent : goal.add_sources-requires-clause-absent
add_sources-requires-clause-absent c = λ p metric there.
    let i = c.args.self.now in
    no_element _ (subst (λ (os : List OfferedPrefix). Contains os (record { prefix = p; metric = metric })) (ap offers_of c.requires.absent) ((c.requires.index c.args.vertex p metric).0 (subst (λ (v : Vertex). IsSource i v p metric) c.with_hint.ensures there)))

pub add_sources-requires-clause-each_once : goal.add_sources-requires-clause-each_once
add_sources-requires-clause-each_once c = subst (λ (os : List OfferedPrefix). AllPairs (λ a b. a ≢ b) os) (sym c.offers.ensures.value) c.offers.ensures.each_once

pub returns-clause-offered : goal.returns-clause-offered
returns-clause-offered c =
    inserted vertex_total vertex_exact vertices_order c.self.inside.offered.entries c.insert.new.self.entries c.args.vertex c.args.fresh c.in_ok-insert.ensures.updates.0
    ∙ ap (λ (i : IndexValue). insert i.offered c.args.vertex c.args.fresh) c.self.view_is
    ∙ ap (λ (m : OfferedByVertex). insert m c.args.vertex c.args.fresh) c.in_ok-add_sources.ensures.offered

pub returns-clause-index : goal.returns-clause-index
returns-clause-index c =
    let new : IndexValue = record { offered = from_entries {R = vertex_cmp} c.insert.new.self.entries; sources = sources_map c.self.inside.sources.entries } in
    put_there c.args.self.now new c.args.vertex c.args.fresh c.requires.absent c.requires.index (returns-clause-offered c)
    (come_kept c.args.vertex c.offers.result.now c.args.fresh.offers c.offers.ensures.value c.args.self.now c.add_sources.new.self new (sym (ap (λ (i : IndexValue). i.sources) c.self.view_is)) (subst (λ (v : Vertex). HaveOffersCome (IsOfferOf v c.offers.result.now) c.args.self.now c.add_sources.new.self) c.with_hint.ensures c.in_ok-add_sources.ensures.come))
