use Rattle.std.proofs.Common.{◌≡◌, ap, ◌∙◌}
use Rattle.std.specs.FinMap.{get, remove, from_entries}
use Rattle.ospf_types.specs.Vertices.{vertex_cmp}
use Rattle.intra.specs.Indexes.{IndexValue, offers_of}
use Rattle.ospf_types.proofs.VertexOrder.{vertex_total, vertex_exact, vertices_order}
use Rattle.route_choice.proofs.KeyedMaps.{looked_up, removed}
use Rattle.intra.proofs.SourceMaps.{sources_map}
use Rattle.intra.proofs.IndexSteps.{taken_out, gone_kept}
use Rattle.intra.proofs.area_index.AreaIndex.take_out.Goals as goal

pub returns-clause-value : goal.returns-clause-value
returns-clause-value c =
    let v = c.args.vertex in
    c.swap_remove-gone.ensures.value ∙ looked_up vertex_total vertex_exact vertices_order c.self.inside.offered.entries v ∙ ap (λ (i : IndexValue). get i.offered v) c.self.view_is

pub returns-clause-offered : goal.returns-clause-offered
returns-clause-offered c =
    c.remove_sources.ensures.offered
    ∙ removed vertex_total vertex_exact vertices_order c.self.inside.offered.entries c.swap_remove-gone.new.self.entries c.args.vertex c.swap_remove-gone.ensures.updates.0
    ∙ ap (λ (i : IndexValue). remove i.offered c.args.vertex) c.self.view_is

pub returns-clause-index : goal.returns-clause-index
returns-clause-index c =
    let v = c.args.vertex in
    let mid : IndexValue = record { offered = from_entries {R = vertex_cmp} c.swap_remove-gone.new.self.entries; sources = sources_map c.self.inside.sources.entries } in
    let had : c.listed.result.now ≡ offers_of (get c.args.self.now.offered v) = c.listed.ensures ∙ ap offers_of (c.as_ref.ensures.value ∙ returns-clause-value c) in
    taken_out c.args.self.now c.remove_sources.new.self v c.listed.result.now had c.requires (returns-clause-offered c)
    (gone_kept v c.listed.result.now c.listed.result.now (λ i. c.listed.result.now) c.args.self.now mid c.remove_sources.new.self (ap (λ (i : IndexValue). i.sources) c.self.view_is) c.remove_sources.ensures.gone)
