use Rattle.std.proofs.Common.{List, ◌++◌, ◌∷◌, [], ℕ, map, eqb, refl, ap, ◌∙◌}
use Rattle.std.specs.List.{dedup}
use Rattle.graph_links.specs.declared.link_end.LinkEnd.{LinkEnd}
use Rattle.graph_links.specs.declared.link.GraphLink.{GraphLink}
use Rattle.ospf_types.specs.declared.label.Label.{Label}
use Rattle.graph_links.proofs.Details.{details_of_ends}
use Rattle.graph_links.proofs.Pairing.{onto_added, onto_apart}
use Rattle.graph_links.proofs.vertex_pair.VertexPair.list_from_network.Goals as goal

pub returns-clause-listed : goal.returns-clause-listed
returns-clause-listed c back all =
    let pair = c.args.self.now in
    let network = pair.from.vertex in
    let addresses : List ℕ = dedup eqb (map (λ (e : LinkEnd). e.detail) pair.to.ends.now) in
    let labelled : Label → List GraphLink = λ label. c.args.links.now.items ++ record { from = network; to = pair.to.vertex; cost = 0; label = label } ∷ [] in
    onto_added network c.in-Router.field-0 pair.to.vertex back addresses c.args.links.now.items c.push.new.self.items c.in-Router.is (details_of_ends network back pair.to.ends.now all.in_order all.exact)
    (c.in_ok-push.ensures.items ∙ ap (λ (l : GraphLink). c.args.links.now.items ++ l ∷ []) c.link.ensures ∙ ap labelled c.in_ok-label.ensures.label)

pub returns-clause-apart : goal.returns-clause-apart
returns-clause-apart c =
    let pair = c.args.self.now in
    onto_apart pair.from.vertex pair.to.vertex c.args.links.now.items c.push.new.self.items _ (c.in_ok-push.ensures.items ∙ ap (λ (l : GraphLink). c.args.links.now.items ++ l ∷ []) c.link.ensures) refl refl
