use Rattle.std.proofs.Common.{ap, ◌∙◌, List, map, Vec, Global}
use Rattle.std.specs.List.{filter_map}
use Rattle.ospf_types.specs.declared.entry.Vertex.TheVariants.{Router, Network}
use Rattle.lsa_codec.specs.Readers.{links_of, routers_of}
use Rattle.graph_links.specs.declared.link_end.LinkEnd.{LinkEnd}
use Rattle.graph_links.specs.EndOrder.{listed_end}
use Rattle.vertex_graph.specs.Ends.{end_of}
use Rattle.vertex_graph.proofs.Gathered.{HasAll, router_has, network_has, has_all_of_eq, gathered}
use Rattle.vertex_graph.proofs.ends.ends_of.Goals as goal
use Rattle.vertex_graph.proofs.ends.ends_of.Goals.{in-Router+in_ok-ends-in-Router, in-Network+in_ok-ends-in-Network}

pub returns : goal.returns
returns c =
    let body = c.args.lsa.now.body in
    let raw : List LinkEnd = c.match-vertex.ends.items in
    let all : HasAll c.args.vertex body raw = elim c.match-vertex.branch [
      | in-Router+in_ok-ends-in-Router w ↦
          has_all_of_eq c.args.vertex (Router w.in-Router.field-0) body raw (filter_map end_of (links_of body)) w.in-Router.is (ap (λ (v : Vec LinkEnd Global). v.items) w.ends-is ∙ w.in_ok-ends-in-Router.ensures) (router_has w.in-Router.field-0 body)
      | in-Network+in_ok-ends-in-Network w ↦
          has_all_of_eq c.args.vertex (Network w.in-Network.field-0) body raw (map listed_end (routers_of body)) w.in-Network.is (ap (λ (v : Vec LinkEnd Global). v.items) w.ends-is ∙ w.in_ok-ends-in-Network.ensures) (network_has w.in-Network.field-0 body)
    ] in
    gathered c.args.vertex body raw c.sort_unstable.new.self.items c.dedup.new.self.items all c.sort_unstable.ensures.permutation c.sort_unstable.ensures.sorted c.dedup.ensures.filtered
