-- The part of an LSA that a graph keeps: where its links lead.
use Rattle.std.specs.Prelude.{◌↔◌, ℕ, ◌≡◌, List, [], Contains, Option, Some, None}
use Rattle.std.specs.List.Sorted.{IsStrictlySortedBy}
use Rattle.ospf_types.specs.declared.entry.Vertex.{Vertex}
use Rattle.ospf_types.specs.declared.entry.Vertex.TheVariants.{Router, Network}
use Rattle.ospf_types.specs.declared.lsa.Link.{Link}
use Rattle.ospf_types.specs.declared.lsa.LinkKind.{LinkKind}
use Rattle.ospf_types.specs.declared.lsa.LinkKind.TheVariants as kind
use Rattle.ospf_types.specs.Lsa.{Body, RouterLink}
use Rattle.lsa_codec.specs.Readers.{links_of, routers_of}
use Rattle.graph_links.specs.declared.link_end.LinkEnd.{LinkEnd}
use Rattle.graph_links.specs.EndOrder.{end_cmp, listed_end}

-- stub links and links of type 4 lead to no vertex
abbrev pub end_by : LinkKind → RouterLink → Option LinkEnd
end_by kind.PointToPoint l = Some (record { to = Router l.id; detail = l.detail; metric = l.metric })
end_by kind.Transit l = Some (record { to = Network l.id; detail = l.detail; metric = l.metric })
end_by kind.Stub l = None
end_by kind.Virtual l = None

-- where a link of a router-LSA leads
abbrev pub end_of : RouterLink → Option LinkEnd
end_of l = end_by l.kind l

-- where a link leads that is given without its TOS entries
abbrev pub end_of_link : Link → Option LinkEnd
end_of_link l = end_by l.kind (record { id = l.id; detail = l.detail; kind = l.kind; metric = l.metric; tos = [] })

-- the vertex, with an LSA of this body, leads there
abbrev pub LeadsTo : Vertex → Body → LinkEnd → Type 0
LeadsTo (Router r) body e = (l : RouterLink) × Contains (links_of body) l × (end_of l ≡ Some e)
LeadsTo (Network n) body e = (router : ℕ) × Contains (routers_of body) router × (e ≡ listed_end router)

-- all that the vertex leads to, in order, without duplicates, so that there is one list of it
pub record AreEnds (v : Vertex) (body : Body) (ends : List LinkEnd) : Type 0 where
  pub in_order : IsStrictlySortedBy end_cmp ends
  pub exact : (e : LinkEnd) → Contains ends e ↔ LeadsTo v body e
