-- The lines of an explanation as JSON objects. The members of an object ascend by name.
use Rattle.std.specs.Prelude.{ℕ, ◌++◌, List, [], ◌∷◌, Option, Some, None, codes, if◌then◌else◌}
use Rattle.std.specs.Int.{w32, to_be_bytes}
use Rattle.serde_json.specs.Data.{Data, null, string}
use Rattle.ospf_types.specs.declared.prefix.Prefix.{Prefix}
use Rattle.ospf_types.specs.declared.entry.Vertex.{Vertex}
use Rattle.ospf_types.specs.declared.entry.Vertex.TheVariants.{Router, Network}
use Rattle.ospf_types.specs.declared.hop.Path.{Path}
use Rattle.route_table.specs.declared.table.Item.{Item}
use Rattle.route_table.specs.declared.table.Item.TheVariants as item
use Rattle.route_table.specs.declared.table.Match.{Match}
use Rattle.route_table.specs.declared.table.Match.TheVariants as found
use Rattle.output_lines.specs.Members.{JsonMember, object_of, number_data, address_data, network_data, hex_data}
use Rattle.output_lines.specs.Routes.{route_data, path_data}
use Rattle.output_lines.specs.Keys.{scope_data}
use Rattle.explanation.specs.declared.explained.Candidate.{Candidate}
use Rattle.explanation.specs.declared.offer.Offer.{Offer}
use Rattle.explanation.specs.declared.offer.OfferKind.{OfferKind}
use Rattle.explanation.specs.declared.offer.OfferKind.TheVariants.{Stub, Transit, Summary, AsExternal}
use Rattle.explanation.specs.declared.offer.LsaInstance.{LsaInstance}
use Rattle.explanation.specs.declared.trace.TraceNode.{TraceNode}
use Rattle.explanation.specs.declared.trace.TraceNode.TheVariants as place
use Rattle.explanation.specs.declared.trace.Step.{Step}
use Rattle.explained_replay.specs.Reasons.{is_taken, step_text, reason_text}
use Rattle.explained_replay.specs.Words.{external_type}

-- the match of the address in the table of this serial
abbrev pub lookup_data : (address serial : ℕ) → Match → Data
lookup_data address serial (found.Route p e) = object_of (
    (codes "address", address_data address)
    ∷ (codes "match", string (codes "route"))
    ∷ (codes "network", network_data p)
    ∷ (codes "route", route_data e.now)
    ∷ (codes "serial", number_data serial)
    ∷ (codes "type", string (codes "lookup"))
    ∷ [])
lookup_data address serial (found.Discard p) = object_of (
    (codes "address", address_data address)
    ∷ (codes "match", string (codes "discard"))
    ∷ (codes "network", network_data p)
    ∷ (codes "serial", number_data serial)
    ∷ (codes "type", string (codes "lookup"))
    ∷ [])
lookup_data address serial found.None = object_of (
    (codes "address", address_data address)
    ∷ (codes "match", string (codes "none"))
    ∷ (codes "serial", number_data serial)
    ∷ (codes "type", string (codes "lookup"))
    ∷ [])

-- the item of the table for exactly this network
abbrev pub network_line_data : Prefix → Option Item → Data
network_line_data p (Some (item.Route e)) = object_of (
    (codes "network", network_data p)
    ∷ (codes "route", route_data e)
    ∷ (codes "type", string (codes "route"))
    ∷ [])
network_line_data p (Some item.Discard) = object_of (
    (codes "network", network_data p)
    ∷ (codes "type", string (codes "discard"))
    ∷ [])
network_line_data p None = object_of (
    (codes "network", network_data p)
    ∷ (codes "type", string (codes "none"))
    ∷ [])

-- null for an offer that has no path
abbrev pub cost_data : Option ℕ → Data
cost_data None = null
cost_data (Some cost) = number_data cost

-- the key of the LSA and the sequence number of the instance
abbrev pub source_data : LsaInstance → Data
source_data s = object_of (
    (codes "id", address_data s.key.id)
    ∷ (codes "kind", number_data s.key.kind)
    ∷ (codes "router", address_data s.key.router)
    ∷ (codes "scope", scope_data s.scope)
    ∷ (codes "sequence", hex_data (to_be_bytes w32 s.seq))
    ∷ [])

abbrev pub offer_data : OfferKind → Data
offer_data (Stub metric) = string (codes "stub")
offer_data Transit = string (codes "transit")
offer_data (Summary metric) = string (codes "summary")
offer_data (AsExternal metric e) = string (codes "external")

-- the members that only an external metric has
abbrev pub external_members : OfferKind → List JsonMember
external_members (AsExternal metric e) = (codes "external_type", number_data (external_type e)) ∷ (codes "forwarding", address_data e.forwarding) ∷ []
external_members _ = []

-- the metric; the LSA of a transit network has none
abbrev pub metric_members : OfferKind → List JsonMember
metric_members (Stub metric) = (codes "metric", number_data metric) ∷ []
metric_members Transit = []
metric_members (Summary metric) = (codes "metric", number_data metric) ∷ []
metric_members (AsExternal metric e) = (codes "metric", number_data metric) ∷ []

-- an offer at this cost
abbrev pub offered_members : Option ℕ → Offer → List JsonMember
offered_members cost o =
    (codes "cost", cost_data cost)
    ∷ external_members o.kind
    ++ (codes "lsa", source_data o.source)
    ∷ metric_members o.kind
    ++ (codes "network", network_data o.network)
    ∷ (codes "offer", offer_data o.kind)
    ∷ []

-- an offer, and what became of it
abbrev pub candidate_data : Candidate → Data
candidate_data c =
    if is_taken c.verdict
    then object_of (offered_members c.cost c.offer ++ (codes "type", string (codes "taken")) ∷ [])
    else object_of (offered_members c.cost c.offer
    ++ (codes "reason", string (reason_text c.verdict))
    ∷ (codes "step", string (step_text c.offer.kind c.verdict))
    ∷ (codes "type", string (codes "lost"))
    ∷ [])

-- a path of a route
abbrev pub path_line_data : Path → Data
path_line_data path = object_of ((codes "path", path_data path) ∷ (codes "type", string (codes "path")) ∷ [])

-- a router by its Router ID, or a transit network by its Link State ID
abbrev pub vertex_data : Vertex → Data
vertex_data (Router router) = object_of ((codes "router", address_data router) ∷ [])
vertex_data (Network id) = object_of ((codes "network", address_data id) ∷ [])

-- a vertex, or a network
abbrev pub place_data : TraceNode → Data
place_data (place.Vertex v) = vertex_data v
place_data (place.Network p) = object_of ((codes "prefix", network_data p) ∷ [])

-- a step of a path
abbrev pub link_data : Step → Data
link_data s = object_of (
    (codes "cost", number_data s.cost)
    ∷ (codes "from", place_data s.from)
    ∷ (codes "lsa", source_data s.source)
    ∷ (codes "to", place_data s.to)
    ∷ (codes "type", string (codes "link"))
    ∷ [])
