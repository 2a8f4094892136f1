-- The lines of an explanation in words, without their line feeds.
use Rattle.std.specs.Prelude.{ℕ, ◌++◌, List, Option, Some, None, codes, decimal, if◌then◌else◌}
use Rattle.std.specs.Int.{w32, to_be_bytes}
use Rattle.hex.specs.Hex.{encode_lower}
use Rattle.ospf_types.specs.declared.prefix.Prefix.{Prefix}
use Rattle.ospf_types.specs.Text.{address_text, prefix_text, entry_text, path_text}
use Rattle.ospf_types.specs.declared.entry.Vertex.{Vertex}
use Rattle.ospf_types.specs.declared.entry.Vertex.TheVariants.{Router, Network}
use Rattle.ospf_types.specs.declared.hop.Path.{Path}
use Rattle.ospf_types.specs.declared.key.Scope.{Scope}
use Rattle.ospf_types.specs.declared.key.Scope.TheVariants.{Area, As}
use Rattle.ospf_types.specs.declared.lsa.ExternalFields.{ExternalFields}
use Rattle.route_table.specs.declared.table.Item.{Item}
use Rattle.route_table.specs.declared.table.Item.TheVariants as item
use Rattle.route_table.specs.declared.table.Match.{Match}
use Rattle.route_table.specs.Texts.{match_text}
use Rattle.explanation.specs.declared.explained.Candidate.{Candidate}
use Rattle.explanation.specs.declared.offer.OfferKind.{OfferKind}
use Rattle.explanation.specs.declared.offer.OfferKind.TheVariants.{Stub, Transit, Summary, AsExternal}
use Rattle.explanation.specs.declared.offer.LsaInstance.{LsaInstance}
use Rattle.explanation.specs.declared.trace.TraceNode.{TraceNode}
use Rattle.explanation.specs.declared.trace.TraceNode.TheVariants as place
use Rattle.explanation.specs.declared.trace.Step.{Step}
use Rattle.explained_replay.specs.Reasons.{is_taken, step_text, reason_text}

-- the match of the address in the table of this serial
abbrev pub lookup_words : (address serial : ℕ) → Match → List ℕ
lookup_words address serial found = codes "lookup " ++ address_text address ++ codes " " ++ decimal serial ++ codes " " ++ match_text found

-- the item of the table for exactly this network
abbrev pub network_words : Prefix → Option Item → List ℕ
network_words p (Some (item.Route entry)) = codes "route " ++ prefix_text p ++ codes " " ++ entry_text entry
network_words p (Some item.Discard) = codes "discard " ++ prefix_text p
network_words p None = codes "none " ++ prefix_text p

-- a dash for an offer that has no path
abbrev pub cost_text : Option ℕ → List ℕ
cost_text None = codes "-"
cost_text (Some cost) = decimal cost

-- the type of an external metric, 1 or 2
abbrev pub external_type : ExternalFields → ℕ
external_type e = if e.is_type_2 then 2 else 1

abbrev pub offer_text : OfferKind → List ℕ
offer_text (Stub metric) = codes "stub " ++ decimal metric
offer_text Transit = codes "transit"
offer_text (Summary metric) = codes "summary " ++ decimal metric
offer_text (AsExternal metric e) = codes "external " ++ decimal (external_type e) ++ codes " " ++ decimal metric ++ codes " " ++ address_text e.forwarding

-- the database: that of an area, or that of AS-external-LSAs
abbrev pub database_text : Scope → List ℕ
database_text (Area area) = address_text area
database_text As = codes "as"

-- the key of the LSA and the sequence number of the instance
abbrev pub source_text : LsaInstance → List ℕ
source_text s =
    codes "lsa " ++ database_text s.scope ++ codes " " ++ decimal s.key.kind ++ codes " " ++ address_text s.key.id ++ codes " " ++ address_text s.key.router ++ codes " " ++ encode_lower (to_be_bytes w32 s.seq)

-- the cost of an offer, the offer and its LSA
abbrev pub offered_text : Candidate → List ℕ
offered_text c = cost_text c.cost ++ codes " " ++ offer_text c.offer.kind ++ codes " " ++ source_text c.offer.source

-- an offer, and what became of it
abbrev pub candidate_words : Candidate → List ℕ
candidate_words c =
    if is_taken c.verdict
    then codes "taken " ++ offered_text c
    else codes "lost " ++ offered_text c ++ codes " at " ++ step_text c.offer.kind c.verdict ++ codes ": " ++ reason_text c.verdict

-- a path of a route
abbrev pub path_words : Path → List ℕ
path_words path = codes "path " ++ path_text path

-- a router by its Router ID, or a transit network by its Link State ID
abbrev pub vertex_text : Vertex → List ℕ
vertex_text (Router router) = codes "router:" ++ address_text router
vertex_text (Network id) = codes "network:" ++ address_text id

-- a vertex, or a network
abbrev pub place_text : TraceNode → List ℕ
place_text (place.Vertex v) = vertex_text v
place_text (place.Network p) = prefix_text p

-- a step of a path
abbrev pub link_words : Step → List ℕ
link_words s = codes "link " ++ place_text s.from ++ codes " " ++ place_text s.to ++ codes " " ++ decimal s.cost ++ codes " " ++ source_text s.source
