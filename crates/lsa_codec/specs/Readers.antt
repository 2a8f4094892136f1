-- The results of the readers of an advertisement, by its fields.
use Rattle.std.specs.Prelude.{ℕ, List, [], map, Option, Some, None}
use Rattle.std.specs.List.{slice_get}
use Rattle.ospf_types.specs.declared.lsa.Link.{Link}
use Rattle.ospf_types.specs.declared.lsa.ExternalFields.{ExternalFields}
use Rattle.ospf_types.specs.declared.prefix.Prefix.{Prefix}
use Rattle.ospf_types.specs.Lsa.{Lsa, Body, RouterLinks, NetworkLinks, NetworkSummary, BoundarySummary, AsExternal, RouterLink, ExternalRecord, network_of}

abbrev pub flags_of : Body → Option ℕ
flags_of (RouterLinks flags links) = Some flags
flags_of (NetworkLinks mask routers) = None
flags_of (NetworkSummary mask metric tos) = None
flags_of (BoundarySummary metric tos) = None
flags_of (AsExternal mask first more) = None

abbrev pub links_of : Body → List RouterLink
links_of (RouterLinks flags links) = links
links_of (NetworkLinks mask routers) = []
links_of (NetworkSummary mask metric tos) = []
links_of (BoundarySummary metric tos) = []
links_of (AsExternal mask first more) = []

-- a link without its TOS entries
abbrev pub without_tos : RouterLink → Link
without_tos l = record { id = l.id; detail = l.detail; kind = l.kind; metric = l.metric }

abbrev pub link_at : Body → ℕ → Option Link
link_at body n = slice_get (map without_tos (links_of body)) n

-- the routers of a network-LSA
abbrev pub routers_of : Body → List ℕ
routers_of (RouterLinks flags links) = []
routers_of (NetworkLinks mask routers) = routers
routers_of (NetworkSummary mask metric tos) = []
routers_of (BoundarySummary metric tos) = []
routers_of (AsExternal mask first more) = []

abbrev pub listed_at : Body → ℕ → Option ℕ
listed_at body n = slice_get (routers_of body) n

-- the network of a Link State ID, by the mask of the body
abbrev pub prefix_in : ℕ → Body → Option Prefix
prefix_in id (RouterLinks flags links) = None
prefix_in id (NetworkLinks mask routers) = Some (network_of id mask)
prefix_in id (NetworkSummary mask metric tos) = Some (network_of id mask)
prefix_in id (BoundarySummary metric tos) = None
prefix_in id (AsExternal mask first more) = Some (network_of id mask)

abbrev pub prefix_of : Lsa → Option Prefix
prefix_of l = prefix_in l.header.id l.body

-- in an AS-external-LSA that of the first record
abbrev pub metric_of : Body → Option ℕ
metric_of (RouterLinks flags links) = None
metric_of (NetworkLinks mask routers) = None
metric_of (NetworkSummary mask metric tos) = Some metric
metric_of (BoundarySummary metric tos) = Some metric
metric_of (AsExternal mask first more) = Some first.metric

abbrev pub without_metric : ExternalRecord → ExternalFields
without_metric r = record { is_type_2 = r.is_type_2; forwarding = r.forwarding }

-- that of the first record
abbrev pub external_of : Body → Option ExternalFields
external_of (RouterLinks flags links) = None
external_of (NetworkLinks mask routers) = None
external_of (NetworkSummary mask metric tos) = None
external_of (BoundarySummary metric tos) = None
external_of (AsExternal mask first more) = Some (without_metric first)

abbrev pub with_age : Lsa → ℕ → Lsa
with_age l age = record l { header = record l.header { age = age } }
