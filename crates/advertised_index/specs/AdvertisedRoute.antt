-- What summary-LSAs and AS-external-LSAs advertise (RFC 2328, 16.2 and 16.4).
use Rattle.std.specs.Prelude.{ℕ, ◌==◌, ◌||◌, Bool, false, Option, Some, None, nat_le, if◌then◌else◌}
use Rattle.ospf_types.specs.declared.key.Dest.{Dest}
use Rattle.ospf_types.specs.declared.key.Dest.TheVariants.{Net, Router}
use Rattle.ospf_types.specs.declared.key.Key.{Key}
use Rattle.ospf_types.specs.declared.key.Scope.{Scope}
use Rattle.ospf_types.specs.declared.key.Scope.TheVariants.{Area, As}
use Rattle.ospf_types.specs.Inter.{LSInfinity}
use Rattle.ospf_types.specs.Lsa.{Body, RouterLinks, NetworkLinks, NetworkSummary, BoundarySummary, AsExternal, network_of}

-- a destination at a metric, and of an external one its type and its forwarding address, 0 for none
pub record AdvertisedValue : Type 0 where
  pub dest : Dest
  pub metric : ℕ
  pub is_type_2 : Bool
  pub forwarding : ℕ

-- what an LSA says of a destination, at this metric, of this type and with this forwarding address
abbrev pub route_to : Dest → ℕ → Bool → ℕ → AdvertisedValue
route_to dest metric is_type_2 forwarding =
    record { dest = dest; metric = metric; is_type_2 = is_type_2; forwarding = forwarding }

abbrev pub plain : Dest → ℕ → AdvertisedValue
plain dest metric = record { dest = dest; metric = metric; is_type_2 = false; forwarding = 0 }

-- nothing where it is the root's own, or not below LSInfinity
abbrev pub unless_useless : ℕ → Key → ℕ → AdvertisedValue → Option AdvertisedValue
unless_useless root key metric a = if (key.router == root) || nat_le LSInfinity metric then None else Some a

-- what a summary-LSA with this key and body advertises: nothing for the root itself
abbrev pub summarized : ℕ → Key → Body → Option AdvertisedValue
summarized root key (RouterLinks flags links) = None
summarized root key (NetworkLinks mask routers) = None
summarized root key (NetworkSummary mask metric tos) = unless_useless root key metric (plain (Net (network_of key.id mask)) metric)
summarized root key (BoundarySummary metric tos) = if key.id == root then None else unless_useless root key metric (plain (Router key.id) metric)
summarized root key (AsExternal mask first more) = None

-- what an AS-external-LSA advertises
abbrev pub externalized : ℕ → Key → Body → Option AdvertisedValue
externalized root key (RouterLinks flags links) = None
externalized root key (NetworkLinks mask routers) = None
externalized root key (NetworkSummary mask metric tos) = None
externalized root key (BoundarySummary metric tos) = None
externalized root key (AsExternal mask first more) =
    unless_useless root key first.metric (record { dest = Net (network_of key.id mask); metric = first.metric; is_type_2 = first.is_type_2; forwarding = first.forwarding })

-- what is advertised under the key: in an area by summaries, in the AS by externals
abbrev pub advertised_at : ℕ → Scope → Key → Option Body → Option AdvertisedValue
advertised_at root scope key None = None
advertised_at root (Area area) key (Some body) = summarized root key body
advertised_at root As key (Some body) = externalized root key body
