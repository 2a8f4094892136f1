-- The bytes of a link-state advertisement (RFC 2328, A.4). Each has one spelling, its fields one
-- after the other, the highest byte of a number first.
use Rattle.std.specs.Prelude.{◌≡◌, ◌≢◌, ℕ, ◌+◌, ◌-◌, ◌^◌, ◌<◌, ◌≤◌, cond, List, ◌∷◌, ◌++◌, length}
use Rattle.std.specs.List.{flat_map, AllByRecursion}
use Rattle.byteorder.specs.Endian.{big_bytes}
use Rattle.ospf_types.specs.declared.lsa.Header.{Header}
use Rattle.ospf_types.specs.declared.lsa.LinkKind.{LinkKind}
use Rattle.ospf_types.specs.declared.lsa.LinkKind.TheVariants.{PointToPoint, Transit, Stub, Virtual}
use Rattle.ospf_types.specs.Lsa.{Lsa, Body, RouterLinks, NetworkLinks, NetworkSummary, BoundarySummary, AsExternal, RouterLink, Tos, ExternalRecord, kind_of, MaxAge}

-- 20 bytes (A.4.1)
abbrev pub header_bytes : Header → List ℕ
header_bytes h =
    big_bytes 2 h.age ++ h.options ∷ h.kind ∷ big_bytes 4 h.id ++ big_bytes 4 h.router ++ big_bytes 4 h.seq ++ big_bytes 2 h.sum ++ big_bytes 2 h.length

abbrev pub number_of_kind : LinkKind → ℕ
number_of_kind PointToPoint = 1
number_of_kind Transit = 2
number_of_kind Stub = 3
number_of_kind Virtual = 4

-- a TOS entry of a link, whose second byte is reserved (A.4.2)
abbrev pub link_tos_bytes : Tos → List ℕ
link_tos_bytes t = t.tos ∷ 0 ∷ big_bytes 2 t.metric

-- a link of a router-LSA, then its TOS entries (A.4.2)
abbrev pub link_bytes : RouterLink → List ℕ
link_bytes l =
    big_bytes 4 l.id ++ big_bytes 4 l.detail ++ number_of_kind l.kind ∷ length l.tos ∷ big_bytes 2 l.metric ++ flat_map link_tos_bytes l.tos

-- a TOS entry of a summary-LSA (A.4.4)
abbrev pub summary_tos_bytes : Tos → List ℕ
summary_tos_bytes t = t.tos ∷ big_bytes 3 t.metric

-- a record of an AS-external-LSA: bit E and the TOS, metric, forwarding address, tag (A.4.5)
abbrev pub record_bytes : ExternalRecord → List ℕ
record_bytes r =
    (cond r.is_type_2 128 0 + r.tos) ∷ big_bytes 3 r.metric ++ big_bytes 4 r.forwarding ++ big_bytes 4 r.tag

abbrev pub body_bytes : Body → List ℕ
body_bytes (RouterLinks flags links) = flags ∷ 0 ∷ big_bytes 2 (length links) ++ flat_map link_bytes links
body_bytes (NetworkLinks mask routers) = big_bytes 4 mask ++ flat_map (big_bytes 4) routers
body_bytes (NetworkSummary mask metric tos) = big_bytes 4 mask ++ 0 ∷ big_bytes 3 metric ++ flat_map summary_tos_bytes tos
body_bytes (BoundarySummary metric tos) = big_bytes 4 0 ++ 0 ∷ big_bytes 3 metric ++ flat_map summary_tos_bytes tos
body_bytes (AsExternal mask first more) = big_bytes 4 mask ++ record_bytes first ++ flat_map record_bytes more

unfoldable pub spelling : Lsa → List ℕ
spelling l = header_bytes l.header ++ body_bytes l.body

-- ones and then zeros
abbrev pub IsMask : ℕ → Type 0
IsMask mask = (ones : ℕ) × (ones ≤ 32) × (mask ≡ 2 ^ 32 - 2 ^ (32 - ones))

-- the Link Data of a stub link is the mask of its network
abbrev pub IsLegalDetail : LinkKind → ℕ → Type 0
IsLegalDetail PointToPoint detail = Unit {0}
IsLegalDetail Transit detail = Unit {0}
IsLegalDetail Stub detail = IsMask detail
IsLegalDetail Virtual detail = Unit {0}

pub record IsLegalLinkTos (t : Tos) : Type 0 where
  pub tos : t.tos < 2 ^ 8
  pub metric : t.metric < 2 ^ 16

pub record IsLegalLink (l : RouterLink) : Type 0 where
  pub id : l.id < 2 ^ 32
  pub detail : l.detail < 2 ^ 32
  pub mask : IsLegalDetail l.kind l.detail
  pub metric : l.metric < 2 ^ 16
  pub entries : length l.tos < 2 ^ 8
  pub tos : AllByRecursion IsLegalLinkTos l.tos

pub record IsLegalSummaryTos (t : Tos) : Type 0 where
  pub tos : t.tos < 2 ^ 8
  pub metric : t.metric < 2 ^ 24

pub record IsLegalRecord (r : ExternalRecord) : Type 0 where
  pub tos : r.tos < 2 ^ 7
  pub metric : r.metric < 2 ^ 24
  pub forwarding : r.forwarding < 2 ^ 32
  pub tag : r.tag < 2 ^ 32

pub record IsLegalRouter (h : Header) (byte : ℕ) (list : List RouterLink) : Type 0 where
  pub own : h.id ≡ h.router
  pub flags : byte < 2 ^ 8
  pub count : length list < 2 ^ 16
  pub links : AllByRecursion IsLegalLink list

pub record IsLegalNetwork (number : ℕ) (list : List ℕ) : Type 0 where
  pub mask : IsMask number
  pub routers : AllByRecursion (λ router. router < 2 ^ 32) list

pub record IsLegalSummary (number cost : ℕ) (list : List Tos) : Type 0 where
  pub mask : IsMask number
  pub metric : cost < 2 ^ 24
  pub tos : AllByRecursion IsLegalSummaryTos list

pub record IsLegalBoundary (cost : ℕ) (list : List Tos) : Type 0 where
  pub metric : cost < 2 ^ 24
  pub tos : AllByRecursion IsLegalSummaryTos list

pub record IsLegalExternal (number : ℕ) (front : ExternalRecord) (list : List ExternalRecord) : Type 0 where
  pub mask : IsMask number
  pub first : IsLegalRecord front
  pub plain : front.tos ≡ 0
  pub more : AllByRecursion IsLegalRecord list

abbrev pub IsLegalBody : Header → Body → Type 0
IsLegalBody h (RouterLinks flags links) = IsLegalRouter h flags links
IsLegalBody h (NetworkLinks mask routers) = IsLegalNetwork mask routers
IsLegalBody h (NetworkSummary mask metric tos) = IsLegalSummary mask metric tos
IsLegalBody h (BoundarySummary metric tos) = IsLegalBoundary metric tos
IsLegalBody h (AsExternal mask first more) = IsLegalExternal mask first more

-- what has a spelling: each field fits its bytes, and what one field says of another is so
pub record IsLegal (l : Lsa) : Type 0 where
  pub age : l.header.age ≤ MaxAge
  pub options : l.header.options < 2 ^ 8
  pub kind : l.header.kind ≡ kind_of l.body
  pub id : l.header.id < 2 ^ 32
  pub router : l.header.router < 2 ^ 32
  pub seq : l.header.seq < 2 ^ 32
  pub sequence : l.header.seq ≢ 0x8000_0000  -- reserved (12.1.6)
  pub sum : l.header.sum < 2 ^ 16
  pub length : l.header.length ≡ 20 + length (body_bytes l.body)
  pub fits : l.header.length < 2 ^ 16
  pub body : IsLegalBody l.header l.body

pub record Spells (bytes : List ℕ) (l : Lsa) : Type 0 where
  pub text : bytes ≡ spelling l
  pub legal : IsLegal l
