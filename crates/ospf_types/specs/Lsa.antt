-- A link-state advertisement by its fields (RFC 2328, A.4).
use Rattle.std.specs.Prelude.{ℕ, ◌<◌, Bool, List}
use Rattle.ospf_types.specs.declared.prefix.Prefix.{Prefix}
use Rattle.ospf_types.specs.declared.key.Key.{Key}
use Rattle.ospf_types.specs.declared.lsa.Header.{Header}
use Rattle.ospf_types.specs.declared.lsa.LinkKind.{LinkKind}
use Rattle.ospf_types.specs.Masks.{masked, mask_length}

-- a TOS entry is carried and unused
pub record Tos : Type 0 where
  pub tos : ℕ
  pub metric : ℕ

pub record RouterLink : Type 0 where
  pub id : ℕ
  pub detail : ℕ  -- Link Data
  pub kind : LinkKind
  pub metric : ℕ
  pub tos : List Tos

pub record ExternalRecord : Type 0 where
  pub is_type_2 : Bool
  pub tos : ℕ
  pub metric : ℕ
  pub forwarding : ℕ
  pub tag : ℕ

pub data Body : Type 0 where
  RouterLinks : (flags : ℕ) (links : List RouterLink) → Body
  NetworkLinks : (mask : ℕ) (routers : List ℕ) → Body
  NetworkSummary : (mask metric : ℕ) (tos : List Tos) → Body
  BoundarySummary : (metric : ℕ) (tos : List Tos) → Body
  AsExternal : (mask : ℕ) (first : ExternalRecord) (more : List ExternalRecord) → Body

pub record Lsa : Type 0 where
  pub header : Header
  pub body : Body

-- the LS type that a body belongs to
abbrev pub kind_of : Body → ℕ
kind_of (RouterLinks flags links) = 1
kind_of (NetworkLinks mask routers) = 2
kind_of (NetworkSummary mask metric tos) = 3
kind_of (BoundarySummary metric tos) = 4
kind_of (AsExternal mask first more) = 5

abbrev pub key_of : Lsa → Key
key_of l = record { kind = l.header.kind; id = l.header.id; router = l.header.router }

abbrev pub MaxAge : ℕ
MaxAge = 3600

-- below MaxAge
abbrev pub IsUsable : Lsa → Type 0
IsUsable l = l.header.age < MaxAge

-- the network that an address and a mask name
abbrev pub network_of : ℕ → ℕ → Prefix
network_of id mask = record { address = masked id (mask_length mask); length = mask_length mask }
