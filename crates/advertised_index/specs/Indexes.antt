-- The index of what is advertised: by key, and found again by destination, by advertiser and by
-- forwarding address.
use Rattle.std.specs.Prelude.{ℕ, ◌≡◌, ◌≢◌, ◌⊎◌, ◌<◌, List, Contains, Option, Some}
use Rattle.std.specs.FinMap.{FinMap, get, empty}
use Rattle.ospf_types.specs.declared.key.Dest.{Dest}
use Rattle.ospf_types.specs.declared.key.Key.{Key}
use Rattle.ospf_types.specs.declared.key.Scope.{Scope}
use Rattle.ospf_types.specs.declared.prefix.Prefix.{Prefix}
use Rattle.ospf_types.specs.Address.{HasAddress}
use Rattle.ospf_types.specs.Keys.{key_cmp}
use Rattle.lsdb.specs.Contents.{body_at}
use Rattle.lsdb.specs.Databases.{Database}
use Rattle.advertised_index.specs.AdvertisedRoute.{AdvertisedValue, advertised_at}
use Rattle.advertised_index.specs.declared.index_key.IndexKey.{IndexKey}
use Rattle.advertised_index.specs.declared.index_key.IndexKey.TheVariants.{To, By, Forwarded}

abbrev pub AdvertisedByKey : Type 0
AdvertisedByKey = FinMap key_cmp AdvertisedValue

pub record OfferIndexValue : Type 0 where
  pub routes : AdvertisedByKey

-- the index of no LSAs
abbrev pub empty_index : OfferIndexValue
empty_index = record { routes = empty }

-- under the key the index has what the database says
abbrev pub IsTakenAt : ℕ → Scope → Key → Database → OfferIndexValue → Type 0
IsTakenAt root scope key d i = get i.routes key ≡ advertised_at root scope key (body_at d key)

-- under the key the two indexes have the same
abbrev pub IsAlikeAt : OfferIndexValue → OfferIndexValue → Key → Type 0
IsAlikeAt old new k = get new.routes k ≡ get old.routes k

-- the two indexes differ at most under the key
abbrev pub AreAlikeBut : Key → OfferIndexValue → OfferIndexValue → Type 0
AreAlikeBut key old new = (k : Key) → k ≢ key → IsAlikeAt old new k

-- the index belongs to the database
abbrev pub IsIndexOf : ℕ → Scope → Database → OfferIndexValue → Type 0
IsIndexOf root scope d i = (k : Key) → get i.routes k ≡ advertised_at root scope k (body_at d k)

-- no LSA of the database is used otherwise, but for those that are named
abbrev pub LsasDifferAmong : List (Scope × Key) → Scope → Database → Database → Type 0
LsasDifferAmong keys scope before after = (k : Key) → (Contains keys (scope, k) → ⊥) → body_at after k ≡ body_at before k

-- the index belongs to an earlier database, which differs from this one only in the LSAs that are
-- named
abbrev pub IsIndexBehind : ℕ → Scope → List (Scope × Key) → Database → OfferIndexValue → Type 0
IsIndexBehind root scope keys d i = (before : Database) × IsIndexOf root scope before i × LsasDifferAmong keys scope before d

-- what is advertised under the key leads to the destination, or is by the router, or has the
-- forwarding address
abbrev pub IsOfGroup : IndexKey → Key → AdvertisedValue → Type 0
IsOfGroup (To dest) k a = a.dest ≡ dest
IsOfGroup (By router) k a = k.router ≡ router
IsOfGroup (Forwarded address) k a = (0 < address) × (a.forwarding ≡ address)

-- the key is one of the group
abbrev pub IsInGroup : OfferIndexValue → IndexKey → Key → Type 0
IsInGroup i group k = (a : AdvertisedValue) × (get i.routes k ≡ Some a) × IsOfGroup group k a

-- a member of the group leads to the destination
abbrev pub GroupLeadsTo : OfferIndexValue → IndexKey → Dest → Type 0
GroupLeadsTo i group dest = (k : Key) × (a : AdvertisedValue) × (get i.routes k ≡ Some a) × IsOfGroup group k a × (a.dest ≡ dest)

-- something is advertised to the destination
abbrev pub IsLedTo : OfferIndexValue → Dest → Type 0
IsLedTo i dest = (k : Key) × IsInGroup i (To dest) k

-- something is advertised with this forwarding address
abbrev pub IsForwardedTo : OfferIndexValue → ℕ → Type 0
IsForwardedTo i address = (k : Key) × IsInGroup i (Forwarded address) k

-- the forwarding address lies in the network
abbrev pub IsForwardedInto : OfferIndexValue → Prefix → ℕ → Type 0
IsForwardedInto i p address = IsForwardedTo i address × HasAddress p address

-- destinations and forwarding addresses whose result may differ
pub record ChangedOffersValue : Type 0 where
  pub dests : List Dest
  pub addresses : List ℕ

-- what is advertised leads there, or has the forwarding address
abbrev pub HasDest : Option AdvertisedValue → Dest → Type 0
HasDest o dest = (a : AdvertisedValue) × (o ≡ Some a) × (a.dest ≡ dest)

abbrev pub HasForwarding : Option AdvertisedValue → ℕ → Type 0
HasForwarding o address = (a : AdvertisedValue) × (o ≡ Some a) × (a.forwarding ≡ address) × (0 < address)

-- under the key the same is advertised before and after, or what each of the two says is among what
-- may differ
abbrev pub IsTouchedAt : Option AdvertisedValue → Option AdvertisedValue → ChangedOffersValue → Type 0
IsTouchedAt old new after = (new ≡ old)
    ⊎ (((dest : Dest) → HasDest old dest ⊎ HasDest new dest → Contains after.dests dest)
    × ((address : ℕ) → HasForwarding old address ⊎ HasForwarding new address → Contains after.addresses address))

-- all that was affected before is still, and so is all that the two indexes say otherwise
pub record AreDestsAffected (old new : OfferIndexValue) (before after : ChangedOffersValue) : Type 0 where
  pub dests : (dest : Dest) → Contains before.dests dest → Contains after.dests dest
  pub addresses : (address : ℕ) → Contains before.addresses address → Contains after.addresses address
  pub each : (k : Key) → IsTouchedAt (get old.routes k) (get new.routes k) after
