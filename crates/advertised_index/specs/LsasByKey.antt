-- Groups of keys, and which of them a route is listed in.
use Rattle.std.specs.Prelude.{◌≡◌, ◌≢◌, ◌↔◌, ◌<◌, ◌^◌, List, Contains, Option, Some, IsTrue}
use Rattle.std.specs.FinMap.{get}
use Rattle.std.specs.Ordering.{nat_cmp, is_le}
use Rattle.std.specs.declared.cmp.Ordering.{Ordering}
use Rattle.std.specs.declared.cmp.Ordering.TheVariants.{Less, Greater}
use Rattle.ospf_types.specs.declared.key.Key.{Key}
use Rattle.ospf_types.specs.Keys.{dest_cmp, key_cmp}
use Rattle.route_choice.specs.Results.{Results, result_at}
use Rattle.advertised_index.specs.AdvertisedRoute.{AdvertisedValue}
use Rattle.advertised_index.specs.Indexes.{AdvertisedByKey, IsOfGroup}
use Rattle.advertised_index.specs.declared.index_key.IndexKey.{IndexKey}
use Rattle.advertised_index.specs.declared.index_key.IndexKey.TheVariants.{To, By, Forwarded}

-- each kind of group in its order
abbrev pub group_cmp : IndexKey → IndexKey → Ordering
group_cmp (To d) (To e) = dest_cmp d e
group_cmp (To d) (By r) = Less
group_cmp (To d) (Forwarded a) = Less
group_cmp (By r) (To d) = Greater
group_cmp (By r) (By s) = nat_cmp r s
group_cmp (By r) (Forwarded a) = Less
group_cmp (Forwarded a) (To d) = Greater
group_cmp (Forwarded a) (By r) = Greater
group_cmp (Forwarded a) (Forwarded b) = nat_cmp a b

abbrev pub IsNotAfter : IndexKey → IndexKey → Type 0
IsNotAfter g h = IsTrue (is_le (group_cmp g h))

-- the parts of a key are numbers of their types
abbrev pub IsSmall : Key → Type 0
IsSmall k = (k.kind < 2 ^ 8) × (k.id < 2 ^ 32) × (k.router < 2 ^ 32)

abbrev pub HasSmallKey : IndexKey × Key → Type 0
HasSmallKey m = IsSmall m.1

-- there is a route, and it is of the group
abbrev pub IsIndexedUnder : Option AdvertisedValue → Key → IndexKey → Type 0
IsIndexedUnder route k g = (a : AdvertisedValue) × (route ≡ Some a) × IsOfGroup g k a

-- the key, in a group that its route is of
abbrev pub IsMemberBy : Option AdvertisedValue → Key → IndexKey × Key → Type 0
IsMemberBy route k m = (m.1 ≡ k) × IsIndexedUnder route k m.0

-- if the one route is of the member's group, the other is of it too
abbrev pub IsStillBy : Option AdvertisedValue → Option AdvertisedValue → Key → IndexKey × Key → Type 0
IsStillBy gone stays k m = IsMemberBy gone k m → IsMemberBy stays k m

-- the member is not the key in the group, unless the route is of it
abbrev pub IsNoneBut : Option AdvertisedValue → Key → IndexKey → IndexKey × Key → Type 0
IsNoneBut stays k g m = m ≡ (g, k) → IsIndexedUnder stays k g

-- all members of the groups from the first to the last are among these
abbrev pub HasAllBetween : IndexKey → IndexKey → List (IndexKey × Key) → List (IndexKey × Key) → Type 0
HasAllBetween first last members found = (m : IndexKey × Key) → Contains members m → IsNotAfter first m.0 → IsNotAfter m.0 last → Contains found m

-- these are members of the groups from the first to the last
abbrev pub AreAllBetween : IndexKey → IndexKey → List (IndexKey × Key) → List (IndexKey × Key) → Type 0
AreAllBetween first last members found = (m : IndexKey × Key) → Contains found m → Contains members m × IsNotAfter first m.0 × IsNotAfter m.0 last

-- the routes differ at most under the key
abbrev pub AreRoutesAlikeBut : Key → Results Key AdvertisedValue → Results Key AdvertisedValue → Type 0
AreRoutesAlikeBut key old new = (k : Key) → k ≢ key → result_at key_cmp new k ≡ result_at key_cmp old k

-- each key is in the groups that its route is of, and nothing else is there
abbrev pub AreMembersOf : AdvertisedByKey → List (IndexKey × Key) → Type 0
AreMembersOf routes members = (m : IndexKey × Key) → Contains members m ↔ IsIndexedUnder (get routes m.1) m.1 m.0
