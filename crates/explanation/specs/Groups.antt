-- The offers of some networks, network by network.
use Rattle.std.specs.Prelude.{ℕ, ◌≡◌, ◌↔◌, Contains, List, [], ◌∷◌, ◌++◌, get_or, map, filter, slice_set}
use Rattle.std.specs.List.{All}
use Rattle.ospf_types.specs.declared.prefix.Prefix.{Prefix}
use Rattle.ospf_types.specs.RangeChanges.{is_same_prefix}
use Rattle.explanation.specs.declared.grouping.Group.{Group}
use Rattle.explanation.specs.declared.offer.Offer.{Offer}

-- those of the offers that are of the network, in their order
abbrev pub offers_for : Prefix → List Offer → List Offer
offers_for p all = filter (λ (o : Offer). is_same_prefix o.network p) all

-- just those of the offers that are of the network
abbrev pub AreOfNetwork : Prefix → List Offer → List Offer → Type 0
AreOfNetwork p all found = (o : Offer) → Contains found o ↔ (Contains all o × (o.network ≡ p))

abbrev pub network_of : Group → Prefix
network_of g = g.network

abbrev pub networks_in : List Group → List Prefix
networks_in groups = map network_of groups

-- a group for each of the networks, which has just those of the offers that are of it
pub record AreGroups (networks : List Prefix) (offers : List Offer) (groups : List Group) : Type 0 where
  pub listed : networks_in groups ≡ networks
  pub right : All (λ (g : Group). g.offers.items ≡ offers_for g.network offers) groups

abbrev pub AreEmpty : List Prefix → List Group → Type 0
AreEmpty networks groups = AreGroups networks [] groups

-- the group at the place has one offer more
abbrev pub IsOfferAdded : ℕ → Offer → List Group → List Group → Type 0
IsOfferAdded place o before after = (g : Group) × (after ≡ slice_set before place g)
    × ((d : Group) → (g.network ≡ (get_or before place d).network) × (g.offers.items ≡ (get_or before place d).offers.items ++ o ∷ []))
