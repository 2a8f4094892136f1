-- Which offers a choice took, as a relation.
use Rattle.std.specs.Prelude.{ℕ, ◌≡◌, ◌↔◌, ◌++◌, List, Option, Contains}
use Rattle.std.specs.declared.cmp.Ordering.{Ordering}
use Rattle.ospf_types.specs.declared.hop.NextHop.{NextHop}
use Rattle.ospf_types.specs.declared.hop.Path.{Path}
use Rattle.route_choice.specs.Choices.{Chosen, IsOffered, IsChosen}

-- from the one to the other just these offers were taken
pub record TakesOffers {K X : Type 0} (key_cmp : K → K → Ordering) (item_cmp : X → X → Ordering) (offers : K → X → Type 0) (old new : Option (Chosen K X)) : Type 0 where
  pub list : List (K × X)
  pub just : (key : K) (item : X) → IsOffered list key item ↔ offers key item
  pub taken : (before : List (K × X)) → IsChosen key_cmp item_cmp (IsOffered before) old → IsChosen key_cmp item_cmp (IsOffered (before ++ list)) new

-- that item at that key, and nothing else
abbrev pub OnlyOffer : {K X : Type 0} → K → X → K → X → Type 0
OnlyOffer at what key item = (key ≡ at) × (item ≡ what)

-- what some element of the list offers
abbrev pub OfferedBySome : {A K X : Type 0} → List A → (A → K → X → Type 0) → K → X → Type 0
OfferedBySome {A} elements offers key item = (a : A) × Contains elements a × offers a key item

-- the path over the next hop, by the advertising router, if there is one
abbrev pub path_over : Option ℕ → NextHop → Path
path_over advertiser h = record { hop = h; advertiser = advertiser }

-- a path over each of these next hops, all at one key
abbrev pub HopsOffer : {K : Type 0} → List NextHop → Option ℕ → K → K → Path → Type 0
HopsOffer hops advertiser at = OfferedBySome hops (λ h. OnlyOffer at (path_over advertiser h))
