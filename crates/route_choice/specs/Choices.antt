-- The choice among offers: the least key that was offered, with all that was offered at it.
use Rattle.std.specs.Prelude.{◌≡◌, ◌↔◌, ◌⊎◌, List, Option, Some, None, Contains}
use Rattle.std.specs.declared.cmp.Ordering.{Ordering}
use Rattle.std.specs.List.Sorted.{IsStrictlySortedBy}
use Rattle.ospf_types.specs.Best.{IsBest, NoOffer}

-- a key, and the items that are offered at it
pub record Chosen (K X : Type 0) : Type 0 where
  pub key : K
  pub items : List X

-- new has the items of old and this one, and no other
abbrev pub HasAlso : {X : Type 0} → List X → X → List X → Type 0
HasAlso {X} old item new = (x : X) → Contains new x ↔ (Contains old x ⊎ (x ≡ item))

-- an offer: its key and its item. The list has this one
abbrev pub IsOffered : {K X : Type 0} → List (K × X) → K → X → Type 0
IsOffered offers key item = Contains offers (key, item)

-- the best of the offers, its items in order without duplicates, or `None` if nothing is offered
abbrev pub IsChosen : {K X : Type 0} → (K → K → Ordering) → (X → X → Ordering) → (K → X → Type 0) → Option (Chosen K X) → Type 0
IsChosen key_cmp item_cmp offers None = NoOffer offers
IsChosen key_cmp item_cmp offers (Some chosen) = IsBest key_cmp offers chosen.key chosen.items × IsStrictlySortedBy item_cmp chosen.items
