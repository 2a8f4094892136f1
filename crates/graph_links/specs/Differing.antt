-- What two lists of links have in common, and how the links are collected that only one of them
-- has.
use Rattle.std.specs.Prelude.{◌↔◌, ◌⊎◌, ℕ, ◌-◌, ◌≡◌, ◌≤◌, ◌<◌, List, [], ◌∷◌, ◌++◌, length, drop, Contains}
use Rattle.std.specs.List.Sorted.{IsNonDecreasingBy, IsPartitionPoint}
use Rattle.graph_links.specs.declared.link.GraphLink.{GraphLink}
use Rattle.graph_links.specs.Pairs.{AddsToList, AreApart}

-- the first list has the link, and the other has it not
abbrev pub IsOnlyIn : List GraphLink → List GraphLink → GraphLink → Type 0
IsOnlyIn has others l = Contains has l × (Contains others l → ⊥)

-- the links are added that the first list has, and the others have not
abbrev pub AddsUnlike : List GraphLink → List GraphLink → List GraphLink → List GraphLink → Type 0
AddsUnlike has others old new = AddsToList old new (IsOnlyIn has others)

-- the link is added, unless the others have it
abbrev pub AddsUnless : GraphLink → List GraphLink → List GraphLink → List GraphLink → Type 0
AddsUnless link others old new = AddsToList old new (λ (l : GraphLink). (l ≡ link) × (Contains others l → ⊥))

-- the two lists have the same links
abbrev pub HaveSameLinks : List GraphLink → List GraphLink → Type 0
HaveSameLinks old new = (l : GraphLink) → Contains new l ↔ Contains old l

-- the two lists end in this many equal links
abbrev pub HaveSameBack : ℕ → List GraphLink → List GraphLink → Type 0
HaveSameBack n one other = drop (length one - n) one ≡ drop (length other - n) other

-- the list is unchanged, or has the link at its end in addition
abbrev pub AddsAtMost : GraphLink → List GraphLink → List GraphLink → Type 0
AddsAtMost link old new = (new ≡ old) ⊎ (new ≡ old ++ link ∷ [])

-- no link occurs twice in the list afterwards, if none does in the list before and the added ones
-- together
abbrev pub KeepsApartWith : List GraphLink → List GraphLink → List GraphLink → Type 0
KeepsApartWith added old new = AreApart (old ++ added) → AreApart new

-- the links are in ascending cost
abbrev pub IsByCost : List GraphLink → Type 0
IsByCost links = IsNonDecreasingBy (λ (l : GraphLink). l.cost) links

-- this many links are cheaper than the cost, and they come before all others
abbrev pub IsCountCheaper : ℕ → List GraphLink → ℕ → Type 0
IsCountCheaper cost links n = IsPartitionPoint (λ (l : GraphLink). l.cost < cost) (λ (l : GraphLink). cost ≤ l.cost) links n
