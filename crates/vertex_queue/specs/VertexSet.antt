-- Lists in which no element occurs twice, and what one more vertex makes of one.
use Rattle.std.specs.Prelude.{◌≡◌, ◌≢◌, ◌⊎◌, ◌++◌, ◌∷◌, Bool, true, false, List, [], Contains}
use Rattle.std.specs.List.{AllPairs}
use Rattle.ospf_types.specs.declared.entry.Vertex.{Vertex}

-- no two elements are the same
abbrev pub HasNoDoubles : {X : Type 0} → List X → Type 0
HasNoDoubles xs = AllPairs (λ x y. x ≢ y) xs

-- the larger list has one vertex more, or the same if that was there
pub record IsAdded (small large : List Vertex) (v : Vertex) : Type 0 where
  pub grows : (w : Vertex) → Contains small w → Contains large w
  pub here : Contains large v
  pub only : (w : Vertex) → Contains large w → (w ≡ v) ⊎ Contains small w

-- the vertices with one more at the end, unless it is there
abbrev pub IsWithMember : List Vertex → List Vertex → Vertex → Bool → Type 0
IsWithMember old new v fresh = ((fresh ≡ true) × (new ≡ old ++ v ∷ []) × (Contains old v → ⊥)) ⊎ ((fresh ≡ false) × (new ≡ old) × Contains old v)
