-- The work of a change, said only of the links before and after.
use Rattle.std.specs.Prelude.{◌↔◌, ◌⊎◌, ℕ, ◌+◌, ◌*◌, ◌≡◌, ◌≢◌, ◌≤◌, List, length, Contains}
use Rattle.ospf_types.specs.declared.entry.Vertex.{Vertex}
use Rattle.ospf_types.specs.declared.entry.Vertex.TheVariants.{Router}
use Rattle.ospf_types.specs.declared.hop.NextHop.{NextHop}
use Rattle.ospf_types.specs.Distances.{Links, IsDistance, IsHop}
use Rattle.vertex_graph.specs.GraphLink.{GraphLink}
use Rattle.spf.specs.Changes.{Among, AreExactChanges}
use Rattle.spf.specs.VertexSet.{HasNoDoubles}
use Rattle.spf.specs.Repairs.{AreOwed}

-- a vertex other than the root, reached after at a distance that it hasn't before
abbrev pub HasNewDistance : ℕ → Links → Links → Type 0 → Type 0 → Vertex → Type 0
HasNewDistance root before after had_root has_root v =
    (v ≢ Router root) × ((d : ℕ) × IsDistance after root has_root v d × (IsDistance before root had_root v d → ⊥))

-- a vertex with other next hops than before
abbrev pub HasOtherHops : ℕ → Links → Links → Type 0 → Type 0 → Vertex → Type 0
HasOtherHops root before after had_root has_root v =
    ((h : NextHop) → IsHop after root has_root v h ↔ IsHop before root had_root v h) → ⊥

-- a vertex other than the root, reached after, with other next hops than before
abbrev pub HasNewHops : ℕ → Links → Links → Type 0 → Type 0 → Vertex → Type 0
HasNewHops root before after had_root has_root v =
    (v ≢ Router root) × ((d : ℕ) × IsDistance after root has_root v d) × HasOtherHops root before after had_root has_root v

-- a vertex that is reached after otherwise than before
abbrev pub IsReachedOtherwise : ℕ → Links → Links → Type 0 → Type 0 → Vertex → Type 0
IsReachedOtherwise root before after had_root has_root v =
    HasNewDistance root before after had_root has_root v ⊎ HasNewHops root before after had_root has_root v

-- The number of vertices taken, and the number of times next hops are written.
-- The number taken is at most twice the number of vertices that differ, plus the heads of the links
-- that differ and of the links out of what differs. It is at most twice the number of vertices
-- reached.
-- It is at least the number of vertices reached at another distance than before, plus the number of
-- vertices reached otherwise than before.
-- The sets that are written are as many as the vertices that have other next hops.
pub record IsWorkOf (root : ℕ) (before after : Links) (had_root has_root : Type 0) (taken hop_sets : ℕ) : Type 0 where
  pub gone : List GraphLink
  pub come : List GraphLink
  pub exact : AreExactChanges before after gone come
  pub taken_most : (first second heads first_out second_out : List Vertex)
      → AreOwed root before after (Among gone) (Among come) had_root has_root first second heads first_out second_out
      → taken ≤ 2 * (length first + length second) + (length heads + (length first_out + length second_out))
  pub sets_most : (first second heads first_out second_out : List Vertex)
      → AreOwed root before after (Among gone) (Among come) had_root has_root first second heads first_out second_out
      → hop_sets ≤ length first + length second
  pub taken_least : (moved differing : List Vertex) → HasNoDoubles moved → HasNoDoubles differing
      → ((v : Vertex) → Contains moved v → HasNewDistance root before after had_root has_root v)
      → ((v : Vertex) → Contains differing v → IsReachedOtherwise root before after had_root has_root v)
      → length moved + length differing ≤ taken
  pub taken_twice_most : (reached : List Vertex)
      → ((v : Vertex) (d : ℕ) → v ≢ Router root → IsDistance after root has_root v d → Contains reached v) → taken ≤ 2 * length reached
  pub written : List Vertex
  pub written_apart : HasNoDoubles written
  pub written_exact : (v : Vertex) → Contains written v ↔ HasOtherHops root before after had_root has_root v
  pub sets_are : hop_sets ≡ length written
