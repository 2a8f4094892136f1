-- The links of two vertices that name each other.
use Rattle.std.proofs.Common.{◌≡◌, ℕ, List, [], ◌∷◌, ◌++◌, refl, sym, subst, ◌∙◌}
use Rattle.std.specs.Prelude.{◌↔◌}
use Rattle.ospf_types.specs.declared.entry.Vertex.{Vertex}
use Rattle.ospf_types.specs.declared.entry.Vertex.TheVariants.{Router, Network}
use Rattle.ospf_types.specs.declared.label.Label.TheVariants.{At}
use Rattle.graph_links.specs.declared.link_end.LinkEnd.{LinkEnd}
use Rattle.graph_links.specs.declared.link.GraphLink.{GraphLink}
use Rattle.graph_links.specs.declared.link.Up.{Up}
use Rattle.graph_links.specs.Pairs.{AddsToList, AreAllAt, AreApart, AreDetailsTo, IsOnto, IsPairLink, KeepsLinksApart, Names}
use Rattle.graph_links.proofs.Adding.{adds_one}
use Rattle.graph_links.proofs.Apart.{apart_push}
use Rattle.graph_links.proofs.Details.{one_list_of_details}

-- a vertex with ends at another names it
pub all_named : (v : Vertex) (all ends : List LinkEnd) → AreAllAt v all ends → Names all v
all_named v all ends are = (are.some.0, ((are.exact are.some.0).0 are.some.1).0, are.some.2)

-- a link from one vertex to the other
abbrev pub IsFromTo : ℕ → List Up → Vertex → List LinkEnd → Vertex → List LinkEnd → GraphLink → Type 0
IsFromTo root ups from ends to back l = (l.from ≡ from) × (l.to ≡ to) × IsPairLink root ups from ends to back l.cost l.label

onto_pair : (root : ℕ) (ups : List Up) (network : ℕ) (to : Vertex) (ends back : List LinkEnd) → Names ends to → Names back (Network network) → (l : GraphLink) → IsOnto (Network network) to back l ↔ IsFromTo root ups (Network network) ends to back l
onto_pair root ups network (Router t) ends back named back_named l = (
  λ h. (h.0, h.1, (named, h.3, back_named, h.4)),
  λ h. (h.0, h.1, (t, refl), h.2.1, h.2.3),
)
onto_pair root ups network (Network t) ends back named back_named l = (λ h. let apart = h.2.1 in absurd cc, λ h. absurd h.2)

-- the link of a network to a vertex, each naming the other, is there if that is a router
pub network_pair : (root : ℕ) (ups : List Up) (network : ℕ) (from to : Vertex) (ends back : List LinkEnd) → from ≡ Network network → Names ends to → Names back from
    → (l : GraphLink) → IsOnto from to back l ↔ IsFromTo root ups from ends to back l
network_pair root ups network from to ends back is named back_named l =
    subst (λ (v : Vertex). Names back v → IsOnto v to back l ↔ IsFromTo root ups v ends to back l) (sym is) (λ n. onto_pair root ups network to ends back named n l) back_named

-- the link of a network to a router is added
pub onto_added : (network : Vertex) (router : ℕ) (to : Vertex) (back : List LinkEnd) (addresses : List ℕ) (xs ys : List GraphLink) → to ≡ Router router → AreDetailsTo network back addresses
    → ys ≡ xs ++ record { from = network; to = to; cost = 0; label = At addresses } ∷ [] → AddsToList xs ys (IsOnto network to back)
onto_added network router to back addresses xs ys is are listed =
    subst (λ (zs : List GraphLink). AddsToList xs zs (IsOnto network to back)) (sym listed) (adds_one xs (record { from = network; to = to; cost = 0; label = At addresses }) (IsOnto network to back)
    (refl, refl, (router, is), refl, (addresses, are, refl))
    (λ l h. let same : h.4.0 ≡ addresses = one_list_of_details network back h.4.0 addresses h.4.1 are in
    λ i. record { from = h.0 i; to = h.1 i; cost = h.3 i; label = (h.4.2 ∙ (λ j. At (same j))) i }))

-- and that is only one link
pub onto_apart : (network to : Vertex) (old new : List GraphLink) (l : GraphLink) → new ≡ old ++ l ∷ [] → l.from ≡ network → l.to ≡ to → KeepsLinksApart network to old new
onto_apart network to old new l listed from_is to_is apart none = subst AreApart (sym listed) (apart_push old l apart (λ c. none l c from_is to_is))
