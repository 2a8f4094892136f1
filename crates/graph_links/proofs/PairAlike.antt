-- A link between two vertices rests on the ends of each that are at the other.
use Rattle.std.proofs.Common.{◌≢◌, ℕ, List, ap}
use Rattle.ospf_types.specs.declared.entry.Vertex.{Vertex}
use Rattle.ospf_types.specs.declared.entry.Vertex.TheVariants.{Router, Network}
use Rattle.ospf_types.specs.declared.label.Label.{Label}
use Rattle.ospf_types.specs.declared.label.Label.TheVariants.{Over, At, Plain}
use Rattle.graph_links.specs.declared.link_end.LinkEnd.{LinkEnd}
use Rattle.graph_links.specs.declared.link.Up.{Up}
use Rattle.graph_links.specs.Pairs.{Names, AreAlikeAt, IsOutLabel, AreDetailsTo, IsPairLink}

pub alike_back : (v : Vertex) (ends others : List LinkEnd) → AreAlikeAt v ends others → AreAlikeAt v others ends
alike_back v ends others alike e at = ((alike e at).1, (alike e at).0)

names_alike : (v : Vertex) (ends others : List LinkEnd) → AreAlikeAt v ends others → Names ends v → Names others v
names_alike v ends others alike named = (named.0, (alike named.0 named.2).0 named.1, named.2)

details_alike : (v : Vertex) (ends others : List LinkEnd) (addresses : List ℕ) → AreAlikeAt v ends others → AreDetailsTo v ends addresses → AreDetailsTo v others addresses
details_alike v ends others addresses alike are = record {
  ascending = are.ascending;
  same = λ address. (
    λ there. let at = (are.same address).0 there in (at.0, (alike at.0 at.2).0 at.1, at.2, at.3),
    λ at. (are.same address).1 (at.0, (alike at.0 at.2).1 at.1, at.2, at.3),
  );
}

module _ (root : ℕ) (ups : List Up) where
  -- the vertex that a link leads out of names the other
  pub pair_names : (v w : Vertex) (ends back : List LinkEnd) (cost : ℕ) (label : Label) → IsPairLink root ups v ends w back cost label → Names ends w
  pair_names (Router v) w ends back cost label link = (link.0, link.1, link.2)
  pair_names (Network v) (Router w) ends back cost label link = link.0
  pair_names (Network v) (Network w) ends back cost label link = absurd link

  -- and the other names it
  pub pair_named : (v w : Vertex) (ends back : List LinkEnd) (cost : ℕ) (label : Label) → IsPairLink root ups v ends w back cost label → Names back v
  pair_named (Router v) w ends back cost label link = link.6
  pair_named (Network v) (Router w) ends back cost label link = link.2
  pair_named (Network v) (Network w) ends back cost label link = absurd link

  pub pair_alike : (v w : Vertex) (ends ends_new back back_new : List LinkEnd) (cost : ℕ) (label : Label) → AreAlikeAt w ends ends_new → AreAlikeAt v back back_new
      → IsPairLink root ups v ends w back cost label → IsPairLink root ups v ends_new w back_new cost label
  pair_alike (Router v) w ends ends_new back back_new cost label own other link =
      (link.0, (own link.0 link.2).0 link.1, link.2, link.3, link.4, link.5, names_alike (Router v) back back_new other link.6)
  pair_alike (Network v) (Router w) ends ends_new back back_new cost label own other link = (
    names_alike (Router w) ends ends_new own link.0,
    link.1,
    names_alike (Network v) back back_new other link.2,
    (link.3.0, details_alike (Network v) back back_new link.3.0 other link.3.1, link.3.2),
  )
  pair_alike (Network v) (Network w) ends ends_new back back_new cost label own other link = absurd link

  label_alike : (ups_new : List Up) (v detail : ℕ) (label : Label) → v ≢ root → IsOutLabel root ups v detail label → IsOutLabel root ups_new v detail label
  label_alike ups_new v detail (Over id) apart is = absurd (apart is.0)
  label_alike ups_new v detail Plain apart is = is
  label_alike ups_new v detail (At addresses) apart is = absurd is

  -- only links out of the root rest on its interfaces
  pub pair_elsewhere : (ups_new : List Up) (v w : Vertex) (ends back : List LinkEnd) (cost : ℕ) (label : Label) → v ≢ Router root → IsPairLink root ups v ends w back cost label → IsPairLink root ups_new v ends w back cost label
  pair_elsewhere ups_new (Router v) w ends back cost label apart link =
      (link.0, link.1, link.2, link.3, link.4, label_alike ups_new v link.0.detail label (λ same. apart (ap Router same)) link.5, link.6)
  pair_elsewhere ups_new (Network v) (Router w) ends back cost label apart link = link
  pair_elsewhere ups_new (Network v) (Network w) ends back cost label apart link = link
