-- The LSA that represents a vertex.
use Rattle.std.proofs.Common.{◌≡◌, ℕ, List, [], ◌∷◌, ◌++◌, Option, None, refl, inl, inr, Bor}
use Rattle.std.specs.Prelude.{Contains, option_map}
use Rattle.std.proofs.lemmas.List.{map-append}
use Rattle.lsa_codec.specs.declared.checked.Checked.{Checked}
use Rattle.lsdb.specs.Databases.{Database}
use Rattle.ospf_types.specs.declared.entry.Vertex.{Vertex}
use Rattle.ospf_types.specs.declared.entry.Vertex.TheVariants.{Network}
use Rattle.ospf_types.specs.Lsa.{Body}
use Rattle.vertex_graph.specs.Graphs.{Handed, handed_of}
use Rattle.area_trees.specs.Areas.{AreNetworksOf, AreStanding, IsGreatestRouter, IsGreatestOf, IsStanding, body_at, network_key}

module _ (d : Database) (networks : List (ℕ × ℕ)) (are : AreNetworksOf d networks) (id : ℕ) where
  -- for a network without a usable network-LSA none stands
  pub none_stands : ((router : ℕ) → Contains networks (id, router) → ⊥) → IsStanding d (Network id) None
  none_stands none = inr (λ router used. none router ((are id router).1 used), refl)

  pub greatest_of : (router : ℕ) → IsGreatestRouter networks id router → IsGreatestOf d id router
  greatest_of router greatest = ((are id router).0 greatest.0, λ other used. greatest.1 other ((are id other).1 used))

  -- the one of the greatest Advertising Router stands
  pub greatest_stands : (router : ℕ) (body : Option Body) → IsGreatestRouter networks id router → body ≡ body_at d (network_key id router) → IsStanding d (Network id) body
  greatest_stands router body greatest is = inl (router, greatest_of router greatest, is)

-- one more vertex with what represents it
pub standing_push : (d : Database) (vs : List Vertex) (hs : List Handed) (v : Vertex) (body : Option Body) → AreStanding d vs hs → IsStanding d v body → AreStanding d (vs ++ v ∷ []) (hs ++ (v, body) ∷ [])
standing_push d [] [] v body all one = (refl, one, cc)
standing_push d [] (h ∷ hs) v body all one = absurd all
standing_push d (w ∷ vs) [] v body all one = absurd all
standing_push d (w ∷ vs) (h ∷ hs) v body all one = (all.0, all.1, standing_push d vs hs v body all.2 one)

-- what is given with one more
pub handed_push : (hs : List (Vertex × Option (Bor Checked))) (v : Vertex) (lsa : Option (Bor Checked)) → handed_of (hs ++ (v, lsa) ∷ []) ≡ handed_of hs ++ (v, option_map (λ (l : Bor Checked). l.now.body) lsa) ∷ []
handed_push hs v lsa = map-append (λ (p : Vertex × Option (Bor Checked)). let h : Handed = (p.0, option_map (λ (l : Bor Checked). l.now.body) p.1) in h) hs ((v, lsa) ∷ [])
