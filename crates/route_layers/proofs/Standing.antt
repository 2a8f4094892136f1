-- Databases that are used alike have one tree.
--   standing_alike: what represents a vertex of the one stands for it of the other
--   alike_tree: what is a tree of the one is a tree of the other
use Rattle.std.proofs.Common.{◌≡◌, ℕ, Option, sym, subst, ◌∙◌, inl, inr}
use Rattle.std.specs.Prelude.{List, IsSome}
use Rattle.ospf_types.specs.declared.entry.Vertex.{Vertex}
use Rattle.ospf_types.specs.declared.entry.Vertex.TheVariants.{Router, Network}
use Rattle.ospf_types.specs.declared.key.Key.{Key}
use Rattle.ospf_types.specs.Lsa.{Body}
use Rattle.lsdb.specs.Databases.{Database}
use Rattle.vertex_graph.specs.Up.{Up}
use Rattle.area_trees.specs.Areas.{AreaGraphValue, AreaTreeValue, IsGraphOf, IsAreaTree, IsStanding, IsUsed, body_at, router_key, network_key}

module _ (d e : Database) (alike : (key : Key) → body_at e key ≡ body_at d key) where
  used_then : (key : Key) → IsUsed d key → IsUsed e key
  used_then key = subst (λ (o : Option Body). IsSome o) (sym (alike key))

  used_now : (key : Key) → IsUsed e key → IsUsed d key
  used_now key = subst (λ (o : Option Body). IsSome o) (alike key)

  -- what represents a vertex of the one stands for it of the other
  pub standing_alike : (v : Vertex) (body : Option Body) → IsStanding d v body → IsStanding e v body
  standing_alike (Router r) body stands = stands ∙ sym (alike (router_key r))
  standing_alike (Network n) body (inl one) =
      inl (one.0, (used_then (network_key n one.0) one.1.0, λ other used. one.1.1 other (used_now (network_key n other) used)), one.2 ∙ sym (alike (network_key n one.0)))
  standing_alike (Network n) body (inr none) = inr (λ router used. none.0 router (used_now (network_key n router) used), none.1)

  graph_alike : (v : AreaGraphValue) → IsGraphOf d v → IsGraphOf e v
  graph_alike v is = record {
    networks = λ id router. (λ c. used_then (network_key id router) ((is.networks id router).0 c), λ used. (is.networks id router).1 (used_now (network_key id router) used));
    leads = λ w. let at = is.leads w in (at.0, standing_alike w at.0 at.1, at.2);
  }

  -- what is a tree of the one is a tree of the other
  pub alike_tree : (root : ℕ) (ups : List Up) (t : AreaTreeValue) → IsAreaTree root d ups t → IsAreaTree root e ups t
  alike_tree root ups t is = record { graph = graph_alike t.area is.graph; root_is = is.root_is; interfaces = is.interfaces; tree = is.tree; fresh = is.fresh }
