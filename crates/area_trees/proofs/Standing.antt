-- The LSA that represents a vertex: there is one, and it is of the vertex's kind.
use Rattle.std.proofs.Common.{◌≡◌, ℕ, true, false, Option, Some, None, refl, sym, ap, ◌∙◌, ◌⊎◌, inl, inr, le_antisymm, arith}
use Rattle.std.specs.Prelude.{IsSome, List, is_some}
use Rattle.ospf_types.specs.declared.entry.Vertex.{Vertex}
use Rattle.ospf_types.specs.declared.entry.Vertex.TheVariants.{Router, Network}
use Rattle.ospf_types.specs.declared.key.Key.{Key}
use Rattle.ospf_types.specs.Lsa.{Body, RouterLink, RouterLinks, NetworkLinks, NetworkSummary, BoundarySummary, AsExternal, kind_of}
use Rattle.lsdb.specs.Contents.{IsDatabaseSound}
use Rattle.lsdb.specs.Databases.{Database}
use Rattle.area_trees.specs.Areas.{router_key, network_key, body_at, IsStanding}
use Rattle.area_trees.proofs.Held.{held_by}

pub there : {X : Type 0} (o : Option X) → IsSome o → (x : X) × (o ≡ Some x)
there None some = absurd (let wrong : false ≡ true = some in cc)
there (Some x) some = (x, refl)

pub is_there : {X : Type 0} (o : Option X) (x : X) → o ≡ Some x → IsSome o
is_there o x e = ap is_some e

-- two bodies that stand for one vertex are equal
pub one_standing : (d : Database) (v : Vertex) (x y : Option Body) → IsStanding d v x → IsStanding d v y → x ≡ y
one_standing d (Router r) x y one other = one ∙ sym other
one_standing d (Network n) x y (inl one) (inl other) =
    let same : one.0 ≡ other.0 = le_antisymm (other.1.1 one.0 one.1.0) (one.1.1 other.0 other.1.0) in
    one.2 ∙ ap (λ (r : ℕ). body_at d (network_key n r)) same ∙ sym other.2
one_standing d (Network n) x y (inl one) (inr none) = absurd (none.0 one.0 one.1.0)
one_standing d (Network n) x y (inr none) (inl other) = absurd (none.0 other.0 other.1.0)
one_standing d (Network n) x y (inr none) (inr nor) = none.1 ∙ sym nor.1

router_body : (b : Body) → kind_of b ≡ 1 → (flags : ℕ) × (links : List RouterLink) × (b ≡ RouterLinks flags links)
router_body (RouterLinks flags links) e = (flags, links, refl)
router_body (NetworkLinks mask routers) e = absurd (omega arith)
router_body (NetworkSummary mask metric tos) e = absurd (omega arith)
router_body (BoundarySummary metric tos) e = absurd (omega arith)
router_body (AsExternal mask first more) e = absurd (omega arith)

network_body : (b : Body) → kind_of b ≡ 2 → (mask : ℕ) × (routers : List ℕ) × (b ≡ NetworkLinks mask routers)
network_body (RouterLinks flags links) e = absurd (omega arith)
network_body (NetworkLinks mask routers) e = (mask, routers, refl)
network_body (NetworkSummary mask metric tos) e = absurd (omega arith)
network_body (BoundarySummary metric tos) e = absurd (omega arith)
network_body (AsExternal mask first more) e = absurd (omega arith)

module _ {d : Database} (sound : IsDatabaseSound d) where
  kind_at : (key : Key) (b : Body) → body_at d key ≡ Some b → kind_of b ≡ key.kind
  kind_at key b e =
      let w = held_by d key b e in
      ap kind_of (sym w.3) ∙ sym (sound.legal key w.0 w.1).kind ∙ ap (λ (k : Key). k.kind) (sym (sound.under_own_key key w.0 w.1))

  pub used_router : (r : ℕ) (b : Body) → body_at d (router_key r) ≡ Some b → (flags : ℕ) × (links : List RouterLink) × (b ≡ RouterLinks flags links)
  used_router r b e = router_body b (kind_at (router_key r) b e)

  pub used_network : (n advertiser : ℕ) (b : Body) → body_at d (network_key n advertiser) ≡ Some b → (mask : ℕ) × (routers : List ℕ) × (b ≡ NetworkLinks mask routers)
  used_network n advertiser b e = network_body b (kind_at (network_key n advertiser) b e)

  -- what represents a router is the body of a router-LSA, if anything
  pub standing_router : (r : ℕ) (body : Option Body) → IsStanding d (Router r) body → (body ≡ None) ⊎ ((flags : ℕ) × (links : List RouterLink) × (body ≡ Some (RouterLinks flags links)))
  standing_router r None stands = inl refl
  standing_router r (Some b) stands =
      let w = used_router r b (sym stands) in
      inr (w.0, w.1, ap Some w.2)

  -- what represents a network is the body of a network-LSA, if anything
  pub standing_network : (n : ℕ) (body : Option Body) → IsStanding d (Network n) body → (body ≡ None) ⊎ ((mask : ℕ) × (routers : List ℕ) × (body ≡ Some (NetworkLinks mask routers)))
  standing_network n None stands = inl refl
  standing_network n (Some b) (inr none) = inl none.1
  standing_network n (Some b) (inl one) =
      let w = used_network n one.0 b (sym one.2) in
      inr (w.0, w.1, ap Some w.2)

  pub some_router : (r : ℕ) (b : Body) → IsStanding d (Router r) (Some b) → (flags : ℕ) × (links : List RouterLink) × (b ≡ RouterLinks flags links)
  some_router r b stands = used_router r b (sym stands)

  pub some_network : (n : ℕ) (b : Body) → IsStanding d (Network n) (Some b) → (mask : ℕ) × (routers : List ℕ) × (b ≡ NetworkLinks mask routers)
  some_network n b (inl one) = used_network n one.0 b (sym one.2)
  some_network n b (inr none) = absurd (let wrong : Some b ≡ None = none.1 in cc)
