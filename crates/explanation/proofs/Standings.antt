-- The LSA that describes a vertex, and the cost of a transit network: each is unique.
use Rattle.std.proofs.Common.{◌≡◌, ℕ, List, Option, Some, None, refl, sym, ap, subst, ◌∙◌, inl, inr, le_antisymm, arith}
use Rattle.std.specs.FinMap.{get}
use Rattle.ospf_types.specs.declared.entry.Vertex.{Vertex}
use Rattle.ospf_types.specs.declared.entry.Vertex.TheVariants.{Router, Network}
use Rattle.ospf_types.specs.declared.key.Key.{Key}
use Rattle.ospf_types.specs.Lsa.{Body, Lsa, IsUsable}
use Rattle.lsdb.specs.Databases.{Database}
use Rattle.area_trees.specs.Areas.{IsStanding, IsStandingKey, body_at, network_key}
use Rattle.area_trees.proofs.Held.{held_by}
use Rattle.area_trees.proofs.Standing.{one_standing}
use Rattle.intra.specs.Inputs.{AreaValue, distance_at}
use Rattle.explanation.specs.declared.verdict.Verdict.{Verdict}
use Rattle.explanation.specs.declared.verdict.Verdict.TheVariants as verdict
use Rattle.explanation.specs.declared.layers.Layers.{Layers}
use Rattle.explanation.specs.declared.offer.Offer.{Offer}
use Rattle.explanation.specs.Layers.{AreAreas, HasArea, IsDistanceOf, IsKeyIn, IsKeyStanding}
use Rattle.explanation.specs.Offered.{IsTransitCost, LacksTransitCost}
use Rattle.explanation.proofs.Rivals.{some_same}

-- the usable LSA under that key describes the vertex
key_stands : (d : Database) (v : Vertex) (key : Key) → IsStandingKey d v key → IsStanding d v (body_at d key)
key_stands d (Router r) key is = ap (body_at d) is
key_stands d (Network id) key is = inl (is.0, is.1, ap (body_at d) is.2)

-- the database has a usable LSA under it
pub held_there : (d : Database) (v : Vertex) (key : Key) (body : Body) → IsStandingKey d v key → IsStanding d v (Some body) → (l : Lsa) × (get d key ≡ Some l) × IsUsable l
held_there d v key body is stands =
    let held = held_by d key body (sym (one_standing d v (Some body) (body_at d key) stands (key_stands d v key is))) in
    (held.0, held.1, held.2)

one_key : (d : Database) (v : Vertex) (x y : Key) → IsStandingKey d v x → IsStandingKey d v y → x ≡ y
one_key d (Router r) x y one other = one ∙ sym other
one_key d (Network n) x y one other =
    let same : one.0 ≡ other.0 = le_antisymm (other.1.1 one.0 one.1.0) (one.1.1 other.0 other.1.0) in
    one.2 ∙ ap (network_key n) same ∙ sym other.2

one_key_in : (a : AreaValue) (v : Vertex) (x y : Option Key) → IsKeyIn a v x → IsKeyIn a v y → x ≡ y
one_key_in a v None None one other = refl
one_key_in a v None (Some y) one other = absurd (let wrong : None ≡ Some other.1.0 = one_standing a.lsas v None (Some other.1.0) one other.1.1 in cc)
one_key_in a v (Some x) None one other = absurd (let wrong : None ≡ Some one.1.0 = one_standing a.lsas v None (Some one.1.0) other one.1.1 in cc)
one_key_in a v (Some x) (Some y) one other = ap Some (one_key a.lsas v x y one.0 other.0)

module _ (areas : List AreaValue) (are : AreAreas areas) (id : ℕ) (v : Vertex) where
  one_area : (a b : AreaValue) → HasArea areas id a → HasArea areas id b → a ≡ b
  one_area a b x y = are.once a b x.0 y.0 (x.1 ∙ sym y.1)

  one_key_standing : (x y : Option Key) → IsKeyStanding areas id v x → IsKeyStanding areas id v y → x ≡ y
  one_key_standing x y (inl one) (inl other) = one_key_in one.0 v x y one.2 (subst (λ (a : AreaValue). IsKeyIn a v y) (sym (one_area one.0 other.0 one.1 other.1)) other.2)
  one_key_standing x y (inl one) (inr none) = absurd (none.0 one.0 one.1.0 one.1.1)
  one_key_standing x y (inr none) (inl other) = absurd (none.0 other.0 other.1.0 other.1.1)
  one_key_standing x y (inr none) (inr nor) = none.1 ∙ sym nor.1

  pub one_distance : (x y : Option ℕ) → IsDistanceOf areas id v x → IsDistanceOf areas id v y → x ≡ y
  one_distance x y (inl one) (inl other) = one.2 ∙ ap (λ (a : AreaValue). distance_at a v) (one_area one.0 other.0 one.1 other.1) ∙ sym other.2
  one_distance x y (inl one) (inr none) = absurd (none.0 one.0 one.1.0 one.1.1)
  one_distance x y (inr none) (inl other) = absurd (none.0 other.0 other.1.0 other.1.1)
  one_distance x y (inr none) (inr nor) = none.1 ∙ sym nor.1

module _ (w : Layers) (are : AreAreas w.areas.now) (area : ℕ) (o : Offer) where
  -- a transit network has one cost
  pub one_cost : (c d : ℕ) → IsTransitCost w area o c → IsTransitCost w area o d → c ≡ d
  one_cost c d x y = some_same c d (one_distance w.areas.now are area (Network o.source.key.id) (Some c) (Some d) x.2 y.2)

  -- and no reason to have none
  pub has_cost : (c : ℕ) (f : Verdict) → IsTransitCost w area o c → LacksTransitCost w area o f → ⊥
  has_cost c verdict.MaxAge x lacks = let young = x.0 in omega (arith, young, lacks)
  has_cost c verdict.Another x lacks = lacks.3 (one_key_standing w.areas.now are area (Network o.source.key.id) lacks.1 (Some o.source.key) lacks.2 x.1)
  has_cost c verdict.Unreached x lacks = let wrong : Some c ≡ None = one_distance w.areas.now are area (Network o.source.key.id) (Some c) None x.2 lacks.2 in cc
  has_cost c _ x lacks = lacks
