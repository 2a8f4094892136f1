-- How one vertex gets the next hops that its least links give it.
use Rattle.std.proofs.Common.{◌≡◌, ◌≢◌, ℕ, List, [], ◌∷◌, ◌++◌, Option, Some, None, refl, sym, ap, subst, ◌∙◌, inl, inr}
use Rattle.std.specs.Prelude.{◌↔◌}
use Rattle.std.specs.FinMap.{get, insert}
use Rattle.std.specs.List.{Contains}
use Rattle.ospf_types.specs.declared.entry.Vertex.{Vertex}
use Rattle.ospf_types.specs.declared.hop.NextHop.{NextHop}
use Rattle.ospf_types.specs.Distances.{Links}
use Rattle.ospf_types.proofs.Elements.{no_element}
use Rattle.vertex_queue.specs.Queues.{Queue}
use Rattle.vertex_queue.specs.Maps.{HopMap}
use Rattle.vertex_queue.proofs.VertexMaps.{set_here, set_elsewhere}
use Rattle.spf.specs.HandedOn.{ArePut, IsLeastHead, IsSettled}
use Rattle.spf.specs.Parts.{hops_of}
use Rattle.spf.specs.Trees.{IsGiven}
use Rattle.spf.specs.TreeValues.{listed_hops}

-- the next hops of a vertex belong to its list
pub hops_listed : (m : HopMap) (v : Vertex) (h : NextHop) → hops_of m v h ↔ Contains (listed_hops (get m v)) h
hops_listed m v h = go (get m v) refl
  where
    go : (o : Option (List NextHop)) → get m v ≡ o → hops_of m v h ↔ Contains (listed_hops o) h
    go None is = (λ w. let differ : Some w.0 ≡ None = sym w.1 ∙ is in absurd cc, λ none. absurd (no_element h none))
    go (Some hops) is = (
      λ w.
          let both : Some w.0 ≡ Some hops = sym w.1 ∙ is in
          let same : w.0 ≡ hops = cc in
          subst (λ (hs : List NextHop). Contains hs h) same w.2,
      λ c. (hops, is, c),
    )

-- those of a vertex that is written
pub hops_written : (m : HopMap) (v : Vertex) (set : List NextHop) (h : NextHop) → hops_of (insert m v set) v h ↔ Contains set h
hops_written m v set h =
    let listed = hops_listed (insert m v set) v h in
    let is : listed_hops (get (insert m v set) v) ≡ set = ap listed_hops (set_here m v set) in
    (λ w. subst (λ (hs : List NextHop). Contains hs h) is (listed.0 w), λ c. listed.1 (subst (λ (hs : List NextHop). Contains hs h) (sym is) c))

-- the others stay
pub hops_elsewhere : (m : HopMap) (v w : Vertex) (set : List NextHop) (h : NextHop) → w ≢ v → hops_of (insert m v set) w h ↔ hops_of m w h
hops_elsewhere m v w set h other =
    let is = set_elsewhere m v w set other in
    (λ x. (x.0, sym is ∙ x.1, x.2), λ x. (x.0, is ∙ x.1, x.2))

module _ (link : Links) (root : ℕ) (distance : Vertex → Option ℕ) (hops : HopMap) (v : Vertex) (set : List NextHop) (given : (h : NextHop) → Contains set h ↔ IsGiven link root distance (hops_of hops) v h) where
  -- the vertex has them already
  pub settled_same : (queue : Queue) (written : List Vertex) (had : Option (List NextHop)) → had ≡ get hops v → ((h : NextHop) → Contains (listed_hops had) h ↔ Contains set h)
      → IsSettled link root distance queue queue (hops_of hops) (hops_of hops) written written v
  settled_same queue written had is same = record {
    union = λ h.
        let listed = hops_listed hops v h in
        let here = subst (λ o. Contains (listed_hops o) h ↔ Contains set h) is (same h) in
        (λ x. (given h).0 (here.0 (listed.0 x)), λ g. listed.1 (here.1 ((given h).1 g)));
    elsewhere = λ w other h. (λ x. x, λ x. x);
    outcome = inr (refl, (λ h. (λ x. x, λ x. x)), refl);
  }

  -- they are others than it has
  pub settled_written : (queue more : Queue) (written wider : List Vertex) (new : HopMap) (had : Option (List NextHop)) → had ≡ get hops v → (((h : NextHop) → Contains (listed_hops had) h ↔ Contains set h) → ⊥)
      → new ≡ insert hops v set → wider ≡ written ++ v ∷ [] → ArePut distance (IsLeastHead link root distance v) (get queue) (get more)
      → IsSettled link root distance queue more (hops_of hops) (hops_of new) written wider v
  settled_written queue more written wider new had is other new_is wider_is heads = subst (λ (m : HopMap). IsSettled link root distance queue more (hops_of hops) (hops_of m) written wider v) (sym new_is) (record {
    union = λ h. let here = hops_written hops v set h in (λ x. (given h).0 (here.0 x), λ g. here.1 ((given h).1 g));
    elsewhere = λ w apart h. hops_elsewhere hops v w set h apart;
    outcome = inl (
      wider_is,
      (λ same. other (λ h.
          let listed = hops_listed hops v h in
          let here = hops_written hops v set h in
          subst (λ o. Contains (listed_hops o) h ↔ Contains set h) (sym is) (λ c. here.0 ((same h).1 (listed.1 c)), λ c. listed.0 ((same h).0 (here.1 c))))),
      heads,
    );
  })
