-- The offers of a prefix's sources, part by part, are the offers of the definition.
use Rattle.std.proofs.Common.{◌≡◌, ◌≢◌, ℕ, ◌+◌, List, [], ◌∷◌, map, Option, Some, None, refl, sym, ap, subst, ◌∙◌, ◌⊎◌, inl, inr, ⊎_elim}
use Rattle.std.specs.Prelude.{◌↔◌}
use Rattle.std.specs.List.{Contains}
use Rattle.std.specs.FinMap.{get}
use Rattle.ospf_types.specs.declared.config.Interface.{Interface}
use Rattle.ospf_types.specs.declared.entry.Vertex.{Vertex}
use Rattle.ospf_types.specs.declared.entry.Vertex.TheVariants.{Router, Network}
use Rattle.ospf_types.specs.declared.hop.NextHop.TheVariants.{Direct}
use Rattle.ospf_types.specs.declared.hop.Path.{Path}
use Rattle.ospf_types.specs.declared.prefix.Prefix.{Prefix}
use Rattle.ospf_types.specs.declared.entry.Entry.{Entry}
use Rattle.ospf_types.specs.declared.entry.PathType.TheVariants.{Intra}
use Rattle.ospf_types.specs.Hops.{path_cmp}
use Rattle.ospf_types.specs.Intra.{AreaCost, area_cost_cmp, inside_area}
use Rattle.ospf_types.specs.Routes.{entry_of}
use Rattle.intra.specs.declared.area_index.PrefixSource.{PrefixSource}
use Rattle.route_choice.specs.Choices.{Chosen, IsChosen}
use Rattle.intra.specs.Choosing.{TakesPaths, AmongSources, ThisSource, KeyedStubs, KeyedTransit, HopsOffer, InterfaceOffers, IsOver, FindsNearest}
use Rattle.intra.specs.Indexes.{IndexValue, IndexedOffers, IsSource, sources_of}
use Rattle.intra.specs.Inputs.{AreaValue, InputsValue, distance_at, hops_at}
use Rattle.intra.specs.Intras.{AreaIntraValue, IsEntryFor}
use Rattle.intra.specs.Offers.{Offering, IsNearest, OffersTransit, OffersStub, OffersOwn, KeyedOffers}
use Rattle.route_choice.specs.Takes.{OnlyOffer, OfferedBySome}
use Rattle.route_choice.proofs.Taking.{takes_none, takes_same, takes_two, taken_chosen}
use Rattle.intra.proofs.Nearest.{nearest_is_one}

-- the choice among paths so far
abbrev PathChoice : Type 0
PathChoice = Option (Chosen AreaCost Path)

abbrev stub_link : ℕ → ℕ → PrefixSource
stub_link router metric = record { vertex = Router router; metric = metric }

same_router : (r m router metric : ℕ) → stub_link r m ≡ stub_link router metric → r ≡ router
same_router r m router metric e = let v : Router r ≡ Router router = ap (λ (s : PrefixSource). s.vertex) e in cc

same_metric : (r m router metric : ℕ) → stub_link r m ≡ stub_link router metric → m ≡ metric
same_metric r m router metric e = ap (λ (s : PrefixSource). s.metric) e

-- ---- over an interface

module _ (p : Prefix) (at : AreaCost) (id : ℕ) (i : Interface) where
  pub takes_over : (old new : PathChoice) → IsOver at.1 p i → TakesPaths (OnlyOffer at (inside_area (Direct id))) old new → TakesPaths (InterfaceOffers p at (id, i)) old new
  takes_over old new over takes =
      takes_same (OnlyOffer at (inside_area (Direct id))) (InterfaceOffers p at (id, i)) (λ key path. (λ h. (over, h), λ h. h.1)) old new takes

  pub takes_aside : (c : PathChoice) → (IsOver at.1 p i → ⊥) → TakesPaths (InterfaceOffers p at (id, i)) c c
  takes_aside c aside = takes_none (InterfaceOffers p at (id, i)) (λ key path h. aside h.0) c

-- ---- a stub link

module _ (v : InputsValue) (a : AreaValue) (p : Prefix) where
  module _ (r m : ℕ) where
    -- of the root
    pub takes_own : (old new : PathChoice) → r ≡ v.root → TakesPaths (OfferedBySome v.interfaces (InterfaceOffers p (m, a.id))) old new → TakesPaths (KeyedStubs (ThisSource (stub_link r m)) v a p) old new
    takes_own old new root takes = takes_same (OfferedBySome v.interfaces (InterfaceOffers p (m, a.id))) (KeyedStubs (ThisSource (stub_link r m)) v a p) (λ key path. (
      λ h.
          let at = h.2.1.0 in
          let source : stub_link r m ≡ stub_link v.root key.0 = λ i. stub_link (root i) (sym at i).0 in
          (ap (λ (k : AreaCost). k.1) at, inr (h.0.0, h.0.1, source, h.1, h.2.0.here, h.2.0.up, h.2.0.inside, h.2.1.1)),
      λ h. ⊎_elim
          (λ (w : OffersStub (ThisSource (stub_link r m)) v.root a p key.0 path). absurd (w.4 (sym (same_router r m w.0 w.2 w.5) ∙ root)))
          (λ (w : OffersOwn (ThisSource (stub_link r m)) v a p key.0 path).
          let cost : key.0 ≡ m = sym (same_metric r m v.root key.0 w.2) in
          ((w.0, w.1), w.3, (record { here = w.4; up = w.5; inside = w.6 }, (λ i. (cost i, h.0 i), w.7))))
          h.1,
    )) old new takes

    module _ (other : r ≢ v.root) where
      -- of a router that is reached
      pub takes_reached : (distance : ℕ) (old new : PathChoice) → distance_at a (Router r) ≡ Some distance → TakesPaths (HopsOffer (hops_at a (Router r)) (distance + m, a.id)) old new → TakesPaths (KeyedStubs (ThisSource (stub_link r m)) v a p) old new
      takes_reached distance old new reached takes = takes_same (HopsOffer (hops_at a (Router r)) (distance + m, a.id)) (KeyedStubs (ThisSource (stub_link r m)) v a p) (λ key path. (
        λ h. (ap (λ (k : AreaCost). k.1) h.2.0, inl (r, distance, m, h.0, other, refl, reached, h.1, ap (λ (k : AreaCost). k.0) h.2.0, h.2.1)),
        λ h. ⊎_elim
            (λ (w : OffersStub (ThisSource (stub_link r m)) v.root a p key.0 path).
            let router : w.0 ≡ r = sym (same_router r m w.0 w.2 w.5) in
            let metric : w.2 ≡ m = sym (same_metric r m w.0 w.2 w.5) in
            let both : Some w.1 ≡ Some distance = sym w.6 ∙ ap (λ n. distance_at a (Router n)) router ∙ reached in
            let far : w.1 ≡ distance = cc in
            let cost : key.0 ≡ distance + m = w.8 ∙ (λ i. far i + metric i) in
            (w.3, subst (λ n. Contains (hops_at a (Router n)) w.3) router w.7, (λ i. (cost i, h.0 i), w.9)))
            (λ (w : OffersOwn (ThisSource (stub_link r m)) v a p key.0 path). absurd (other (same_router r m v.root key.0 w.2)))
            h.1,
      )) old new takes

      -- of one that is not
      pub takes_unreached : (c : PathChoice) → distance_at a (Router r) ≡ None → TakesPaths (KeyedStubs (ThisSource (stub_link r m)) v a p) c c
      takes_unreached c unreached = takes_none (KeyedStubs (ThisSource (stub_link r m)) v a p) (λ key path h. ⊎_elim
          (λ (w : OffersStub (ThisSource (stub_link r m)) v.root a p key.0 path).
          let e : Some w.1 ≡ None = sym w.6 ∙ ap (λ n. distance_at a (Router n)) (sym (same_router r m w.0 w.2 w.5)) ∙ unreached in
          absurd cc)
          (λ (w : OffersOwn (ThisSource (stub_link r m)) v a p key.0 path). other (same_router r m v.root key.0 w.2))
          h.1) c

  -- ---- the sources

  -- a router's is a stub link
  pub takes_router : (s : PrefixSource) (router : ℕ) (old new : PathChoice) → s.vertex ≡ Router router → TakesPaths (KeyedStubs (ThisSource (stub_link router s.metric)) v a p) old new → TakesPaths (KeyedStubs (ThisSource s) v a p) old new
  takes_router s router old new is takes = subst (λ (t : PrefixSource). TakesPaths (KeyedStubs (ThisSource t) v a p) old new) (λ i. record { vertex = sym is i; metric = s.metric }) takes

  -- a network's is none
  pub takes_network : (s : PrefixSource) (id : ℕ) (c : PathChoice) → s.vertex ≡ Network id → TakesPaths (KeyedStubs (ThisSource s) v a p) c c
  takes_network s id c is = takes_none (KeyedStubs (ThisSource s) v a p) (λ key path h. ⊎_elim
      (λ (w : OffersStub (ThisSource s) v.root a p key.0 path). let e : Network id ≡ Router w.0 = sym is ∙ ap (λ (t : PrefixSource). t.vertex) w.5 in absurd cc)
      (λ (w : OffersOwn (ThisSource s) v a p key.0 path). let e : Network id ≡ Router v.root = sym is ∙ ap (λ (t : PrefixSource). t.vertex) w.2 in absurd cc)
      h.1) c

  module _ (sources : List PrefixSource) where
    -- one after the other
    pub takes_sources : (old new : PathChoice) → TakesPaths (OfferedBySome sources (λ s. KeyedStubs (ThisSource s) v a p)) old new → TakesPaths (KeyedStubs (AmongSources sources) v a p) old new
    takes_sources old new takes = takes_same (OfferedBySome sources (λ s. KeyedStubs (ThisSource s) v a p)) (KeyedStubs (AmongSources sources) v a p) (λ key path. (
      λ h. (
        h.2.0,
        ⊎_elim
            (λ (w : OffersStub (ThisSource h.0) v.root a p key.0 path). inl (w.0, w.1, w.2, w.3, w.4, subst (Contains sources) w.5 h.1, w.6, w.7, w.8, w.9))
            (λ (w : OffersOwn (ThisSource h.0) v a p key.0 path). inr (w.0, w.1, subst (Contains sources) w.2 h.1, w.3, w.4, w.5, w.6, w.7))
            h.2.1,
      ),
      λ h. ⊎_elim
          (λ (w : OffersStub (AmongSources sources) v.root a p key.0 path). (stub_link w.0 w.2, w.5, (h.0, inl (w.0, w.1, w.2, w.3, w.4, refl, w.6, w.7, w.8, w.9))))
          (λ (w : OffersOwn (AmongSources sources) v a p key.0 path). (stub_link v.root key.0, w.2, (h.0, inr (w.0, w.1, refl, w.3, w.4, w.5, w.6, w.7))))
          h.1,
    )) old new takes

-- ---- an area

module _ (a : AreaValue) (p : Prefix) (offered : Offering) where
  -- over each next hop of the transit network that stands for the prefix
  pub takes_transit : (id distance : ℕ) (old new : PathChoice) → IsNearest offered a p id distance → TakesPaths (HopsOffer (hops_at a (Network id)) (distance, a.id)) old new → TakesPaths (KeyedTransit offered a p) old new
  takes_transit id distance old new nearest takes = takes_same (HopsOffer (hops_at a (Network id)) (distance, a.id)) (KeyedTransit offered a p) (λ key path. (
    λ h. (ap (λ (k : AreaCost). k.1) h.2.0, (id, h.0, subst (IsNearest offered a p id) (sym (ap (λ (k : AreaCost). k.0) h.2.0)) nearest, h.1, h.2.1)),
    λ h.
        let w = h.1 in
        let one = nearest_is_one offered a p w.0 key.0 id distance w.2 nearest in
        (w.1, subst (λ n. Contains (hops_at a (Network n)) w.1) one.0 w.3, ((λ i. (one.1 i, h.0 i)), w.4)),
  )) old new takes

  -- none stands for it
  pub takes_no_transit : (c : PathChoice) → FindsNearest offered a p None → TakesPaths (KeyedTransit offered a p) c c
  takes_no_transit c none = takes_none (KeyedTransit offered a p) (λ key path h. none h.1.0 key.0 h.1.2.reached) c

  -- stub links, and then the transit network
  pub takes_area : (v : InputsValue) (old mid new : PathChoice) → TakesPaths (KeyedStubs offered v a p) old mid → TakesPaths (KeyedTransit offered a p) mid new → TakesPaths (KeyedOffers offered v a p) old new
  takes_area v old mid new stubs transit =
      takes_same (λ key path. KeyedStubs offered v a p key path ⊎ KeyedTransit offered a p key path) (KeyedOffers offered v a p) (λ key path. (
        λ h. ⊎_elim
            (λ (w : KeyedStubs offered v a p key path). (w.0, inr w.1))
            (λ (w : KeyedTransit offered a p key path). (w.0, inl w.1)) h,
        λ h. ⊎_elim
            (λ (w : OffersTransit offered a p key.0 path). inr (h.0, w))
            (λ (w : OffersStub offered v.root a p key.0 path ⊎ OffersOwn offered v a p key.0 path). inl (h.0, w)) h.1,
      )) old new (takes_two (KeyedStubs offered v a p) (KeyedTransit offered a p) old mid new stubs transit)

-- what offers the same of a prefix stands for the same
module _ (f g : Offering) (v : InputsValue) (a : AreaValue) (p : Prefix) (same : (w : Vertex) (metric : ℕ) → f w p metric ↔ g w p metric) where
  nearest_alike : (id distance : ℕ) → IsNearest f a p id distance → IsNearest g a p id distance
  nearest_alike id distance n = record {
    reached = ((same (Network id) 0).0 n.reached.0, n.reached.1);
    nearest = λ other d r. n.nearest other d ((same (Network other) 0).1 r.0, r.1);
    greatest = λ other r. n.greatest other ((same (Network other) 0).1 r.0, r.1);
  }

  pub keyed_alike : (key : AreaCost) (path : Path) → KeyedOffers f v a p key path → KeyedOffers g v a p key path
  keyed_alike key path h = (
    h.0,
    ⊎_elim
        (λ (w : OffersTransit f a p key.0 path). inl (w.0, w.1, nearest_alike w.0 key.0 w.2, w.3, w.4))
        (λ (r : OffersStub f v.root a p key.0 path ⊎ OffersOwn f v a p key.0 path). inr (⊎_elim
        (λ (w : OffersStub f v.root a p key.0 path). inl (w.0, w.1, w.2, w.3, w.4, (same (Router w.0) w.2).0 w.5, w.6, w.7, w.8, w.9))
        (λ (w : OffersOwn f v a p key.0 path). inr (w.0, w.1, (same (Router v.root) key.0).0 w.2, w.3, w.4, w.5, w.6, w.7)) r))
        h.1,
  )

-- the sources of the prefix in an index
pub takes_indexed : (i : IndexValue) (v : InputsValue) (a : AreaValue) (p : Prefix) (sources : List PrefixSource) (old new : PathChoice) → sources ≡ sources_of (get i.sources p) → TakesPaths (KeyedOffers (AmongSources sources) v a p) old new → TakesPaths (KeyedOffers (IsSource i) v a p) old new
takes_indexed i v a p sources old new is takes =
    let indexed : List PrefixSource = sources_of (get i.sources p) in
    takes_same (KeyedOffers (AmongSources indexed) v a p) (KeyedOffers (IsSource i) v a p) (λ key path. (
      keyed_alike (AmongSources indexed) (IsSource i) v a p (λ w metric. (λ c. c, λ c. c)) key path,
      keyed_alike (IsSource i) (AmongSources indexed) v a p (λ w metric. (λ c. c, λ c. c)) key path,
    )) old new (subst (λ (xs : List PrefixSource). TakesPaths (KeyedOffers (AmongSources xs) v a p) old new) is takes)

-- ---- all areas

abbrev indexes_of : List AreaIntraValue → List IndexValue
indexes_of kept = map (λ k. k.index) kept

module _ (v : InputsValue) (p : Prefix) where
  -- the first area, and then the others
  pub takes_areas : (kept : AreaIntraValue) (more : List AreaIntraValue) (a : AreaValue) (rest : List AreaValue) (old mid new : PathChoice) → TakesPaths (KeyedOffers (IsSource kept.index) v a p) old mid → TakesPaths (IndexedOffers v (indexes_of more) rest p) mid new → TakesPaths (IndexedOffers v (indexes_of (kept ∷ more)) (a ∷ rest) p) old new
  takes_areas kept more a rest old mid new here others = takes_two (KeyedOffers (IsSource kept.index) v a p) (IndexedOffers v (indexes_of more) rest p) old mid new here others

  no_area : (kept : List AreaIntraValue) (areas : List AreaValue) → (kept ≡ []) ⊎ (areas ≡ []) → (key : AreaCost) (path : Path) → IndexedOffers v (indexes_of kept) areas p key path → ⊥
  no_area [] [] over key path h = h
  no_area [] (a ∷ rest) over key path h = h
  no_area (k ∷ more) [] over key path h = h
  no_area (k ∷ more) (a ∷ rest) over key path h = ⊎_elim (λ (e : k ∷ more ≡ []). absurd cc) (λ (e : a ∷ rest ≡ []). absurd cc) over

  -- no area is left
  pub takes_no_area : (kept : List AreaIntraValue) (areas : List AreaValue) (c : PathChoice) → (kept ≡ []) ⊎ (areas ≡ []) → TakesPaths (IndexedOffers v (indexes_of kept) areas p) c c
  takes_no_area kept areas c over = takes_none (IndexedOffers v (indexes_of kept) areas p) (no_area kept areas over) c

-- ---- the entry

module _ (offers : AreaCost → Path → Type 0) where
  -- from nothing on, what was taken is chosen from
  pub chosen_from : (old new c : PathChoice) → old ≡ None → new ≡ c → TakesPaths offers old new → IsChosen area_cost_cmp path_cmp offers c
  chosen_from old new c none is takes = taken_chosen offers c (subst (λ (o : PathChoice). TakesPaths offers o c) none (subst (TakesPaths offers old) is takes))

  pub entry_from : (c : Chosen AreaCost Path) (e : Entry) → e ≡ entry_of Intra (Some c.key.1) c.key.0 0 c.items → IsChosen area_cost_cmp path_cmp offers (Some c) → IsEntryFor offers (Some e)
  entry_from c e is chosen = subst (λ (f : Entry). IsEntryFor offers (Some f)) (sym is) (c.key, chosen.0, chosen.1, refl)
