-- The offers to a network, and the kept value of a router, where nothing that they depend on
-- differs (RFC 2328, 16.1).
--   source_is: the sources of an index are what the LSAs offer
--   indexes_of: the indexes of areas that are kept belong to their databases
--   indexed_is: what is offered by the indexes of the areas is what is offered
--   offers_same: an area offers the same over two relations that agree on the prefix
--   offers_kept: a network that does not have to be recomputed is offered the same before and after
--   best_same, entry_same: the best of the offers, and the entry, belong to the same offers given
--     another way
--   entry_indexed: the entry of the offers in the indexes of the areas is the entry of the offers
--   entry_kept: the entry of such a network stays
--   router_kept: what is kept of a router that is not named stays
--   blank_is: blank routes belong to areas without LSAs
--   blank_differs: from areas without LSAs no more differs than the LSAs that there are
use Rattle.std.proofs.Common.{◌≡◌, ℕ, false, true≢false, is_some, List, [], ◌∷◌, map, Option, Some, None, refl, sym, ap, subst, ◌∙◌, ◌⊎◌, inl, inr, ⊎_elim, Ordering}
use Rattle.std.specs.Prelude.{◌↔◌, IsSome, option_map, option_and_then}
use Rattle.std.specs.FinMap.{get, empty, get-empty}
use Rattle.std.specs.Ordering.{nat_cmp}
use Rattle.std.specs.List.{Contains}
use Rattle.ospf_types.specs.declared.config.Interface.{Interface}
use Rattle.ospf_types.specs.declared.entry.Entry.{Entry}
use Rattle.ospf_types.specs.declared.entry.Vertex.{Vertex}
use Rattle.ospf_types.specs.declared.entry.Vertex.TheVariants.{Router, Network}
use Rattle.ospf_types.specs.declared.hop.NextHop.{NextHop}
use Rattle.ospf_types.specs.declared.hop.Path.{Path}
use Rattle.ospf_types.specs.declared.key.Key.{Key}
use Rattle.ospf_types.specs.declared.key.Scope.{Scope}
use Rattle.ospf_types.specs.declared.key.Scope.TheVariants.{Area}
use Rattle.ospf_types.specs.declared.prefix.Prefix.{Prefix}
use Rattle.ospf_types.specs.Best.{IsBest}
use Rattle.ospf_types.specs.Intra.{AreaCost, area_cost_cmp}
use Rattle.ospf_types.specs.Keys.{key_cmp}
use Rattle.ospf_types.specs.Lsa.{Lsa, Body}
use Rattle.ospf_types.specs.Network.{network_cmp}
use Rattle.ospf_types.specs.Vertices.{vertex_cmp}
use Rattle.ospf_types.proofs.Elements.{no_element, first_element, later_element, first_or_later, mapped_from}
use Rattle.lsa_codec.specs.Readers.{flags_of}
use Rattle.lsdb.specs.Contents.{contents_of}
use Rattle.lsdb.specs.Databases.{Database}
use Rattle.area_trees.specs.Areas.{IsStanding, IsUsed, router_key, network_key, body_at}
use Rattle.area_trees.proofs.Standing.{one_standing}
use Rattle.intra.specs.Changes.{DiffersAmong, AreasDifferAmong, InputsDifferAmong}
use Rattle.intra.specs.declared.area_index.PrefixSource.{PrefixSource}
use Rattle.intra.specs.Indexes.{IndexValue, OfferedValue, sources_of, IsSource, IsAreaIndexOf, IsOfferedFor, IndexedOffers, offers_of}
use Rattle.intra.specs.Inputs.{AreaValue, InputsValue, distance_at, hops_at}
use Rattle.intra.specs.Intras.{AreaIntraValue, IntraValue, IsIntraOf, AreAreaIntras, IsEntryFor}
use Rattle.intra.specs.Offers.{Offering, BodyOffers, HasOffer, IsReachedFor, OffersTransit, OffersStub, OffersOwn, AreaOffers, KeyedOffers, OffersOf}
use Rattle.intra.specs.ReachedRouter.{ReachedValue, IsReachedOf, reached_by}

-- ---- an index, and the database that it is of

-- what a vertex has in the index is what it offers by the body that stands for it
listed_is : (d : Database) (w : Vertex) (body : Option Body) (o : Option OfferedValue) → IsStanding d w body → IsOfferedFor w body o → (p : Prefix) (metric : ℕ)
    → Contains (offers_of o) (record { prefix = p; metric = metric }) ↔ HasOffer d w p metric
listed_is d w (Some b) (Some o) stands is p metric = (
  λ c. (b, stands, (is.exact p metric).0 c),
  λ has.
      let one = one_standing d w (Some has.0) (Some b) has.1 stands in
      let same : has.0 ≡ b = cc in
      (is.exact p metric).1 (subst (λ (x : Body). BodyOffers w x p metric) same has.2),
)
listed_is d w (Some b) None stands is p metric = absurd is
listed_is d w None o stands is p metric = (
  λ c. absurd (no_element _ (subst (λ (x : Option OfferedValue). Contains (offers_of x) (record { prefix = p; metric = metric })) is c)),
  λ has. absurd (let one = one_standing d w (Some has.0) None has.1 stands in cc),
)

-- the sources of an index are what the LSAs offer
pub source_is : (d : Database) (i : IndexValue) → IsAreaIndexOf d i → (w : Vertex) (p : Prefix) (metric : ℕ) → IsSource i w p metric ↔ HasOffer d w p metric
source_is d i is w p metric =
    let at = is.offered w in
    let same = is.index w p metric in
    let listed = listed_is d w at.0 (get i.offered w) at.1 at.2 p metric in
    (λ s. listed.0 (same.0 s), λ has. same.1 (listed.1 has))

-- each area has the index of its database
abbrev pub AreIndexesOf : List AreaValue → List IndexValue → Type 0
AreIndexesOf [] [] = Unit {0}
AreIndexesOf (a ∷ rest) (i ∷ is) = IsAreaIndexOf a.lsas i × AreIndexesOf rest is
AreIndexesOf [] (i ∷ is) = ⊥
AreIndexesOf (a ∷ rest) [] = ⊥

abbrev pub indexes_in : List AreaIntraValue → List IndexValue
indexes_in areas = map (λ (i : AreaIntraValue). i.index) areas

-- the indexes of areas that are kept belong to their databases
pub indexes_of : (root : ℕ) (areas : List AreaValue) (kept : List AreaIntraValue) → AreAreaIntras root areas kept → AreIndexesOf areas (indexes_in kept)
indexes_of root [] [] are = tt
indexes_of root (a ∷ rest) (i ∷ is) are = (are.0.index, indexes_of root rest is are.1)
indexes_of root [] (i ∷ is) are = absurd are
indexes_of root (a ∷ rest) [] are = absurd are

-- ---- what an area offers, before and after

-- nothing differs of what the area offers to the prefix
pub record IsAlike (p : Prefix) (one other : Offering) (old new : InputsValue) (a b : AreaValue) : Type 0 where
  pub root : new.root ≡ old.root
  pub id : b.id ≡ a.id
  pub sources : (w : Vertex) (metric : ℕ) → other w p metric ↔ one w p metric
  pub tree : (w : Vertex) (metric : ℕ) → one w p metric → (distance_at b w ≡ distance_at a w) × (hops_at b w ≡ hops_at a w)
  pub interfaces : ((id : ℕ) (i : Interface) → Contains new.interfaces (id, i) ↔ Contains old.interfaces (id, i)) ⊎ ((metric : ℕ) → one (Router old.root) p metric → ⊥)

-- the other way round
alike_back : (p : Prefix) (one other : Offering) (old new : InputsValue) (a b : AreaValue) → IsAlike p one other old new a b → IsAlike p other one new old b a
alike_back p one other old new a b alike = record {
  root = sym alike.root;
  id = sym alike.id;
  sources = λ w metric. let same = alike.sources w metric in (same.1, same.0);
  tree = λ w metric has. let same = alike.tree w metric ((alike.sources w metric).0 has) in (sym same.0, sym same.1);
  interfaces = elim alike.interfaces [
    | inl same ↦ inl (λ id i. let both = same id i in (both.1, both.0))
    | inr none ↦ inr (λ metric has. none metric ((alike.sources (Router old.root) metric).0 (subst (λ (r : ℕ). other (Router r) p metric) alike.root has)))
  ];
}

module _ (p : Prefix) (one other : Offering) (old new : InputsValue) (a b : AreaValue) (alike : IsAlike p one other old new a b) where
  reached_after : (id distance : ℕ) → IsReachedFor one a p id distance → IsReachedFor other b p id distance
  reached_after id distance is = ((alike.sources (Network id) 0).1 is.0, (alike.tree (Network id) 0 is.0).0 ∙ is.1)

  stub_after : (cost : ℕ) (path : Path) → OffersStub one old.root a p cost path → OffersStub other new.root b p cost path
  stub_after cost path is =
      let same = alike.tree (Router is.0) is.2 is.5 in (
        is.0,
        is.1,
        is.2,
        is.3,
        λ e. is.4 (e ∙ alike.root),
        (alike.sources (Router is.0) is.2).1 is.5,
        same.0 ∙ is.6,
        subst (λ (hops : List NextHop). Contains hops is.3) (sym same.1) is.7,
        is.8,
        is.9,
      )

  own_after : (cost : ℕ) (path : Path) → OffersOwn one old a p cost path → OffersOwn other new b p cost path
  own_after cost path is =
      let held : Contains new.interfaces (is.0, is.1) = elim alike.interfaces [
        | inl same ↦ (same is.0 is.1).1 is.3
        | inr none ↦ absurd (none cost is.2)
      ] in (
        is.0,
        is.1,
        subst (λ (r : ℕ). other (Router r) p cost) (sym alike.root) ((alike.sources (Router old.root) cost).1 is.2),
        held,
        is.4 ∙ sym alike.id,
        is.5,
        is.6,
        is.7,
      )

transit_after : (p : Prefix) (one other : Offering) (old new : InputsValue) (a b : AreaValue) → IsAlike p one other old new a b
    → (cost : ℕ) (path : Path) → OffersTransit one a p cost path → OffersTransit other b p cost path
transit_after p one other old new a b alike cost path is =
    let back = alike_back p one other old new a b alike in
    let near = is.2 in (
      is.0,
      is.1,
      record {
        reached = reached_after p one other old new a b alike is.0 cost near.reached;
        nearest = λ id d at. near.nearest id d (reached_after p other one new old b a back id d at);
        greatest = λ id at. near.greatest id (reached_after p other one new old b a back id cost at);
      },
      subst (λ (hops : List NextHop). Contains hops is.1) (sym (alike.tree (Network is.0) 0 near.reached.0).1) is.3,
      is.4,
    )

area_after : (p : Prefix) (one other : Offering) (old new : InputsValue) (a b : AreaValue) → IsAlike p one other old new a b
    → (cost : ℕ) (path : Path) → AreaOffers one old a p cost path → AreaOffers other new b p cost path
area_after p one other old new a b alike cost path is =
    elim is [
      | inl transit ↦ inl (transit_after p one other old new a b alike cost path transit)
      | inr (inl stub) ↦ inr (inl (stub_after p one other old new a b alike cost path stub))
      | inr (inr own) ↦ inr (inr (own_after p one other old new a b alike cost path own))
    ]

-- an area offers the same where nothing differs
pub alike_offers : (p : Prefix) (one other : Offering) (old new : InputsValue) (a b : AreaValue) → IsAlike p one other old new a b
    → (key : AreaCost) (path : Path) → KeyedOffers one old a p key path ↔ KeyedOffers other new b p key path
alike_offers p one other old new a b alike key path = (
  λ is. (is.0 ∙ sym alike.id, area_after p one other old new a b alike key.0 path is.1),
  λ is. (is.0 ∙ alike.id, area_after p other one new old b a (alike_back p one other old new a b alike) key.0 path is.1),
)

-- an area offers the same over two relations that agree on the prefix
pub offers_same : (one other : Offering) (v : InputsValue) (a : AreaValue) (p : Prefix) → ((w : Vertex) (metric : ℕ) → one w p metric ↔ other w p metric)
    → (cost : ℕ) (path : Path) → AreaOffers one v a p cost path ↔ AreaOffers other v a p cost path
offers_same one other v a p same cost path =
    let alike : IsAlike p one other v v a a = record {
      root = refl;
      id = refl;
      sources = λ w metric. let both = same w metric in (both.1, both.0);
      tree = λ w metric has. (refl, refl);
      interfaces = inl (λ id i. (λ c. c, λ c. c));
    } in
    (area_after p one other v v a a alike cost path, area_after p other one v v a a (alike_back p one other v v a a alike) cost path)

-- ---- what all areas offer

-- what some area of the list offers
abbrev pub OffersIn : InputsValue → List AreaValue → Prefix → AreaCost → Path → Type 0
OffersIn v areas p key path = (a : AreaValue) × Contains areas a × KeyedOffers (HasOffer a.lsas) v a p key path

-- what is offered by the indexes is what is offered by the databases
indexed_in : (v : InputsValue) (is : List IndexValue) (areas : List AreaValue) → AreIndexesOf areas is
    → (p : Prefix) (key : AreaCost) (path : Path) → IndexedOffers v is areas p key path ↔ OffersIn v areas p key path
indexed_in v [] [] are p key path = (λ none. absurd none, λ some. absurd (no_element some.0 some.1))
indexed_in v (i ∷ is) (a ∷ rest) are p key path =
    let here = offers_same (IsSource i) (HasOffer a.lsas) v a p (λ w metric. source_is a.lsas i are.0 w p metric) key.0 path in
    let there = indexed_in v is rest are.1 p key path in (
      λ offered. elim offered [
        | inl at ↦ (a, first_element a rest, (at.0, here.0 at.1))
        | inr later ↦ let w = there.0 later in (w.0, later_element a w.0 rest w.1, w.2)
      ],
      λ some. ⊎_elim
          (λ (e : some.0 ≡ a).
          let at = subst (λ (x : AreaValue). KeyedOffers (HasOffer x.lsas) v x p key path) e some.2 in
          inl (at.0, here.1 at.1))
          (λ (c : Contains rest some.0). inr (there.1 (some.0, c, some.2)))
          (first_or_later a some.0 rest some.1),
    )
indexed_in v (i ∷ is) [] are p key path = absurd are
indexed_in v [] (a ∷ rest) are p key path = absurd are

-- what is offered by the indexes of the areas is what is offered
pub indexed_is : (v : InputsValue) (is : List IndexValue) → AreIndexesOf v.areas is
    → (p : Prefix) (key : AreaCost) (path : Path) → IndexedOffers v is v.areas p key path ↔ OffersOf v p key path
indexed_is v is are = indexed_in v is v.areas are

-- ---- the entry of the same offers

module _ {K X : Type 0} (one other : K → X → Type 0) (same : (key : K) (x : X) → one key x ↔ other key x) where
  -- the best of the offers belongs to the same offers
  pub best_same : (cmp : K → K → Ordering) (key : K) (items : List X) → IsBest cmp one key items → IsBest cmp other key items
  best_same cmp key items best = record {
    stands = (best.stands.0, (same key best.stands.0).0 best.stands.1);
    least = λ k x offered. best.least k x ((same k x).1 offered);
    union = λ x. let here = same key x in let all = best.union x in (λ c. here.0 (all.0 c), λ offered. all.1 (here.1 offered));
  }

-- an entry for the offers is one for the same offers
pub entry_same : (one other : AreaCost → Path → Type 0) → ((key : AreaCost) (path : Path) → one key path ↔ other key path) → (e : Option Entry) → IsEntryFor one e → IsEntryFor other e
entry_same one other same None none = λ key path offered. none key path ((same key path).1 offered)
entry_same one other same (Some e) is = (is.0, best_same one other same area_cost_cmp is.0 e.paths is.1, is.2, is.3)

-- ---- a network that does not have to be recomputed

-- what holds in this area: it is offered by the same vertices, none of these is named, and the root
-- is none of them where an interface is named
pub record IsClean (vertices : List (ℕ × Vertex)) (ids : List ℕ) (root : ℕ) (p : Prefix) (area : ℕ) (before after : IndexValue) : Type 0 where
  pub sources : (w : Vertex) (metric : ℕ) → IsSource after w p metric ↔ IsSource before w p metric
  pub unnamed : (w : Vertex) (metric : ℕ) → IsSource after w p metric → Contains vertices (area, w) → ⊥
  pub interfaces : ((id : ℕ) → Contains ids id → ⊥) ⊎ ((metric : ℕ) → IsSource after (Router root) p metric → ⊥)

-- this holds of each area, with its indexes before and after
abbrev pub AreClean : List (ℕ × Vertex) → List ℕ → ℕ → Prefix → List AreaValue → List IndexValue → List IndexValue → Type 0
AreClean vertices ids root p [] [] [] = Unit {0}
AreClean vertices ids root p [] (i ∷ is) js = ⊥
AreClean vertices ids root p [] [] (j ∷ js) = ⊥
AreClean vertices ids root p (b ∷ bs) [] js = ⊥
AreClean vertices ids root p (b ∷ bs) (i ∷ is) [] = ⊥
AreClean vertices ids root p (b ∷ bs) (i ∷ is) (j ∷ js) = IsClean vertices ids root p b.id i j × AreClean vertices ids root p bs is js

-- nothing differs of what each area offers to the prefix
abbrev AreAlike : Prefix → InputsValue → InputsValue → List AreaValue → List AreaValue → Type 0
AreAlike p old new [] [] = Unit {0}
AreAlike p old new [] (b ∷ bs) = ⊥
AreAlike p old new (a ∷ rest) [] = ⊥
AreAlike p old new (a ∷ rest) (b ∷ bs) = IsAlike p (HasOffer a.lsas) (HasOffer b.lsas) old new a b × AreAlike p old new rest bs

module _ (keys : List (Scope × Key)) (vertices : List (ℕ × Vertex)) (ids : List ℕ) (old new : InputsValue) (differ : InputsDifferAmong keys vertices ids old new) (p : Prefix) where
  clean_alike : (a b : AreaValue) (i j : IndexValue) → DiffersAmong keys vertices a b → IsAreaIndexOf a.lsas i → IsAreaIndexOf b.lsas j → IsClean vertices ids new.root p b.id i j
      → IsAlike p (HasOffer a.lsas) (HasOffer b.lsas) old new a b
  clean_alike a b i j differs before after clean =
      let was = source_is a.lsas i before in
      let is = source_is b.lsas j after in
      let still : (w : Vertex) (metric : ℕ) → HasOffer a.lsas w p metric → IsSource j w p metric =
      λ w metric has. (clean.sources w metric).1 ((was w p metric).1 has) in
      record {
        root = differ.root;
        id = differs.id;
        sources = λ w metric. (
          λ has. (was w p metric).0 ((clean.sources w metric).0 ((is w p metric).1 has)),
          λ has. (is w p metric).0 (still w metric has),
        );
        tree = λ w metric has.
            elim (differs.tree w (λ named. clean.unnamed w metric (still w metric has) (subst (λ (id : ℕ). Contains vertices (id, w)) (sym differs.id) named))) [
              | inl none ↦ absurd (let one = one_standing a.lsas w (Some has.0) None has.1 none in cc)
              | inr same ↦ same
            ];
        interfaces = elim clean.interfaces [
          | inl none ↦ inl (λ id interface. differ.interfaces id interface (none id))
          | inr none ↦ inr (λ metric has. none metric (subst (λ (r : ℕ). IsSource j (Router r) p metric) (sym differ.root) (still (Router old.root) metric has)))
        ];
      }

  all_alike : (olds news : List AreaValue) (is js : List IndexValue) → AreasDifferAmong keys vertices olds news → AreIndexesOf olds is → AreIndexesOf news js
      → AreClean vertices ids new.root p news is js → AreAlike p old new olds news
  all_alike [] [] is js differs before after clean = tt
  all_alike (a ∷ rest) (b ∷ bs) (i ∷ is) (j ∷ js) differs before after clean =
      (clean_alike a b i j differs.0 before.0 after.0 clean.0, all_alike rest bs is js differs.1 before.1 after.1 clean.1)
  all_alike (a ∷ rest) (b ∷ bs) [] js differs before after clean = absurd before
  all_alike (a ∷ rest) (b ∷ bs) (i ∷ is) [] differs before after clean = absurd after
  all_alike [] (b ∷ bs) is js differs before after clean = absurd differs
  all_alike (a ∷ rest) [] is js differs before after clean = absurd differs

alike_in : (p : Prefix) (old new : InputsValue) (olds news : List AreaValue) → AreAlike p old new olds news
    → (key : AreaCost) (path : Path) → OffersIn old olds p key path ↔ OffersIn new news p key path
alike_in p old new [] [] alike key path = (λ some. absurd (no_element some.0 some.1), λ some. absurd (no_element some.0 some.1))
alike_in p old new [] (b ∷ bs) alike key path = absurd alike
alike_in p old new (a ∷ rest) [] alike key path = absurd alike
alike_in p old new (a ∷ rest) (b ∷ bs) alike key path =
    let here = alike_offers p (HasOffer a.lsas) (HasOffer b.lsas) old new a b alike.0 key path in
    let there = alike_in p old new rest bs alike.1 key path in (
      λ some. ⊎_elim
          (λ (e : some.0 ≡ a). (b, first_element b bs, here.0 (subst (λ (x : AreaValue). KeyedOffers (HasOffer x.lsas) old x p key path) e some.2)))
          (λ (c : Contains rest some.0). let w = there.0 (some.0, c, some.2) in (w.0, later_element b w.0 bs w.1, w.2))
          (first_or_later a some.0 rest some.1),
      λ some. ⊎_elim
          (λ (e : some.0 ≡ b). (a, first_element a rest, here.1 (subst (λ (x : AreaValue). KeyedOffers (HasOffer x.lsas) new x p key path) e some.2)))
          (λ (c : Contains bs some.0). let w = there.1 (some.0, c, some.2) in (w.0, later_element a w.0 rest w.1, w.2))
          (first_or_later b some.0 bs some.1),
    )

-- it is offered the same before and after
pub offers_kept : (keys : List (Scope × Key)) (vertices : List (ℕ × Vertex)) (ids : List ℕ) (old new : InputsValue) → InputsDifferAmong keys vertices ids old new
    → (is js : List IndexValue) → AreIndexesOf old.areas is → AreIndexesOf new.areas js
    → (p : Prefix) → AreClean vertices ids new.root p new.areas is js
    → (key : AreaCost) (path : Path) → OffersOf old p key path ↔ OffersOf new p key path
offers_kept keys vertices ids old new differ is js before after p clean =
    alike_in p old new old.areas new.areas (all_alike keys vertices ids old new differ p old.areas new.areas is js differ.areas before after clean)

-- and its entry stays
pub entry_kept : (keys : List (Scope × Key)) (vertices : List (ℕ × Vertex)) (ids : List ℕ) (old new : InputsValue) → InputsDifferAmong keys vertices ids old new
    → (is js : List IndexValue) → AreIndexesOf old.areas is → AreIndexesOf new.areas js
    → (p : Prefix) → AreClean vertices ids new.root p new.areas is js
    → (e : Option Entry) → IsEntryFor (OffersOf old p) e → IsEntryFor (OffersOf new p) e
entry_kept keys vertices ids old new differ is js before after p clean e =
    entry_same (OffersOf old p) (OffersOf new p) (offers_kept keys vertices ids old new differ is js before after p clean) e

-- the entry of the offers in the indexes is the entry of the offers
pub entry_indexed : (v : InputsValue) (is : List IndexValue) → AreIndexesOf v.areas is
    → (p : Prefix) (e : Option Entry) → IsEntryFor (IndexedOffers v is v.areas p) e → IsEntryFor (OffersOf v p) e
entry_indexed v is are p e = entry_same (IndexedOffers v is v.areas p) (OffersOf v p) (indexed_is v is are p) e

-- ---- a router that is not named

-- what is kept of it, by the LSA that stands for it, its distance and its next hops
abbrev kept_by : ℕ → ℕ → Option Body → Option ℕ → List NextHop → Option ReachedValue
kept_by root router body distance hops = reached_by root router (option_and_then flags_of body) distance hops

-- nothing is kept of one that is not there, wherever it would be
none_kept : (root router : ℕ) (body : Option Body) (d e : Option ℕ) (hops others : List NextHop) → body ≡ None → kept_by root router body d hops ≡ kept_by root router body e others
none_kept root router None d e hops others none = refl
none_kept root router (Some b) d e hops others none = absurd cc

same_kept : (root router : ℕ) (body : Option Body) (d e : Option ℕ) (hops others : List NextHop) → e ≡ d → others ≡ hops → kept_by root router body d hops ≡ kept_by root router body e others
same_kept root router body d e hops others far over = λ i. kept_by root router body (sym far i) (sym over i)

-- what is kept of it stays
pub router_kept : (keys : List (Scope × Key)) (vertices : List (ℕ × Vertex)) (a b : AreaValue) → DiffersAmong keys vertices a b
    → (router : ℕ) → (Contains keys (Area a.id, router_key router) → ⊥) → (Contains vertices (a.id, Router router) → ⊥)
    → (old_root new_root : ℕ) → new_root ≡ old_root → (value : Option ReachedValue) → IsReachedOf old_root a router value → IsReachedOf new_root b router value
router_kept keys vertices a b differs router no_key no_vertex old_root new_root root value is =
    let stands : IsStanding b.lsas (Router router) is.0 = is.1 ∙ sym (differs.lsas (router_key router) no_key) in
    let same : kept_by old_root router is.0 (distance_at a (Router router)) (hops_at a (Router router)) ≡ kept_by old_root router is.0 (distance_at b (Router router)) (hops_at b (Router router)) =
    elim (differs.tree (Router router) no_vertex) [
      | inl none ↦ none_kept old_root router is.0 _ _ _ _ (is.1 ∙ sym none)
      | inr still ↦ same_kept old_root router is.0 _ _ _ _ still.0 still.1
    ] in
    subst (λ (r : ℕ). IsReachedOf r b router value) (sym root) (is.0, stands, is.2 ∙ same)

-- ---- areas without LSAs

abbrev pub blank_area : AreaValue → AreaIntraValue
blank_area a = record { id = a.id; index = record { offered = empty; sources = empty }; reached = empty }

-- the routes of areas without LSAs
abbrev pub blank : List AreaValue → IntraValue
blank areas = record { areas = map blank_area areas; entries = empty; spent = false }

abbrev pub without_lsas : AreaValue → AreaValue
without_lsas a = record { id = a.id; lsas = empty; tree = a.tree }

-- the inputs, but for the LSAs
abbrev pub blanked : InputsValue → InputsValue
blanked v = record { root = v.root; areas = map without_lsas v.areas; interfaces = v.interfaces }

no_body : (key : Key) → body_at empty key ≡ None
no_body key = ap (λ (o : Option Lsa). option_map (λ (used : ℕ × Body). used.1) (option_and_then contents_of o)) (get-empty key_cmp key)

no_use : (key : Key) → IsUsed empty key → ⊥
no_use key used = true≢false (sym used ∙ ap is_some (no_body key))

-- nothing stands for a vertex without LSAs
none_stands : (w : Vertex) → IsStanding empty w None
none_stands (Router r) = sym (no_body (router_key r))
none_stands (Network n) = inr (λ router used. no_use (network_key n router) used, refl)

no_offer : (w : Vertex) (p : Prefix) (metric : ℕ) → HasOffer empty w p metric → ⊥
no_offer w p metric has = let one = one_standing empty w (Some has.0) None has.1 (none_stands w) in absurd cc

blank_index_is : IsAreaIndexOf empty (record { offered = empty; sources = empty })
blank_index_is = record {
  index = λ w p metric. (
    λ c. absurd (no_element _ (subst (λ (o : Option (List PrefixSource)). Contains (sources_of o) (record { vertex = w; metric = metric })) (get-empty network_cmp p) c)),
    λ c. absurd (no_element _ (subst (λ (o : Option OfferedValue). Contains (offers_of o) (record { prefix = p; metric = metric })) (get-empty vertex_cmp w) c)),
  );
  offered = λ w. (None, none_stands w, get-empty vertex_cmp w);
}

blank_areas : (root : ℕ) (areas : List AreaValue) → AreAreaIntras root (map without_lsas areas) (map blank_area areas)
blank_areas root [] = tt
blank_areas root (a ∷ rest) = (
  record {
    id = refl;
    index = blank_index_is;
    reached = λ router. (None, none_stands (Router router), get-empty nat_cmp router);
  },
  blank_areas root rest,
)

-- blank routes belong to areas without LSAs
pub blank_is : (v : InputsValue) → IsIntraOf (blanked v) (blank v.areas)
blank_is v = record {
  fresh = refl;
  areas = blank_areas v.root v.areas;
  entries = λ p. subst (IsEntryFor (OffersOf (blanked v) p)) (sym (get-empty network_cmp p)) (λ key path some. nothing p key path some);
}
  where
    nothing : (p : Prefix) (key : AreaCost) (path : Path) → OffersOf (blanked v) p key path → ⊥
    nothing p key path some =
        let w = mapped_from without_lsas v.areas some.0 some.1 in
        let none : (x : Vertex) (metric : ℕ) → HasOffer some.0.lsas x p metric → ⊥ =
        λ x metric. subst (λ (a : AreaValue). HasOffer a.lsas x p metric → ⊥) w.2 (no_offer x p metric) in
        elim some.2.1 [
          | inl transit ↦ none (Network transit.0) 0 transit.2.reached.0
          | inr (inl stub) ↦ none (Router stub.0) stub.2 stub.5
          | inr (inr own) ↦ none (Router v.root) key.0 own.2
        ]

absent_body : (d : Database) (key : Key) → (IsSome (get d key) → ⊥) → body_at d key ≡ body_at empty key
absent_body d key absent = none (get d key) refl ∙ sym (no_body key)
  where
    none : (o : Option Lsa) → get d key ≡ o → body_at d key ≡ None
    none None e = ap (λ (o : Option Lsa). option_map (λ (used : ℕ × Body). used.1) (option_and_then contents_of o)) e
    none (Some l) e = absurd (absent (ap is_some e))

-- from areas without LSAs no more differs than the LSAs that there are
pub blank_differs : (keys : List (Scope × Key)) (vertices : List (ℕ × Vertex)) (ids : List ℕ) (v : InputsValue)
    → ((a : AreaValue) (key : Key) → Contains v.areas a → IsSome (get a.lsas key) → Contains keys (Area a.id, key))
    → InputsDifferAmong keys vertices ids (blanked v) v
blank_differs keys vertices ids v all = record {
  root = refl;
  areas = each v.areas (λ a key c. all a key c);
  interfaces = λ id i none. (λ c. c, λ c. c);
}
  where
    each : (areas : List AreaValue) → ((a : AreaValue) (key : Key) → Contains areas a → IsSome (get a.lsas key) → Contains keys (Area a.id, key)) → AreasDifferAmong keys vertices (map without_lsas areas) areas
    each [] named = tt
    each (a ∷ rest) named = (
      record {
        id = refl;
        lsas = λ key absent. absent_body a.lsas key (λ some. absent (named a key (first_element a rest) some));
        tree = λ w none. inl (none_stands w);
      },
      each rest (λ x key c. named x key (later_element a x rest c)),
    )
