-- Routes that belonged to earlier inputs belong to the present ones once all that may differ
-- followed.
use Rattle.std.proofs.Common.{◌≡◌, ◌≢◌, ℕ, zero, suc, ◌<◌, nat_eq, true, false, List, [], ◌∷◌, ◌++◌, map, length, get_or, Option, Some, None, refl, sym, ap, subst, ◌∙◌, ◌⊎◌, inl, inr, arith}
use Rattle.std.specs.Prelude.{◌↔◌, option_map, option_and_then, if◌then◌else◌}
use Rattle.std.specs.FinMap.{get}
use Rattle.std.specs.List.{Contains}
use Rattle.ospf_types.specs.declared.entry.Vertex.{Vertex}
use Rattle.ospf_types.specs.declared.entry.Vertex.TheVariants as vertex
use Rattle.ospf_types.specs.declared.hop.NextHop.{NextHop}
use Rattle.ospf_types.specs.declared.key.Dest.{Dest}
use Rattle.ospf_types.specs.declared.key.Dest.TheVariants.{Net, Router}
use Rattle.ospf_types.specs.declared.key.Key.{Key}
use Rattle.ospf_types.specs.declared.key.Scope.{Scope}
use Rattle.ospf_types.specs.declared.key.Scope.TheVariants.{Area}
use Rattle.ospf_types.specs.declared.prefix.Prefix.{Prefix}
use Rattle.ospf_types.specs.Lsa.{Body}
use Rattle.ospf_types.proofs.Elements.{no_element, first_element}
use Rattle.ospf_types.proofs.Orders.{network_total, network_exact}
use Rattle.lsa_codec.specs.Readers.{flags_of}
use Rattle.area_trees.specs.Areas.{router_key}
use Rattle.intra.specs.Changes.{AreasDifferAmong, InputsDifferAmong, HasOtherRouter, DiffersAt}
use Rattle.intra.specs.Following.{router_now, with_index_of}
use Rattle.intra.specs.Indexes.{IndexValue, OfferedValue, IsAreaIndexOf, IsOfferedFor, IsSource, IndexedOffers, bits_of}
use Rattle.intra.specs.Inputs.{AreaValue, InputsValue, distance_at, hops_at}
use Rattle.intra.specs.Intras.{AreaIntraValue, IntraValue, IsAreaIntra, AreAreaIntras, IsEntryFor, IsIntraOf}
use Rattle.intra.specs.Offers.{OffersOf}
use Rattle.intra.specs.ReachedRouter.{ReachedByRouter, ReachedValue, IsReachedOf, reached_by}
use Rattle.intra.specs.ChosenAnew.{AreEntriesChosenAnew}
use Rattle.intra.specs.Updating.{IsKeptBefore, AreKeptBefore, AreFirst, IsFollowed, AreRoutersSettled, IsBroughtTo, HasOtherAmong}
use Rattle.route_choice.proofs.Among.{net_among, router_among}
use Rattle.route_choice.proofs.KeyedMaps.{listed_or_not}
use Rattle.intra.proofs.Frame.{IsClean, AreClean, indexes_in, indexes_of, indexed_is, entry_same, entry_kept, router_kept}

-- ---- area by area

-- each area that is kept belongs to an area from which the present one differs in no more than is
-- named
pub are_before : (root : ℕ) (keys : List (Scope × Key)) (vertices : List (ℕ × Vertex)) (bs areas : List AreaValue) (is : List AreaIntraValue) → AreAreaIntras root bs is → AreasDifferAmong keys vertices bs areas
    → AreKeptBefore root keys vertices areas is
are_before root keys vertices [] [] [] are differ = record { as_many = refl; each = λ k a i lt. absurd (omega (arith, lt)) }
are_before root keys vertices [] [] (i ∷ is) are differ = absurd are
are_before root keys vertices [] (a ∷ areas) is are differ = absurd differ
are_before root keys vertices (b ∷ bs) [] is are differ = absurd differ
are_before root keys vertices (b ∷ bs) (a ∷ areas) [] are differ = absurd are
are_before root keys vertices (b ∷ bs) (a ∷ areas) (i ∷ is) are differ =
    let rest = are_before root keys vertices bs areas is are.1 differ.1 in
    record { as_many = ap suc rest.as_many; each = each rest }
  where
    each : AreKeptBefore root keys vertices areas is → (k : ℕ) (x : AreaValue) (y : AreaIntraValue) → k < length (a ∷ areas) → IsKeptBefore root keys vertices (get_or (a ∷ areas) k x) (get_or (i ∷ is) k y)
    each rest zero x y lt = (b, are.0, differ.0)
    each rest (suc k) x y lt = rest.each k x y (omega (arith, lt))

-- what holds place by place
pub intras_of : (root : ℕ) (areas : List AreaValue) (js : List AreaIntraValue) → length js ≡ length areas
    → ((k : ℕ) (a : AreaValue) (j : AreaIntraValue) → k < length areas → IsAreaIntra root (get_or areas k a) (get_or js k j)) → AreAreaIntras root areas js
intras_of root [] [] len each = tt
intras_of root [] (j ∷ js) len each = absurd (omega (arith, len))
intras_of root (a ∷ areas) [] len each = absurd (omega (arith, len))
intras_of root (a ∷ areas) (j ∷ js) len each = (each 0 a j (omega arith), intras_of root areas js (omega (arith, len)) (λ k x y lt. each (suc k) x y (omega (arith, lt))))

pub clean_of : (vertices : List (ℕ × Vertex)) (ids : List ℕ) (root : ℕ) (p : Prefix) (areas : List AreaValue) (is js : List AreaIntraValue) → length is ≡ length areas → length js ≡ length areas
    → ((k : ℕ) (a : AreaValue) (i j : AreaIntraValue) → k < length areas → IsClean vertices ids root p (get_or areas k a).id (get_or is k i).index (get_or js k j).index)
    → AreClean vertices ids root p areas (indexes_in is) (indexes_in js)
clean_of vertices ids root p [] [] [] one other each = tt
clean_of vertices ids root p [] (i ∷ is) js one other each = absurd (omega (arith, one))
clean_of vertices ids root p [] [] (j ∷ js) one other each = absurd (omega (arith, other))
clean_of vertices ids root p (a ∷ areas) [] js one other each = absurd (omega (arith, one))
clean_of vertices ids root p (a ∷ areas) (i ∷ is) [] one other each = absurd (omega (arith, other))
clean_of vertices ids root p (a ∷ areas) (i ∷ is) (j ∷ js) one other each =
    (each 0 a i j (omega arith), clean_of vertices ids root p areas is js (omega (arith, one)) (omega (arith, other)) (λ k x y z lt. each (suc k) x y z (omega (arith, lt))))

-- ---- one area

-- bits that an index has as 0 where the LSA has none
bits_agree : (root router n : ℕ) (o distance : Option ℕ) (hops : List NextHop) → n ≡ bits_of o → reached_by root router (Some n) distance hops ≡ reached_by root router o distance hops
bits_agree root router n (Some f) distance hops e = ap (λ (x : ℕ). reached_by root router (Some x) distance hops) e
bits_agree root router n None distance hops e = ap (λ (x : ℕ). reached_by root router (Some x) distance hops) e ∙ zero_bits distance
  where
    zero_bits : (d : Option ℕ) → reached_by root router (Some 0) d hops ≡ reached_by root router None d hops
    zero_bits None = refl
    zero_bits (Some d) = elim (nat_eq router root) as (λ b. ◌≡◌ {A = Option ReachedValue} (if b then None else None) None) [ true ↦ refl | false ↦ refl ]

value_agrees : (root router : ℕ) (body : Option Body) (o : Option OfferedValue) (distance : Option ℕ) (hops : List NextHop) → IsOfferedFor (vertex.Router router) body o
    → reached_by root router (option_map (λ (x : OfferedValue). x.flags) o) distance hops ≡ reached_by root router (option_and_then flags_of body) distance hops
value_agrees root router None o distance hops is = ap (λ (x : Option OfferedValue). reached_by root router (option_map (λ (y : OfferedValue). y.flags) x) distance hops) is
value_agrees root router (Some b) None distance hops is = absurd is
value_agrees root router (Some b) (Some x) distance hops is = bits_agree root router x.flags (flags_of b) distance hops is.flags

-- what is kept by the index of the database is right
pub router_right : (root : ℕ) (a : AreaValue) (i : IndexValue) (router : ℕ) (value : Option ReachedValue) → IsAreaIndexOf a.lsas i → value ≡ router_now root a i router → IsReachedOf root a router value
router_right root a i router value is e =
    let at = is.offered (vertex.Router router) in
    (at.0, at.1, e ∙ value_agrees root router at.0 (get i.offered (vertex.Router router)) (distance_at a (vertex.Router router)) (hops_at a (vertex.Router router)) at.2)

module _ (root : ℕ) (keys : List (Scope × Key)) (vertices : List (ℕ × Vertex)) (ids : List ℕ) (prefixes : List Prefix) (a : AreaValue) (i m j : AreaIntraValue)
    (before : IsKeptBefore root keys vertices a i) (followed : IsFollowed root vertices ids prefixes a i m) (settled : AreRoutersSettled root keys vertices a m j) where
  -- an area that followed belongs to the present one
  pub one_area : IsAreaIntra root a j
  one_area =
      let b = before.0 in
      let was : m.id ≡ b.id = followed.gathered.id ∙ before.1.id in
      record {
        id = settled.id ∙ was ∙ sym before.2.id;
        index = subst (IsAreaIndexOf a.lsas) (sym settled.index) followed.index;
        reached = λ r. elim (settled.each r) [
          | inl now ↦ router_right root a m.index r (get j.reached r) followed.index now
          | inr kept ↦
              let no_key : Contains keys (Area b.id, router_key r) → ⊥ = λ c. kept.1 (inl ((Area b.id, router_key r), c, (ap Area (sym was), refl))) in
              let no_vertex : Contains vertices (b.id, vertex.Router r) → ⊥ = λ c. kept.1 (inr ((b.id, vertex.Router r), c, λ n. (sym was n, vertex.Router r))) in
              let same : get j.reached r ≡ get i.reached r = kept.0 ∙ ap (λ (x : ReachedByRouter). get x r) followed.gathered.reached in
              subst (λ (value : Option ReachedValue). IsReachedOf root a r value) (sym same) (router_kept keys vertices b a before.2 r no_key no_vertex root root refl (get i.reached r) (before.1.reached r))
        ];
      }

  -- a network that is not among those that may get another entry
  pub one_clean : (p : Prefix) → (Contains prefixes p → ⊥) → IsClean vertices ids root p a.id i.index j.index
  one_clean p absent =
      let here : (w : Vertex) (metric : ℕ) → IsSource j.index w p metric → IsSource m.index w p metric = λ w metric. subst (λ (x : IndexValue). IsSource x w p metric) settled.index in
      let there : (w : Vertex) (metric : ℕ) → IsSource m.index w p metric → IsSource j.index w p metric = λ w metric. subst (λ (x : IndexValue). IsSource x w p metric) (sym settled.index) in
      let gathered = followed.gathered in
      let id : a.id ≡ i.id = before.2.id ∙ sym before.1.id in
      record {
        sources = λ w metric. let same = gathered.touched.others p absent w metric in (λ s. same.0 (here w metric s), λ s. there w metric (same.1 s));
        unnamed = λ w metric s c. absent (gathered.named w (subst (λ (n : ℕ). Contains vertices (n, w)) id c) p metric (here w metric s));
        interfaces = by ids (λ n c metric s. absent (gathered.own n c p metric (here (vertex.Router root) metric s)));
      }
    where
      by : (ns : List ℕ) → ((n : ℕ) → Contains ns n → (metric : ℕ) → IsSource j.index (vertex.Router root) p metric → ⊥) → ((n : ℕ) → Contains ns n → ⊥) ⊎ ((metric : ℕ) → IsSource j.index (vertex.Router root) p metric → ⊥)
      by [] none = inl (λ n c. no_element n c)
      by (n ∷ ns) none = inr (none n (first_element n ns))

-- ---- routers of which something else is kept

some_at : {A : Type 0} (xs : List A) (k : ℕ) → k < length xs → A
some_at [] k lt = absurd (omega (arith, lt))
some_at (x ∷ xs) zero lt = x
some_at (x ∷ xs) (suc k) lt = some_at xs k (omega (arith, lt))

pub other_router : (is js : List AreaIntraValue) (r : ℕ) → length js ≡ length is → HasOtherAmong (length is) is js r ↔ HasOtherRouter is js r
other_router [] js r len = (λ w. absurd (omega (arith, w.1)), λ no. absurd no)
other_router (i ∷ is) [] r len = (λ w. absurd (omega (arith, len)), λ no. absurd no)
other_router (i ∷ is) (j ∷ js) r len =
    let rest = other_router is js r (omega (arith, len)) in
    (λ w. here rest w.0 w.1 w.2, λ w. there rest w)
  where
    here : HasOtherAmong (length is) is js r ↔ HasOtherRouter is js r → (k : ℕ) → k < length (i ∷ is) → ((x : AreaIntraValue) → get (get_or (j ∷ js) k x).reached r ≢ get (get_or (i ∷ is) k x).reached r)
        → HasOtherRouter (i ∷ is) (j ∷ js) r
    here rest zero lt differs = inl (differs i)
    here rest (suc k) lt differs = inr (rest.0 (k, omega (arith, lt), differs))

    there : HasOtherAmong (length is) is js r ↔ HasOtherRouter is js r → HasOtherRouter (i ∷ is) (j ∷ js) r → HasOtherAmong (length (i ∷ is)) (i ∷ is) (j ∷ js) r
    there rest (inl differs) = (0, omega arith, λ x. differs)
    there rest (inr later) = let w = rest.1 later in let lt : w.0 < length is = w.1 in (suc w.0, omega (arith, lt), λ x. w.2 x)

-- ---- all of it

module _ (keys : List (Scope × Key)) (vertices : List (ℕ × Vertex)) (ids : List ℕ) (b v : InputsValue) (old new : IntraValue) (news : List AreaIntraValue) (prefixes : List Prefix) (dests : List Dest)
    (was : IsIntraOf b old) (differ : InputsDifferAmong keys vertices ids b v) (first : AreFirst (IsBroughtTo v.root keys vertices ids prefixes) v.areas old.areas news (length v.areas))
    (anew : AreEntriesChosenAnew v (record { areas = news; entries = old.entries; spent = old.spent }) new prefixes dests) where
  before : AreKeptBefore v.root keys vertices v.areas old.areas
  before = are_before v.root keys vertices b.areas v.areas old.areas (subst (λ (root : ℕ). AreAreaIntras root b.areas old.areas) (sym differ.root) was.areas) differ.areas

  areas_are : AreAreaIntras v.root v.areas news
  areas_are = intras_of v.root v.areas news (omega (arith, before.as_many, first.as_many)) (λ k a j lt.
      let is = first.each k a j j lt in
      one_area v.root keys vertices ids prefixes (get_or v.areas k a) (get_or old.areas k j) (with_index_of (get_or old.areas k j) (get_or news k j)) (get_or news k j) (before.each k a j lt) is.followed is.settled)

  entry_is : (p : Prefix) → IsEntryFor (OffersOf v p) (get new.entries p)
  entry_is p =
      let indexes = indexes_of v.root v.areas news areas_are in
      elim (listed_or_not network_total network_exact p prefixes) [
        | inl there ↦
            entry_same (IndexedOffers v (indexes_in news) v.areas p) (OffersOf v p) (indexed_is v (indexes_in news) indexes p) (get new.entries p) (anew.entries.here p there)
        | inr absent ↦
            let clean = clean_of vertices ids v.root p v.areas old.areas news (sym before.as_many) (omega (arith, before.as_many, first.as_many)) (λ k a i j lt.
            let is = first.each k a i j lt in
            one_clean v.root keys vertices ids prefixes (get_or v.areas k a) (get_or old.areas k i) (with_index_of (get_or old.areas k i) (get_or news k j)) (get_or news k j) (before.each k a i lt) is.followed is.settled p absent) in
            subst (IsEntryFor (OffersOf v p)) (sym (anew.entries.others p absent))
            (entry_kept keys vertices ids b v differ (indexes_in old.areas) (indexes_in news) (indexes_of b.root b.areas old.areas was.areas) indexes p clean (get old.entries p) (was.entries p))
      ]

  -- the routes belong to the inputs
  pub updated : IsIntraOf v new
  updated = record {
    fresh = anew.spent ∙ was.fresh;
    areas = subst (λ (kept : List AreaIntraValue). AreAreaIntras v.root v.areas kept) (sym anew.areas) areas_are;
    entries = entry_is;
  }

  module _ (routers : List ℕ) (named : (r : ℕ) → Contains routers r ↔ HasOtherAmong (length v.areas) old.areas news r) where
    -- just the routers of which something else is kept
    others : (r : ℕ) → Contains routers r ↔ HasOtherRouter old.areas new.areas r
    others r =
        let step = other_router old.areas news r first.as_many in
        let length_is : length v.areas ≡ length old.areas = before.as_many in (
          λ c.
              let w = (named r).0 c in
              let lt : w.0 < length v.areas = w.1 in
              subst (λ (is : List AreaIntraValue). HasOtherRouter old.areas is r) (sym anew.areas) (step.0 (w.0, omega (arith, lt, length_is), w.2)),
          λ h.
              let w = step.1 (subst (λ (is : List AreaIntraValue). HasOtherRouter old.areas is r) anew.areas h) in
              let lt : w.0 < length old.areas = w.1 in
              (named r).1 (w.0, omega (arith, lt, length_is), w.2),
        )

    named_so : (d : Dest) → Contains (map Net anew.entries.differing ++ map Router routers) d ↔ DiffersAt old new d → Contains (dests ++ map Router routers) d ↔ DiffersAt old new d
    named_so d is = subst (λ (ds : List Dest). Contains (ds ++ map Router routers) d ↔ DiffersAt old new d) (sym anew.entries.reported_as) is

    -- just the destinations are named whose result differs
    pub exactly : (d : Dest) → Contains (dests ++ map Router routers) d ↔ DiffersAt old new d
    exactly (Net p) = named_so (Net p) (
      λ c. (anew.entries.exact p).0 ((net_among anew.entries.differing routers p).0 c),
      λ differs. (net_among anew.entries.differing routers p).1 ((anew.entries.exact p).1 differs),
    )
    exactly (Router r) = named_so (Router r) (
      λ c. (others r).0 ((router_among anew.entries.differing routers r).0 c),
      λ differs. (router_among anew.entries.differing routers r).1 ((others r).1 differs),
    )

-- entries that are recomputed after other steps
pub anew_from : (v : InputsValue) (old mid new : IntraValue) (ps qs : List Prefix) (dests : List Dest) → ps ≡ qs → mid.entries ≡ old.entries → mid.spent ≡ old.spent → AreEntriesChosenAnew v mid new ps dests
    → AreEntriesChosenAnew v (record { areas = mid.areas; entries = old.entries; spent = old.spent }) new qs dests
anew_from v old mid new ps qs dests same entries spent anew =
    let start : ◌≡◌ {A = IntraValue} mid (record { areas = mid.areas; entries = old.entries; spent = old.spent }) = (λ i. record { areas = mid.areas; entries = entries i; spent = spent i }) in
    subst (λ (w : IntraValue). AreEntriesChosenAnew v w new qs dests) start (subst (λ (l : List Prefix). AreEntriesChosenAnew v mid new l dests) same anew)
