-- Inter-area routes are as defined (RFC 2328, 16.2).
--   reached_right: what is kept of a router of an area says what the definitions say of its flags
--   network_offered, router_offered: what summaries offer is what the definitions say
--   inter_right: the routes of the inputs are right for what the inputs speak of
use Rattle.std.proofs.Common.{◌≡◌, ◌≢◌, ℕ, suc, ◌+◌, ◌<◌, Bool, true, false, true≢false, ◌||◌, ◌==◌, cond, List, [], ◌∷◌, length, Option, Some, None, refl, sym, ap, subst, ◌∙◌, ◌⊎◌, inl, inr, arith}
use Rattle.std.specs.Prelude.{◌↔◌, IsSome, nat_le}
use Rattle.std.specs.FinMap.{get}
use Rattle.std.specs.List.{Contains, AllPairs}
use Rattle.std.proofs.lemmas.Bool.{eqb-false, eq-eqb, ne_eqb, leb-false, lt-leb}
use Rattle.ospf_types.specs.declared.entry.Entry.{Entry}
use Rattle.ospf_types.specs.declared.hop.NextHop.{NextHop}
use Rattle.ospf_types.specs.declared.hop.Path.{Path}
use Rattle.ospf_types.specs.declared.key.Dest.{Dest}
use Rattle.ospf_types.specs.declared.key.Dest.TheVariants.{Net, Router}
use Rattle.ospf_types.specs.declared.key.Key.{Key}
use Rattle.ospf_types.specs.declared.key.Scope.TheVariants as scope
use Rattle.ospf_types.specs.declared.prefix.Prefix.{Prefix}
use Rattle.ospf_types.specs.Inputs.{Inputs, Area}
use Rattle.ospf_types.specs.Inter.{InterOffers, IsUsableSummary, LSInfinity, through}
use Rattle.ospf_types.specs.Boundary.{BoundaryInterOffers}
use Rattle.ospf_types.specs.Intra.{IntraOffers, NoIntra, ReachesWith, B, E}
use Rattle.ospf_types.specs.Lsa.{Lsa, Body, Tos, RouterLinks, NetworkLinks, NetworkSummary, BoundarySummary, AsExternal, IsUsable, key_of, network_of}
use Rattle.ospf_types.proofs.Examined.{examined_once}
use Rattle.ospf_types.proofs.Elements.{no_element, first_or_later}
use Rattle.lsdb.specs.Contents.{body_at}
use Rattle.area_trees.proofs.Held.{under_key, among_values, held_by, used_of}
use Rattle.intra.specs.Intras.{AreaIntraValue, reached_at, IsEntryFor as IsIntraEntry}
use Rattle.intra.specs.ReachedRouter.{ReachedValue, HandsOut}
use Rattle.intra.specs.Right.{AreRoutersRight}
use Rattle.advertised_index.specs.AdvertisedRoute.{AdvertisedValue, advertised_at, plain, unless_useless}
use Rattle.inter.specs.Inputs.{ExaminedValue, InterInputsValue}
use Rattle.inter.specs.Inters.{InterValue, IsEntryIn, IsInterOf, IsEntryFor}
use Rattle.inter.specs.Offers.{OffersOf}
use Rattle.inter.specs.Right.{IsExaminedArea, IsExaminedFor, AreInputsOf, IsEntryOf, IsRightFor}
use Rattle.inter.proofs.Frame.{entry_same}

-- ---- areas

abbrev AreApart : List Area → Type 0
AreApart areas = AllPairs (λ (a b : Area). a.id ≢ b.id) areas

apart_rest : (a : Area) (areas : List Area) → AreApart (a ∷ areas) → AreApart areas
apart_rest a areas apart i j d lt within = apart (suc i) (suc j) d (omega (arith, lt)) (omega (arith, within))

apart_first : (a : Area) (areas : List Area) → AreApart (a ∷ areas) → (b : Area) → Contains areas b → a.id ≢ b.id
apart_first a areas apart b c same =
    let k : ℕ = c.0 in
    let within : k < length areas = c.1 in
    apart 0 (suc k) b (omega arith) (omega (arith, within)) (same ∙ ap (λ (x : Area). x.id) (sym c.2))

-- two areas with one Area ID are one
one_area : (areas : List Area) → AreApart areas → (a b : Area) → Contains areas a → Contains areas b → a.id ≡ b.id → a ≡ b
one_area [] apart a b here there same = absurd (no_element a here)
one_area (c ∷ cs) apart a b here there same = elim (first_or_later c a cs here) [
  | inl one ↦ elim (first_or_later c b cs there) [
    | inl other ↦ one ∙ sym other
    | inr later ↦ absurd (apart_first c cs apart b later (ap (λ (x : Area). x.id) (sym one) ∙ same))
  ]
  | inr late ↦ elim (first_or_later c b cs there) [
    | inl other ↦ absurd (apart_first c cs apart a late (ap (λ (x : Area). x.id) (sym other) ∙ sym same))
    | inr later ↦ one_area cs (apart_rest c cs apart) a b late later same
  ]
]

-- what is kept of a router of an area says what the definitions say of its flags
pub reached_right : (s : Inputs) (bs : List Area) (is : List AreaIntraValue) → AreRoutersRight s bs is → AreApart bs → (b : Area) → Contains bs b
    → (flag router distance : ℕ) (h : NextHop) → (flag ≡ B) ⊎ (flag ≡ E) → ReachesWith flag s b router distance h ↔ HandsOut flag (reached_at is b.id router) distance h
reached_right s [] [] are apart b here flag router distance h one = absurd (no_element b here)
reached_right s (c ∷ cs) [] are apart b here flag router distance h one = absurd are
reached_right s [] (i ∷ is) are apart b here flag router distance h one = absurd are
reached_right s (c ∷ cs) (i ∷ is) are apart b here flag router distance h one = elim (first_or_later c b cs here) [
  | inl first ↦
      let at : reached_at (i ∷ is) b.id router ≡ get i.reached router =
      ap (λ t. cond t (get i.reached router) (reached_at is b.id router)) (eq-eqb i.id b.id (sym are.0 ∙ ap (λ (x : Area). x.id) (sym first))) in
      subst (λ (o : Option ReachedValue). ReachesWith flag s b router distance h ↔ HandsOut flag o distance h) (sym at)
      (subst (λ (x : Area). ReachesWith flag s x router distance h ↔ HandsOut flag (get i.reached router) distance h) (sym first) (are.1 flag router distance h one))
  | inr later ↦
      let at : reached_at (i ∷ is) b.id router ≡ reached_at is b.id router =
      ap (λ t. cond t (get i.reached router) (reached_at is b.id router)) (ne_eqb i.id b.id (λ e. apart_first c cs apart b later (are.0 ∙ e))) in
      subst (λ (o : Option ReachedValue). ReachesWith flag s b router distance h ↔ HandsOut flag o distance h) (sym at)
      (reached_right s cs is are.2 (apart_rest c cs apart) b later flag router distance h one)
]

-- ---- what a summary says

passed : (own far : Bool) (a b : AdvertisedValue) → cond (own || far) None (Some a) ≡ Some b → (own ≡ false) × (far ≡ false) × (a ≡ b)
passed true far a b e = absurd cc
passed false true a b e = absurd cc
passed false false a b e = (refl, refl, (let same : Some a ≡ Some b = e in cc))

-- what is advertised is another router's, and below LSInfinity
useful : (root : ℕ) (k : Key) (metric : ℕ) (a b : AdvertisedValue) → unless_useless root k metric a ≡ Some b → (k.router ≢ root) × (metric < LSInfinity) × (a ≡ b)
useful root k metric a b e =
    let p = passed (k.router == root) (nat_le LSInfinity metric) a b e in
    (eqb-false k.router root p.0, leb-false LSInfinity metric p.1, p.2)

not_useless : (root : ℕ) (k : Key) (metric : ℕ) (a : AdvertisedValue) → k.router ≢ root → metric < LSInfinity → unless_useless root k metric a ≡ Some a
not_useless root k metric a other lt =
    (λ i. cond (ne_eqb k.router root other i || nat_le LSInfinity metric) None (Some a)) ∙ (λ i. cond (false || lt-leb LSInfinity metric lt i) None (Some a))

-- a summary for the network
record SaysNetwork (root : ℕ) (k : Key) (body : Option Body) (p : Prefix) (said : ℕ) : Type 0 where
  mask : ℕ
  metric : ℕ
  tos : List Tos
  summary : body ≡ Some (NetworkSummary mask metric tos)
  network : network_of k.id mask ≡ p
  same : said ≡ metric
  finite : metric < LSInfinity
  foreign : k.router ≢ root

-- a summary for the router
record SaysRouter (root : ℕ) (k : Key) (body : Option Body) (router said : ℕ) : Type 0 where
  metric : ℕ
  tos : List Tos
  summary : body ≡ Some (BoundarySummary metric tos)
  here : k.id ≡ router
  other : router ≢ root
  same : said ≡ metric
  finite : metric < LSInfinity
  foreign : k.router ≢ root

unless_itself : (same : Bool) (o : Option AdvertisedValue) (a : AdvertisedValue) → cond same None o ≡ Some a → (same ≡ false) × (o ≡ Some a)
unless_itself true o a e = absurd cc
unless_itself false o a e = (refl, e)

network_said : (root area : ℕ) (k : Key) (body : Option Body) (a : AdvertisedValue) (p : Prefix) → advertised_at root (scope.Area area) k body ≡ Some a → a.dest ≡ Net p → SaysNetwork root k body p a.metric
network_said root area k None a p e to = absurd cc
network_said root area k (Some (RouterLinks flags links)) a p e to = absurd cc
network_said root area k (Some (NetworkLinks mask routers)) a p e to = absurd cc
network_said root area k (Some (NetworkSummary mask metric tos)) a p e to =
    let u = useful root k metric (plain (Net (network_of k.id mask)) metric) a e in
    let net : Net (network_of k.id mask) ≡ Net p = ap (λ (x : AdvertisedValue). x.dest) u.2 ∙ to in
    record {
      mask = mask;
      metric = metric;
      tos = tos;
      summary = refl;
      network = cc;
      same = sym (ap (λ (x : AdvertisedValue). x.metric) u.2);
      finite = u.1;
      foreign = u.0;
    }
network_said root area k (Some (BoundarySummary metric tos)) a p e to =
    let u = useful root k metric (plain (Router k.id) metric) a (unless_itself (k.id == root) _ a e).1 in
    let wrong : Router k.id ≡ Net p = ap (λ (x : AdvertisedValue). x.dest) u.2 ∙ to in
    absurd cc
network_said root area k (Some (AsExternal mask first more)) a p e to = absurd cc

router_said : (root area : ℕ) (k : Key) (body : Option Body) (a : AdvertisedValue) (router : ℕ) → advertised_at root (scope.Area area) k body ≡ Some a → a.dest ≡ Router router → SaysRouter root k body router a.metric
router_said root area k None a router e to = absurd cc
router_said root area k (Some (RouterLinks flags links)) a router e to = absurd cc
router_said root area k (Some (NetworkLinks mask routers)) a router e to = absurd cc
router_said root area k (Some (NetworkSummary mask metric tos)) a router e to =
    let u = useful root k metric (plain (Net (network_of k.id mask)) metric) a e in
    let wrong : Net (network_of k.id mask) ≡ Router router = ap (λ (x : AdvertisedValue). x.dest) u.2 ∙ to in
    absurd cc
router_said root area k (Some (BoundarySummary metric tos)) a router e to =
    let w = unless_itself (k.id == root) _ a e in
    let u = useful root k metric (plain (Router k.id) metric) a w.1 in
    let there : Router k.id ≡ Router router = ap (λ (x : AdvertisedValue). x.dest) u.2 ∙ to in
    let here : k.id ≡ router = cc in
    record {
      metric = metric;
      tos = tos;
      summary = refl;
      here = here;
      other = λ itself. eqb-false k.id root w.0 (here ∙ itself);
      same = sym (ap (λ (x : AdvertisedValue). x.metric) u.2);
      finite = u.1;
      foreign = u.0;
    }
router_said root area k (Some (AsExternal mask first more)) a router e to = absurd cc

-- ---- what summaries offer

-- where an entry is not there, nothing is offered
none_inside : (s : Inputs) (p : Prefix) (e : Option Entry) → IsIntraEntry (IntraOffers s p) e → (IsSome e → ⊥) → NoIntra s p
none_inside s p None is none = is
none_inside s p (Some e) is none = absurd (none refl)

some_inside : (s : Inputs) (p : Prefix) (e : Option Entry) → IsIntraEntry (IntraOffers s p) e → IsSome e → NoIntra s p → ⊥
some_inside s p None is some none = true≢false (sym some)
some_inside s p (Some e) is some none = none is.0 is.1.stands.0 is.1.stands.1

module _ (s : Inputs) (v : InterInputsValue) (are : AreInputsOf s v) (y : ExaminedValue) (a : Area) (ex : IsExaminedArea s a y) where
  reached : (flag router distance : ℕ) (h : NextHop) → (flag ≡ B) ⊎ (flag ≡ E) → ReachesWith flag s a router distance h ↔ HandsOut flag (reached_at v.intra.areas y.area router) distance h
  reached flag router distance h one =
      subst (λ (id : ℕ). ReachesWith flag s a router distance h ↔ HandsOut flag (reached_at v.intra.areas id router) distance h) ex.id
      (reached_right s s.areas v.intra.areas are.intra.routers are.apart a ex.examined.area flag router distance h one)

  -- the LSA under a key that says something may be used
  usable : (k : Key) (l : Lsa) (metric cost distance : ℕ) (h : NextHop) → get y.lsas k ≡ Some l → IsUsable l → metric < LSInfinity → k.router ≢ v.root
      → HandsOut B (reached_at v.intra.areas y.area k.router) distance h → cost ≡ distance + metric → IsUsableSummary s a l metric cost h
  usable k l metric cost distance h there young finite foreign hands sum =
      let router : k.router ≡ l.header.router = ap (λ (x : Key). x.router) (ex.sound.under_own_key k l there) in
      record {
        examined = ex.examined;
        held = record { held = subst (λ (ls : List Lsa). Contains ls l) (sym ex.lsas) (among_values y.lsas k l there); usable = young };
        finite = finite;
        foreign = λ own. foreign (router ∙ own ∙ sym are.router);
        border = (distance, subst (λ (r : ℕ). ReachesWith B s a r distance h) router ((reached B k.router distance h (inl refl)).1 hands), sum);
      }

  -- and one that may be used is used, in this area
  found : (b : Area) (l : Lsa) (metric cost : ℕ) (h : NextHop) → IsUsableSummary s b l metric cost h → (b ≡ a) × (get y.lsas (key_of l) ≡ Some l) × (body_at y.lsas (key_of l) ≡ Some l.body)
  found b l metric cost h may =
      let same = one_area s.areas are.apart b a may.examined.area ex.examined.area (examined_once s b a may.examined ex.examined) in
      let held = subst (λ (ls : List Lsa). Contains ls l) (ap (λ (x : Area). x.lsas) same ∙ ex.lsas) may.held.held in
      let w = under_key y.lsas l held in
      let there : get y.lsas (key_of l) ≡ Some l = subst (λ (k : Key). get y.lsas k ≡ Some l) (ex.sound.under_own_key w.0 l w.1) w.1 in
      (same, there, used_of y.lsas (key_of l) l there may.held.usable)

  -- its border router passes on what it offers
  handed : (b : Area) (l : Lsa) (metric cost : ℕ) (h : NextHop) (may : IsUsableSummary s b l metric cost h) → b ≡ a → HandsOut B (reached_at v.intra.areas y.area l.header.router) may.border.0 h
  handed b l metric cost h may same =
      (reached B l.header.router may.border.0 h (inl refl)).0 (subst (λ (x : Area). ReachesWith B s x l.header.router may.border.0 h) same may.border.1)

  -- what summaries offer to a network is what the definitions say
  pub network_offered : (p : Prefix) (cost : ℕ) (path : Path) → OffersOf v y (Net p) cost path ↔ InterOffers s p cost path
  network_offered p cost path = (
    λ o.
        let k = o.0 in
        let said = network_said v.root y.area k (body_at y.lsas k) o.1 p o.2 o.3 in
        let held = held_by y.lsas k (NetworkSummary said.mask said.metric said.tos) said.summary in
        let own = ex.sound.under_own_key k held.0 held.1 in
        let h = o.5 in (
          a,
          held.0,
          said.mask,
          said.metric,
          said.tos,
          h.1,
          held.3,
          ap (λ (x : Key). network_of x.id said.mask) (sym own) ∙ said.network,
          usable k held.0 said.metric cost h.0 h.1 held.1 held.2 said.finite said.foreign h.2 (h.3 ∙ ap (λ (n : ℕ). h.0 + n) said.same),
          λ active. o.4 (inr ((are.ranges p).1 active)),
          none_inside s p (get v.intra.entries p) (are.intra.entries p) (λ some. o.4 (inl some)),
          h.4 ∙ ap (λ (x : Key). through x.router h.1) own,
        ),
    λ o.
        let l = o.1 in
        let may = o.8 in
        let at = found o.0 l o.3 cost o.5 may in
        let foreign : (key_of l).router ≢ v.root = λ e. may.foreign (e ∙ are.router) in
        let says : advertised_at v.root (scope.Area y.area) (key_of l) (body_at y.lsas (key_of l)) ≡ Some (plain (Net (network_of l.header.id o.2)) o.3) =
        ap (advertised_at v.root (scope.Area y.area) (key_of l)) (at.2 ∙ ap Some o.6) ∙ not_useless v.root (key_of l) o.3 (plain (Net (network_of l.header.id o.2)) o.3) foreign may.finite in (
          key_of l,
          plain (Net (network_of l.header.id o.2)) o.3,
          says,
          ap Net o.7,
          λ taken. elim taken [ inl some ↦ some_inside s p (get v.intra.entries p) (are.intra.entries p) some o.10 | inr active ↦ o.9 ((are.ranges p).0 active) ],
          (may.border.0, o.5, handed o.0 l o.3 cost o.5 may at.0, may.border.2, o.11),
        ),
  )

  -- and to a router
  pub router_offered : (r cost : ℕ) (path : Path) → OffersOf v y (Router r) cost path ↔ BoundaryInterOffers s r cost path
  router_offered r cost path = (
    λ o.
        let k = o.0 in
        let said = router_said v.root y.area k (body_at y.lsas k) o.1 r o.2 o.3 in
        let held = held_by y.lsas k (BoundarySummary said.metric said.tos) said.summary in
        let own = ex.sound.under_own_key k held.0 held.1 in
        let h = o.5 in (
          a.id,
          (
            a,
            held.0,
            said.metric,
            said.tos,
            h.1,
            refl,
            held.3,
            ap (λ (x : Key). x.id) (sym own) ∙ said.here,
            λ itself. said.other (itself ∙ sym are.router),
            usable k held.0 said.metric cost h.0 h.1 held.1 held.2 said.finite said.foreign h.2 (h.3 ∙ ap (λ (n : ℕ). h.0 + n) said.same),
            λ distance other reaches. o.4 (distance, other, (reached E r distance other (inr refl)).0 reaches),
            h.4 ∙ ap (λ (x : Key). through x.router h.1) own,
          ),
        ),
    λ w.
        let o = w.1 in
        let l = o.1 in
        let may = o.9 in
        let at = found o.0 l o.2 cost o.4 may in
        let foreign : (key_of l).router ≢ v.root = λ e. may.foreign (e ∙ are.router) in
        let itself : (l.header.id == v.root) ≡ false = ne_eqb l.header.id v.root (λ e. o.8 (sym o.7 ∙ e ∙ are.router)) in
        let says : advertised_at v.root (scope.Area y.area) (key_of l) (body_at y.lsas (key_of l)) ≡ Some (plain (Router l.header.id) o.2) =
        ap (advertised_at v.root (scope.Area y.area) (key_of l)) (at.2 ∙ ap Some o.6)
        ∙ ap (λ t. cond t None (unless_useless v.root (key_of l) o.2 (plain (Router l.header.id) o.2))) itself
        ∙ not_useless v.root (key_of l) o.2 (plain (Router l.header.id) o.2) foreign may.finite in (
          key_of l,
          plain (Router l.header.id) o.2,
          says,
          ap Router o.7,
          λ taken. o.10 taken.0 taken.1 (subst (λ (x : Area). ReachesWith E s x r taken.0 taken.1) (sym at.0) ((reached E r taken.0 taken.1 (inr refl)).1 taken.2)),
          (may.border.0, o.4, handed o.0 l o.2 cost o.4 may at.0, may.border.2, o.11),
        ),
  )

-- ---- the routes

module _ (s : Inputs) (v : InterInputsValue) (are : AreInputsOf s v) where
  entry_right : (d : Dest) (offers : ℕ → Path → Type 0) → ((y : ExaminedValue) (a : Area) → IsExaminedArea s a y → (cost : ℕ) (path : Path) → OffersOf v y d cost path ↔ offers cost path)
      → (x : Option ExaminedValue) → IsExaminedFor s x → (e : Option Entry) → IsEntryIn v x d e → IsEntryOf s offers e
  entry_right d offers same None none e is = inr (none, is)
  entry_right d offers same (Some y) one e is =
      inl (one.0, one.1.examined, subst (λ (id : ℕ). IsEntryFor id offers e) (sym one.1.id) (entry_same y.area (OffersOf v y d) offers (same y one.0 one.1) e is))

  -- the routes of the inputs are right for what the inputs speak of
  pub inter_right : (w : InterValue) → IsInterOf v w → IsRightFor s w
  inter_right w is = record {
    networks = λ p. entry_right (Net p) (InterOffers s p) (λ y a ex. network_offered s v are y a ex p) v.examined are.examined (get w.entries (Net p)) (is.entries (Net p));
    routers = λ r. entry_right (Router r) (BoundaryInterOffers s r) (λ y a ex. router_offered s v are y a ex r) v.examined are.examined (get w.entries (Router r)) (is.entries (Router r));
  }
