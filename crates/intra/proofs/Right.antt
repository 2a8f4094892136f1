-- Intra-area routes are as defined (RFC 2328, 16.1).
--   stub_in: a router has a stub link of the definitions just where it offers the prefix
--   leads_in: a transit network leads to the prefix just where it offers it and is reached
--   area_in: what an area offers is what the definitions say
--   offers_right: and so is what all areas offer
--   handed_right: what is kept of a router says what the definitions say of its flags
--   intra_right: the routes of the inputs are right for what the inputs speak of
use Rattle.std.proofs.Common.{◌≡◌, ℕ, ◌<◌, ◌≢◌, Bool, true, false, true≢false, ◌||◌, ◌==◌, nat_lt, cond, bit_and, List, [], ◌∷◌, Option, Some, None, refl, sym, ap, subst, ◌∙◌, ◌⊎◌, inl, inr, ⊎_elim, arith}
use Rattle.std.specs.Prelude.{◌↔◌, option_and_then}
use Rattle.std.specs.FinMap.{get}
use Rattle.std.specs.List.{Contains}
use Rattle.std.proofs.lemmas.Bool.Decides.{nat_tests}
use Rattle.ospf_types.specs.declared.config.Interface.{Interface}
use Rattle.ospf_types.specs.declared.entry.Vertex.TheVariants.{Router, Network}
use Rattle.ospf_types.specs.declared.hop.NextHop.{NextHop}
use Rattle.ospf_types.specs.declared.hop.Path.{Path}
use Rattle.ospf_types.specs.declared.prefix.Prefix.{Prefix}
use Rattle.ospf_types.specs.Inputs.{Inputs, Area}
use Rattle.ospf_types.specs.Intra.{AreaCost, IntraOffers, TransitOffers, StubOffers, OwnStubOffers, HasStub, LeadsToPrefix, ReachesWith, B, E}
use Rattle.ospf_types.specs.Lsa.{Body, RouterLink, RouterLinks, NetworkLinks, network_of}
use Rattle.ospf_types.proofs.Elements.{no_element, first_element, later_element, first_or_later}
use Rattle.lsa_codec.specs.Readers.{flags_of, links_of, prefix_in}
use Rattle.area_trees.specs.Areas.{IsStanding}
use Rattle.area_trees.proofs.Inside.{router_in, network_in, distance_in, hop_in}
use Rattle.area_trees.proofs.Standing.{some_router, some_network}
use Rattle.intra.specs.Inputs.{AreaValue, InputsValue, distance_at, hops_at}
use Rattle.intra.specs.Intras.{AreaIntraValue, IntraValue, IsIntraOf, AreAreaIntras}
use Rattle.intra.specs.Offers.{HasOffer, IsReachedFor, OffersTransit, OffersStub, OffersOwn, AreaOffers, OffersOf}
use Rattle.intra.specs.ReachedRouter.{ReachedValue, IsReachedOf, HandsOut, is_abr_or_asbr, reached_by}
use Rattle.intra.specs.Right.{IsInputOf, AreInputAreas, AreInputsOf, AreRoutersRight, IsRightFor}
use Rattle.intra.proofs.Frame.{entry_same}

-- ---- what a vertex offers

module _ (s : Inputs) (b : Area) (a : AreaValue) (is : IsInputOf s b s.router a) where
  -- a router has a stub link just where it offers the prefix
  pub stub_in : (r : ℕ) (p : Prefix) (metric : ℕ) → HasStub b r p metric ↔ HasOffer a.lsas (Router r) p metric
  stub_in r p metric = (
    λ has. (RouterLinks has.0 has.1, (router_in is.area r has.0 has.1).0 has.3, (has.2, has.4, has.5, has.6, has.7)),
    λ has.
        let w = some_router is.area.sound r has.0 has.1 in
        let stands = subst (λ (x : Body). IsStanding a.lsas (Router r) (Some x)) w.2 has.1 in
        let l = has.2 in
        (w.0, w.1, l.0, (router_in is.area r w.0 w.1).1 stands, subst (λ (x : Body). Contains (links_of x) l.0) w.2 l.1, l.2, l.3, l.4),
  )

  -- a transit network leads to the prefix just where it offers it and is reached
  pub leads_in : (id distance : ℕ) (p : Prefix) → LeadsToPrefix s b id distance p ↔ IsReachedFor (HasOffer a.lsas) a p id distance
  leads_in id distance p = (
    λ leads. (
      (NetworkLinks leads.0 leads.1, (network_in is.area id leads.0 leads.1).0 leads.2, (ap Some leads.3, refl)),
      (distance_in is.area is.tree (Network id) distance).0 leads.4,
    ),
    λ reached.
        let has = reached.0 in
        let w = some_network is.area.sound id has.0 has.1 in
        let stands = subst (λ (x : Body). IsStanding a.lsas (Network id) (Some x)) w.2 has.1 in
        let some = subst (λ (x : Body). prefix_in id x ≡ Some p) w.2 has.2.0 in
        let same : network_of id w.0 ≡ p = cc in
        (w.0, w.1, (network_in is.area id w.0 w.1).1 stands, same, (distance_in is.area is.tree (Network id) distance).1 reached.1),
  )

  -- ---- what an area offers

  transit_in : (p : Prefix) (cost : ℕ) (path : Path) → TransitOffers s b p cost path ↔ OffersTransit (HasOffer a.lsas) a p cost path
  transit_in p cost path = (
    λ offers.
        let stands = offers.2 in (
          offers.0,
          offers.1,
          record {
            reached = (leads_in offers.0 cost p).0 stands.leads;
            nearest = λ other d at. stands.nearest other d ((leads_in other d p).1 at);
            greatest = λ other at. stands.greatest other ((leads_in other cost p).1 at);
          },
          (hop_in is.area is.tree (Network offers.0) offers.1).0 offers.3,
          offers.4,
        ),
    λ offers.
        let near = offers.2 in (
          offers.0,
          offers.1,
          record {
            leads = (leads_in offers.0 cost p).1 near.reached;
            nearest = λ other d at. near.nearest other d ((leads_in other d p).0 at);
            greatest = λ other at. near.greatest other ((leads_in other cost p).0 at);
          },
          (hop_in is.area is.tree (Network offers.0) offers.1).1 offers.3,
          offers.4,
        ),
  )

  stubs_in : (root : ℕ) → root ≡ s.router → (p : Prefix) (cost : ℕ) (path : Path) → StubOffers s b p cost path ↔ OffersStub (HasOffer a.lsas) root a p cost path
  stubs_in root root_is p cost path = (
    λ offers. (
      offers.0,
      offers.1,
      offers.2,
      offers.3,
      λ e. offers.4 (e ∙ root_is),
      (stub_in offers.0 p offers.2).0 offers.5,
      (distance_in is.area is.tree (Router offers.0) offers.1).0 offers.6.0,
      (hop_in is.area is.tree (Router offers.0) offers.3).0 offers.6.1,
      offers.7,
      offers.8,
    ),
    λ offers. (
      offers.0,
      offers.1,
      offers.2,
      offers.3,
      λ e. offers.4 (e ∙ sym root_is),
      (stub_in offers.0 p offers.2).1 offers.5,
      ((distance_in is.area is.tree (Router offers.0) offers.1).1 offers.6, (hop_in is.area is.tree (Router offers.0) offers.3).1 offers.7),
      offers.8,
      offers.9,
    ),
  )

  own_in : (v : InputsValue) → v.root ≡ s.router → v.interfaces ≡ s.interfaces
      → (p : Prefix) (cost : ℕ) (path : Path) → OwnStubOffers s b p cost path ↔ OffersOwn (HasOffer a.lsas) v a p cost path
  own_in v root_is interfaces_are p cost path = (
    λ offers. (
      offers.0,
      offers.1,
      subst (λ (r : ℕ). HasOffer a.lsas (Router r) p cost) (sym root_is) ((stub_in s.router p cost).0 offers.2),
      subst (λ (list : List (ℕ × Interface)). Contains list (offers.0, offers.1)) (sym interfaces_are) offers.3.held,
      offers.3.here ∙ is.id,
      offers.3.up,
      offers.4,
      offers.5,
    ),
    λ offers. (
      offers.0,
      offers.1,
      (stub_in s.router p cost).1 (subst (λ (r : ℕ). HasOffer a.lsas (Router r) p cost) root_is offers.2),
      record {
        held = subst (λ (list : List (ℕ × Interface)). Contains list (offers.0, offers.1)) interfaces_are offers.3;
        here = offers.4 ∙ sym is.id;
        up = offers.5;
      },
      offers.6,
      offers.7,
    ),
  )

  -- what an area offers is what the definitions say
  pub area_in : (v : InputsValue) → v.root ≡ s.router → v.interfaces ≡ s.interfaces → (p : Prefix) (cost : ℕ) (path : Path)
      → (TransitOffers s b p cost path ⊎ StubOffers s b p cost path ⊎ OwnStubOffers s b p cost path) ↔ AreaOffers (HasOffer a.lsas) v a p cost path
  area_in v root_is interfaces_are p cost path = (
    λ offers. elim offers [
      | inl transit ↦ inl ((transit_in p cost path).0 transit)
      | inr (inl stub) ↦ inr (inl ((stubs_in v.root root_is p cost path).0 stub))
      | inr (inr own) ↦ inr (inr ((own_in v root_is interfaces_are p cost path).0 own))
    ],
    λ offers. elim offers [
      | inl transit ↦ inl ((transit_in p cost path).1 transit)
      | inr (inl stub) ↦ inr (inl ((stubs_in v.root root_is p cost path).1 stub))
      | inr (inr own) ↦ inr (inr ((own_in v root_is interfaces_are p cost path).1 own))
    ],
  )

-- ---- what all areas offer

-- each area of the definitions is one of the inputs
given_as : (s : Inputs) (bs : List Area) (areas : List AreaValue) → AreInputAreas s s.router bs areas → (b : Area) → Contains bs b → (a : AreaValue) × Contains areas a × IsInputOf s b s.router a
given_as s [] [] are b c = absurd (no_element b c)
given_as s (first ∷ bs) (a ∷ rest) are b c =
    ⊎_elim
    (λ (e : b ≡ first). (a, first_element a rest, subst (λ (x : Area). IsInputOf s x s.router a) (sym e) are.0))
    (λ (later : Contains bs b). let w = given_as s bs rest are.1 b later in (w.0, later_element a w.0 rest w.1, w.2))
    (first_or_later first b bs c)
given_as s [] (a ∷ rest) are b c = absurd are
given_as s (first ∷ bs) [] are b c = absurd are

-- and each area of the inputs is one of the definitions
given_from : (s : Inputs) (bs : List Area) (areas : List AreaValue) → AreInputAreas s s.router bs areas → (a : AreaValue) → Contains areas a → (b : Area) × Contains bs b × IsInputOf s b s.router a
given_from s [] [] are a c = absurd (no_element a c)
given_from s (b ∷ bs) (first ∷ rest) are a c =
    ⊎_elim
    (λ (e : a ≡ first). (b, first_element b bs, subst (λ (x : AreaValue). IsInputOf s b s.router x) (sym e) are.0))
    (λ (later : Contains rest a). let w = given_from s bs rest are.1 a later in (w.0, later_element b w.0 bs w.1, w.2))
    (first_or_later first a rest c)
given_from s [] (first ∷ rest) are a c = absurd are
given_from s (b ∷ bs) [] are a c = absurd are

-- what all areas offer is what the definitions say
pub offers_right : (s : Inputs) (v : InputsValue) → AreInputsOf s v → (p : Prefix) (key : AreaCost) (path : Path) → OffersOf v p key path ↔ IntraOffers s p key path
offers_right s v are p key path = (
  λ offers.
      let w = given_from s s.areas v.areas are.areas offers.0 offers.1 in
      (w.0, w.1, w.2.id ∙ sym offers.2.0, (area_in s w.0 offers.0 w.2 v are.router are.interfaces p key.0 path).1 offers.2.1),
  λ offers.
      let w = given_as s s.areas v.areas are.areas offers.0 offers.1 in
      (w.0, w.1, (sym offers.2 ∙ w.2.id, (area_in s offers.0 w.0 w.2 v are.router are.interfaces p key.0 path).0 offers.3)),
)

-- ---- routers

-- what is kept by two tests
handed_by : (same bit : Bool) (r : ReachedValue) (flag distance : ℕ) (h : NextHop) → HandsOut flag (cond same None (cond bit (Some r) None)) distance h
    → (same ≡ false) × (bit ≡ true) × HandsOut flag (Some r) distance h
handed_by true bit r flag distance h hands = absurd hands
handed_by false false r flag distance h hands = absurd hands
handed_by false true r flag distance h hands = (refl, refl, hands)

handed_to : (same bit : Bool) (r : ReachedValue) (flag distance : ℕ) (h : NextHop) → same ≡ false → bit ≡ true → HandsOut flag (Some r) distance h
    → HandsOut flag (cond same None (cond bit (Some r) None)) distance h
handed_to true bit r flag distance h other set hands = absurd (true≢false other)
handed_to false false r flag distance h other set hands = absurd (true≢false (sym set))
handed_to false true r flag distance h other set hands = hands

other_router : (router root : ℕ) → (router == root) ≡ false → router ≢ root
other_router router root e = grind (arith, nat_tests)

router_other : (router root : ℕ) → router ≢ root → (router == root) ≡ false
router_other router root other = grind (arith, nat_tests)

positive : (n : ℕ) → 0 < n → nat_lt 0 n ≡ true
positive n lt = grind (arith, nat_tests)

first_holds : (x y : Bool) → x ≡ true → (x || y) ≡ true
first_holds true y e = refl
first_holds false y e = absurd (true≢false (sym e))

second_holds : (x y : Bool) → y ≡ true → (x || y) ≡ true
second_holds true y e = refl
second_holds false y e = e

-- a router with bit B or bit E has one of the two
with_bit : (flags flag : ℕ) → (flag ≡ B) ⊎ (flag ≡ E) → 0 < bit_and flags flag → is_abr_or_asbr flags ≡ true
with_bit flags flag (inl e) lt = first_holds _ _ (positive (bit_and flags B) (subst (λ (n : ℕ). 0 < bit_and flags n) e lt))
with_bit flags flag (inr e) lt = second_holds _ _ (positive (bit_and flags E) (subst (λ (n : ℕ). 0 < bit_and flags n) e lt))

-- of whom something is returned, that is another router with the bit, and reached
hands_from : (root router flag : ℕ) (flags far : Option ℕ) (hops : List NextHop) (distance : ℕ) (h : NextHop) → HandsOut flag (reached_by root router flags far hops) distance h
    → (f : ℕ) × (flags ≡ Some f) × (0 < bit_and f flag) × (router ≢ root) × (far ≡ Some distance) × Contains hops h
hands_from root router flag (Some f) (Some d) hops distance h hands =
    let w = handed_by (router == root) (is_abr_or_asbr f) (record { flags = f; distance = d; hops = hops }) flag distance h hands in
    (f, refl, w.2.0, other_router router root w.0, ap Some w.2.1, w.2.2)
hands_from root router flag (Some f) None hops distance h hands = absurd hands
hands_from root router flag None far hops distance h hands = absurd hands

-- and of each such router it is
hands_to : (root router flag : ℕ) → (flag ≡ B) ⊎ (flag ≡ E) → (flags far : Option ℕ) (hops : List NextHop) (f distance : ℕ) (h : NextHop)
    → flags ≡ Some f → 0 < bit_and f flag → router ≢ root → far ≡ Some distance → Contains hops h → HandsOut flag (reached_by root router flags far hops) distance h
hands_to root router flag one flags far hops f distance h flags_are lt other far_is c =
    let here : HandsOut flag (reached_by root router (Some f) (Some distance) hops) distance h =
    handed_to (router == root) (is_abr_or_asbr f) (record { flags = f; distance = distance; hops = hops }) flag distance h (router_other router root other) (with_bit f flag one lt) (lt, refl, c) in
    subst (λ (o : Option ℕ). HandsOut flag (reached_by root router o far hops) distance h) (sym flags_are)
    (subst (λ (o : Option ℕ). HandsOut flag (reached_by root router (Some f) o hops) distance h) (sym far_is) here)

-- only a router-LSA has flags
flagged : (body : Option Body) (f : ℕ) → option_and_then flags_of body ≡ Some f → (links : List RouterLink) × (body ≡ Some (RouterLinks f links))
flagged (Some (RouterLinks flags links)) f e = (links, let same : flags ≡ f = cc in ap (λ (n : ℕ). Some (RouterLinks n links)) same)
flagged (Some b) f e = absurd cc
flagged None f e = absurd cc

-- what is kept of a router says what the definitions say of its flags
pub handed_right : (s : Inputs) (b : Area) (a : AreaValue) → IsInputOf s b s.router a → (router : ℕ) (value : Option ReachedValue) → IsReachedOf s.router a router value
    → (flag distance : ℕ) (h : NextHop) → (flag ≡ B) ⊎ (flag ≡ E) → ReachesWith flag s b router distance h ↔ HandsOut flag value distance h
handed_right s b a is router value kept flag distance h one = (
  λ reaches.
      let w = reaches.flagged in
      let body = kept.1 ∙ sym ((router_in is.area router w.0 w.1).0 w.2) in
      subst (λ (o : Option ReachedValue). HandsOut flag o distance h) (sym kept.2)
      (hands_to s.router router flag one (option_and_then flags_of kept.0) (distance_at a (Router router)) (hops_at a (Router router)) w.0 distance h
      (ap (option_and_then flags_of) body) w.3 reaches.other
      ((distance_in is.area is.tree (Router router) distance).0 reaches.reached.0)
      ((hop_in is.area is.tree (Router router) h).0 reaches.reached.1)),
  λ hands.
      let w = hands_from s.router router flag (option_and_then flags_of kept.0) (distance_at a (Router router)) (hops_at a (Router router)) distance h (subst (λ (o : Option ReachedValue). HandsOut flag o distance h) kept.2 hands) in
      let body = flagged kept.0 w.0 w.1 in
      record {
        reached = ((distance_in is.area is.tree (Router router) distance).1 w.4, (hop_in is.area is.tree (Router router) h).1 w.5);
        other = w.3;
        flagged = (w.0, body.0, (router_in is.area router w.0 body.0).1 (sym body.1 ∙ kept.1), w.2);
      },
)

routers_right : (s : Inputs) (bs : List Area) (areas : List AreaValue) (kept : List AreaIntraValue) → AreInputAreas s s.router bs areas → AreAreaIntras s.router areas kept → AreRoutersRight s bs kept
routers_right s [] [] [] given are = tt
routers_right s (b ∷ bs) (a ∷ rest) (i ∷ is) given are = (
  given.0.id ∙ sym are.0.id,
  λ flag router distance h one. handed_right s b a given.0 router (get i.reached router) (are.0.reached router) flag distance h one,
  routers_right s bs rest is given.1 are.1,
)
routers_right s [] [] (i ∷ is) given are = absurd are
routers_right s (b ∷ bs) (a ∷ rest) [] given are = absurd are
routers_right s [] (a ∷ rest) kept given are = absurd given
routers_right s (b ∷ bs) [] kept given are = absurd given

-- the routes of the inputs are right for what the inputs speak of
pub intra_right : (s : Inputs) (v : InputsValue) (w : IntraValue) → AreInputsOf s v → IsIntraOf v w → IsRightFor s w
intra_right s v w are is = record {
  entries = λ p. entry_same (OffersOf v p) (IntraOffers s p) (λ key path. offers_right s v are p key path) (get w.entries p) (is.entries p);
  routers = routers_right s s.areas v.areas w.areas are.areas (subst (λ (r : ℕ). AreAreaIntras r v.areas w.areas) are.router is.areas);
}
