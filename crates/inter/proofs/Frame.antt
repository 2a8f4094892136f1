-- The entry of a destination that does not have to be recomputed, and routes that followed all that
-- may differ.
--   entry_same: an entry for the offers is one for the same offers
--   entry_listed, entry_advertised: what is offered by the index is what the LSAs offer
--   entry_stays: where nothing differs of what is offered to a destination, its entry stays
--   all_stand: destinations that are not named have the entry that they have to have
--   updated: routes of which each entry is chosen belong to the inputs
--   blank_is, blank_differs: routes where no area is examined
use Rattle.std.proofs.Common.{◌≡◌, ℕ, false, List, Option, Some, None, refl, sym, subst, ◌∙◌, ◌⊎◌, inl, inr}
use Rattle.std.specs.Prelude.{◌↔◌, IsSome}
use Rattle.std.specs.FinMap.{get, empty, get-empty}
use Rattle.std.specs.List.{Contains}
use Rattle.std.specs.Ordering.{nat_cmp}
use Rattle.ospf_types.specs.declared.entry.Entry.{Entry}
use Rattle.ospf_types.specs.declared.hop.Path.{Path}
use Rattle.ospf_types.specs.declared.key.Dest.{Dest}
use Rattle.ospf_types.specs.declared.key.Dest.TheVariants.{Net, Router}
use Rattle.ospf_types.specs.declared.key.Key.{Key}
use Rattle.ospf_types.specs.declared.key.Scope.{Scope}
use Rattle.ospf_types.specs.Intra.{B, E}
use Rattle.ospf_types.specs.Keys.{dest_cmp}
use Rattle.intra.specs.Intras.{reached_at}
use Rattle.intra.specs.ReachedRouter.{ReachedValue, HandsOut}
use Rattle.intra.proofs.Frame.{best_same}
use Rattle.advertised_index.specs.AdvertisedRoute.{AdvertisedValue}
use Rattle.advertised_index.specs.Indexes.{OfferIndexValue, HasDest}
use Rattle.inter.specs.Changes.{InputsDifferAmong}
use Rattle.inter.specs.Choosing.{IsListed, IsChosenWhere, IsChosenFor}
use Rattle.inter.specs.Following.{area_of, IsFollowed}
use Rattle.inter.specs.Inputs.{ExaminedValue, InterInputsValue, examined_area}
use Rattle.inter.specs.Inters.{InterValue, IsEntryFor, IsEntryIn, IsIndexFor, IsInterOf}
use Rattle.inter.specs.Offers.{IsTakenBelow, OffersBy, OffersOf}

-- ---- the entry of the same offers

pub entry_same : (area : ℕ) (one other : ℕ → Path → Type 0) → ((cost : ℕ) (path : Path) → one cost path ↔ other cost path) → (e : Option Entry) → IsEntryFor area one e → IsEntryFor area other e
entry_same area one other same None none = λ cost path offered. none cost path ((same cost path).1 offered)
entry_same area one other same (Some e) is = (is.0, best_same one other same nat_cmp is.0 e.paths is.1, is.2, is.3)

-- ---- by the index, and by the LSAs

module _ (v : InterInputsValue) (i : OfferIndexValue) (d : Dest) where
  same_offers : (x : ExaminedValue) → IsIndexFor v.root (Some x) i → (cost : ℕ) (path : Path) → OffersBy v x.area (IsListed i) d cost path ↔ OffersOf v x d cost path
  same_offers x index cost path = (
    λ h. (h.0, h.1, sym (index h.0) ∙ h.2, h.3, h.4, h.5),
    λ h. (h.0, h.1, index h.0 ∙ h.2, h.3, h.4, h.5),
  )

  -- an entry by the index is one by the LSAs
  pub entry_listed : (x : Option ExaminedValue) → IsIndexFor v.root x i → (e : Option Entry) → IsChosenWhere v (area_of x) i d e → IsEntryIn v x d e
  entry_listed None index e chosen = chosen
  entry_listed (Some x) index e chosen = entry_same x.area (OffersBy v x.area (IsListed i) d) (OffersOf v x d) (same_offers x index) e chosen

  -- and the other way round
  pub entry_advertised : (x : Option ExaminedValue) → IsIndexFor v.root x i → (e : Option Entry) → IsEntryIn v x d e → IsChosenWhere v (area_of x) i d e
  entry_advertised None index e is = is
  entry_advertised (Some x) index e is =
      entry_same x.area (OffersOf v x d) (OffersBy v x.area (IsListed i) d) (λ cost path. let both = same_offers x index cost path in (both.1, both.0)) e is

-- ---- where nothing differs

-- of what is offered to the destination nothing differs
record IsAlike (v w : InterInputsValue) (before after : Option ℕ) (i j : OfferIndexValue) (d : Dest) : Type 0 where
  routes : (k : Key) → HasDest (get i.routes k) d ⊎ HasDest (get j.routes k) d → (after ≡ before) × (get j.routes k ≡ get i.routes k)
  taken : (k : Key) (a : AdvertisedValue) → get j.routes k ≡ Some a → a.dest ≡ d → (area : ℕ) → IsTakenBelow w area d ↔ IsTakenBelow v area d
  borders : (k : Key) (a : AdvertisedValue) → get j.routes k ≡ Some a → a.dest ≡ d → (area : ℕ) → reached_at w.intra.areas area k.router ≡ reached_at v.intra.areas area k.router

-- the other way round
alike_back : (v w : InterInputsValue) (before after : Option ℕ) (i j : OfferIndexValue) (d : Dest) → IsAlike v w before after i j d → IsAlike w v after before j i d
alike_back v w before after i j d alike = record {
  routes = λ k has. let same = alike.routes k (elim has [ inl there ↦ inr there | inr here ↦ inl here ]) in (sym same.0, sym same.1);
  taken = λ k a listed dest area. let both = alike.taken k a ((alike.routes k (inl (a, listed, dest))).1 ∙ listed) dest area in (both.1, both.0);
  borders = λ k a listed dest area. sym (alike.borders k a ((alike.routes k (inl (a, listed, dest))).1 ∙ listed) dest area);
}

-- what was offered is offered through the same area
offers_after : (v w : InterInputsValue) (area : ℕ) (after : Option ℕ) (i j : OfferIndexValue) (d : Dest) → IsAlike v w (Some area) after i j d
    → (cost : ℕ) (path : Path) → OffersBy v area (IsListed i) d cost path → (after ≡ Some area) × OffersBy w area (IsListed j) d cost path
offers_after v w area after i j d alike cost path h =
    let same = alike.routes h.0 (inl (h.1, h.2, h.3)) in
    let listed : get j.routes h.0 ≡ Some h.1 = same.1 ∙ h.2 in
    let o = h.5 in
    let border = sym (alike.borders h.0 h.1 listed h.3 area) in
    (same.0, (h.0, h.1, listed, h.3, λ taken. h.4 ((alike.taken h.0 h.1 listed h.3 area).0 taken), (o.0, o.1, subst (λ (r : Option ReachedValue). HandsOut B r o.0 o.1) border o.2, o.3, o.4)))

-- the entry stays
stays : (v w : InterInputsValue) (before after : Option ℕ) (i j : OfferIndexValue) (d : Dest) → IsAlike v w before after i j d → (e : Option Entry) → IsChosenWhere v before i d e → IsChosenWhere w after j d e
stays v w None None i j d alike e chosen = chosen
stays v w None (Some b) i j d alike e chosen =
    subst (IsEntryFor b (OffersBy w b (IsListed j) d)) (sym chosen)
    (λ cost path h. let wrong = (offers_after w v b None j i d (alike_back v w None (Some b) i j d alike) cost path h).0 in absurd cc)
stays v w (Some a) None i j d alike None chosen = refl
stays v w (Some a) None i j d alike (Some e) chosen =
    let stands = chosen.1.stands in
    let wrong = (offers_after v w a None i j d alike chosen.0 stands.0 stands.1).0 in
    absurd cc
stays v w (Some a) (Some b) i j d alike None chosen =
    λ cost path h.
    let back = offers_after w v b (Some a) j i d (alike_back v w (Some a) (Some b) i j d alike) cost path h in
    let same : b ≡ a = (let e = back.0 in cc) in
    chosen cost path (subst (λ (n : ℕ). OffersBy v n (IsListed i) d cost path) same back.1)
stays v w (Some a) (Some b) i j d alike (Some e) chosen =
    let stands = chosen.1.stands in
    let there = (offers_after v w a (Some b) i j d alike chosen.0 stands.0 stands.1).0 in
    let same : a ≡ b = cc in
    subst (λ (n : ℕ). IsEntryFor n (OffersBy w n (IsListed j) d) (Some e)) same
    (entry_same a (OffersBy v a (IsListed i) d) (OffersBy w a (IsListed j) d) (λ cost path. (
      λ h. (offers_after v w a (Some b) i j d alike cost path h).1,
      λ h. (offers_after w v a (Some a) j i d (alike_back v w (Some a) (Some a) i j d (subst (λ (n : ℕ). IsAlike v w (Some a) (Some n) i j d) (sym same) alike)) cost path h).1,
    )) (Some e) chosen)

-- ---- a destination that is not named

module _ (keys : List (Scope × Key)) (named : List Dest) (v w : InterInputsValue) (differ : InputsDifferAmong keys named v w)
    (i j : OfferIndexValue) (dests : List Dest) (followed : IsFollowed named w (area_of v.examined) i j dests) where
  taken_alike : (d : Dest) → (Contains named d → ⊥) → (area : ℕ) → IsTakenBelow w area d ↔ IsTakenBelow v area d
  taken_alike (Net p) absent area =
      let same = differ.entries p absent in
      let ranges = differ.ranges p absent in (
        λ taken. elim taken [ inl some ↦ inl (subst (λ (e : Option Entry). IsSome e) same some) | inr active ↦ inr (ranges.0 active) ],
        λ taken. elim taken [ inl some ↦ inl (subst (λ (e : Option Entry). IsSome e) (sym same) some) | inr active ↦ inr (ranges.1 active) ],
      )
  taken_alike (Router r) absent area =
      let same = differ.routers r absent area in (
        λ h. (h.0, h.1, subst (λ (x : Option ReachedValue). HandsOut E x h.0 h.1) same h.2),
        λ h. (h.0, h.1, subst (λ (x : Option ReachedValue). HandsOut E x h.0 h.1) (sym same) h.2),
      )

  not_named : (d : Dest) → (Contains dests d → ⊥) → IsAlike v w (area_of v.examined) (area_of w.examined) i j d
  not_named d absent = record {
    routes = λ k has. elim (followed.led k) [
      | inl same ↦ same
      | inr all ↦ absurd (absent (all d has))
    ];
    taken = λ k a listed dest. taken_alike d (λ c. absent (followed.themselves d c (k, (a, listed, dest))));
    borders = λ k a listed dest area. differ.routers k.router (λ c. absent (followed.behind k.router d c (k, a, listed, refl, dest))) area;
  }

  -- the old entry is right
  entry_stands : IsIndexFor v.root v.examined i → (d : Dest) → (Contains dests d → ⊥) → (e : Option Entry) → IsEntryIn v v.examined d e → IsChosenFor w j d e
  entry_stands index d absent e is = stays v w (area_of v.examined) (area_of w.examined) i j d (not_named d absent) e (entry_advertised v i d v.examined index e is)

-- ---- all of it

-- destinations that are not named have the entry that they have to have
pub all_stand : (keys : List (Scope × Key)) (named : List Dest) (v w : InterInputsValue) (old : InterValue) (j : OfferIndexValue) (dests : List Dest) → IsInterOf v old → InputsDifferAmong keys named v w
    → IsFollowed named w old.examined old.index j dests → (d : Dest) → (Contains dests d → ⊥) → IsChosenFor w j d (get old.entries d)
all_stand keys named v w old j dests was differ followed d absent =
    entry_stands keys named v w differ old.index j dests (subst (λ (area : Option ℕ). IsFollowed named w area old.index j dests) was.examined followed) was.index d absent (get old.entries d) (was.entries d)

-- the routes belong to the inputs
pub updated : (w : InterInputsValue) (new : InterValue) → new.spent ≡ false → new.examined ≡ examined_area w → IsIndexFor w.root w.examined new.index → ((d : Dest) → IsChosenFor w new.index d (get new.entries d)) → IsInterOf w new
updated w new fresh examined index chosen = record {
  fresh = fresh;
  examined = examined;
  index = index;
  entries = λ d. entry_listed w new.index d w.examined index (get new.entries d) (chosen d);
}

-- ---- where no area is examined

abbrev pub blank : InterValue
blank = record { examined = None; index = record { routes = empty }; entries = empty; spent = false }

-- the inputs, but that no area is examined
abbrev pub blanked : InterInputsValue → InterInputsValue
blanked v = record { root = v.root; examined = None; intra = v.intra; active = v.active }

pub blank_is : (v : InterInputsValue) → IsInterOf (blanked v) blank
blank_is v = record {
  fresh = refl;
  examined = refl;
  index = refl;
  entries = λ d. get-empty dest_cmp d;
}

pub blank_differs : (keys : List (Scope × Key)) (dests : List Dest) (v : InterInputsValue) → InputsDifferAmong keys dests (blanked v) v
blank_differs keys dests v = record {
  root = refl;
  lsas = λ x y none. let wrong : None ≡ Some x = none in absurd cc;
  entries = λ p absent. refl;
  ranges = λ p absent. (λ h. h, λ h. h);
  routers = λ r absent area. refl;
}
