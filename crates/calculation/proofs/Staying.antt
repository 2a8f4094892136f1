-- A result that a layer's exact list does not name is unchanged.
--   networks_stay, routers_stay: intra-area routes
--   ranges_stay: active ranges
--   inter_stays, external_stays: inter-area and external routes
--   preferred_stays: the preferred entries of AS boundary routers
use Rattle.std.proofs.Common.{◌≡◌, ◌==◌, ℕ, List, [], ◌∷◌, map, refl, inl, inr}
use Rattle.std.specs.Prelude.{◌↔◌, Option, if◌then◌else◌}
use Rattle.std.specs.Coded.{Coded, codes}
use Rattle.std.specs.FinMap.{get}
use Rattle.std.specs.List.{Contains}
use Rattle.ospf_types.specs.contracts.entry.Entry as entry_row
use Rattle.ospf_types.specs.declared.entry.Entry.{Entry}
use Rattle.ospf_types.specs.declared.key.Dest.{Dest}
use Rattle.ospf_types.specs.declared.key.Dest.TheVariants.{Net, Router}
use Rattle.ospf_types.specs.declared.prefix.Prefix.{Prefix}
use Rattle.intra.specs.Changes.{DiffersAt, HasOtherRouter}
use Rattle.intra.specs.Intras.{AreaIntraValue, IntraValue, reached_at}
use Rattle.intra.specs.ReachedRouter.{ReachedValue}
use Rattle.active_ranges.specs.Active.{ActiveValue, IsActiveIn, DiffersAt as RangeDiffers}
use Rattle.inter.specs.Changes.{DiffersAt as InterDiffers}
use Rattle.inter.specs.Inters.{InterValue}
use Rattle.external.specs.Changes.{DiffersAt as ExternalDiffers}
use Rattle.external.specs.Externals.{ExternalValue}
use Rattle.external.specs.AsbrRoute.{PreferredValue}
use Rattle.external.specs.contracts.preferred.AsbrRoute as preferred_row
use Rattle.calculation.proofs.Activity.{active_or_not}
use Rattle.ospf_types.proofs.Stable.{same_value}

entry_code : Coded (Option Entry)
entry_code = Prim.hlevel (codes, entry_row.the_row.coded)

preferred_code : Coded (Option PreferredValue)
preferred_code = Prim.hlevel (codes, preferred_row.the_row.coded)

reached_code : Coded (Option ReachedValue)
reached_code = Prim.hlevel codes

-- ---- intra-area routes

reached_same : (is js : List AreaIntraValue) → map (λ (i : AreaIntraValue). i.id) js ≡ map (λ (i : AreaIntraValue). i.id) is → (r : ℕ) → (HasOtherRouter is js r → ⊥) → (area : ℕ) → reached_at js area r ≡ reached_at is area r
reached_same [] [] ids r not area = refl
reached_same [] (j ∷ js) ids r not area = absurd cc
reached_same (i ∷ is) [] ids r not area = absurd cc
reached_same (i ∷ is) (j ∷ js) ids r not area =
    let id : j.id ≡ i.id = cc in
    let others : map (λ (x : AreaIntraValue). x.id) js ≡ map (λ (x : AreaIntraValue). x.id) is = cc in
    let here : get j.reached r ≡ get i.reached r = same_value reached_code (get j.reached r) (get i.reached r) (λ other. not (inl other)) in
    let later : reached_at js area r ≡ reached_at is area r = reached_same is js others r (λ w. not (inr w)) area in
    λ k. if id k == area then here k else later k

module _ (old new : IntraValue) (dests : List Dest) (exact : (d : Dest) → Contains dests d ↔ DiffersAt old new d) where
  pub networks_stay : (p : Prefix) → (Contains dests (Net p) → ⊥) → get new.entries p ≡ get old.entries p
  networks_stay p not = same_value entry_code (get new.entries p) (get old.entries p) (λ other. not ((exact (Net p)).1 other))

  pub routers_stay : map (λ (i : AreaIntraValue). i.id) new.areas ≡ map (λ (i : AreaIntraValue). i.id) old.areas
      → (r : ℕ) → (Contains dests (Router r) → ⊥) → (area : ℕ) → reached_at new.areas area r ≡ reached_at old.areas area r
  routers_stay ids r not area = reached_same old.areas new.areas ids r (λ other. not ((exact (Router r)).1 other)) area

-- ---- the layers above

module _ (old new : ActiveValue) (prefixes : List Prefix) (exact : (p : Prefix) → Contains prefixes p ↔ RangeDiffers old new p) where
  pub ranges_stay : (p : Prefix) → (Contains prefixes p → ⊥) → IsActiveIn new p ↔ IsActiveIn old p
  ranges_stay p not = (
    λ now. elim (active_or_not old p) [ inl was ↦ was | inr none ↦ absurd (not ((exact p).1 (inr (none, now)))) ],
    λ was. elim (active_or_not new p) [ inl now ↦ now | inr none ↦ absurd (not ((exact p).1 (inl (was, none)))) ],
  )

pub inter_stays : (old new : InterValue) (dests : List Dest) → ((d : Dest) → Contains dests d ↔ InterDiffers old new d) → (d : Dest) → (Contains dests d → ⊥) → get new.entries d ≡ get old.entries d
inter_stays old new dests exact d not = same_value entry_code (get new.entries d) (get old.entries d) (λ other. not ((exact d).1 other))

pub external_stays : (old new : ExternalValue) (dests : List Dest) → ((d : Dest) → Contains dests d ↔ ExternalDiffers old new d) → (p : Prefix) → (Contains dests (Net p) → ⊥) → get new.entries p ≡ get old.entries p
external_stays old new dests exact p not = same_value entry_code (get new.entries p) (get old.entries p) (λ other. not ((exact (Net p)).1 other))

pub preferred_stays : (old new : ExternalValue) (dests : List Dest) → ((d : Dest) → Contains dests d ↔ ExternalDiffers old new d) → (r : ℕ) → (Contains dests (Router r) → ⊥) → get new.preferred r ≡ get old.preferred r
preferred_stays old new dests exact r not = same_value preferred_code (get new.preferred r) (get old.preferred r) (λ other. not ((exact (Router r)).1 other))
