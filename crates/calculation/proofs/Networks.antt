-- The routers among some destinations, and all networks that a table may have something for.
--   one_router_more: one destination more
--   routers_within: a router that is one of the destinations is one of the routers
--   nothing_else: a network that no layer lists has no item
use Rattle.std.proofs.Common.{◌≡◌, ℕ, ◌+◌, ◌<◌, List, [], ◌∷◌, ◌++◌, length, get_or, take, Option, Some, None, refl, sym, ap, subst, ◌∙◌, ⊎_elim}
use Rattle.std.specs.Prelude.{◌↔◌, IsSome}
use Rattle.std.specs.FinMap.{get}
use Rattle.std.specs.List.{Contains}
use Rattle.std.proofs.lemmas.List.{take_more}
use Rattle.std.proofs.lemmas.List.Elements.{Contains-append_left, Contains-append_right}
use Rattle.ospf_types.specs.declared.key.Dest.{Dest}
use Rattle.ospf_types.specs.declared.key.Dest.TheVariants.{Net, Router}
use Rattle.ospf_types.specs.declared.prefix.Prefix.{Prefix}
use Rattle.ospf_types.proofs.Elements.{no_element, first_element, later_element, first_or_later}
use Rattle.active_ranges.specs.Active.{IsActiveIn}
use Rattle.calculation.specs.Calculations.{CalculationValue, IsItemOf, entry_else}
use Rattle.calculation.specs.Followed.{routers_in}

routers_more : (dests : List Dest) (d : Dest) → routers_in (dests ++ d ∷ []) ≡ routers_in dests ++ routers_in (d ∷ [])
routers_more [] (Net p) = refl
routers_more [] (Router r) = refl
routers_more (Net p ∷ dests) d = routers_more dests d
routers_more (Router r ∷ dests) d = ap (λ ds. Router r ∷ ds) (routers_more dests d)

pub one_router_more : (dests : List Dest) (i : ℕ) (d : Dest) → i < length dests → d ≡ get_or dests i d → routers_in (take (i + 1) dests) ≡ routers_in (take i dests) ++ routers_in (d ∷ [])
one_router_more dests i d lt here = ap routers_in (take_more dests i d lt ∙ ap (λ (e : Dest). take i dests ++ e ∷ []) (sym here)) ∙ routers_more (take i dests) d

-- a router that is one of the destinations is one of the routers
pub routers_within : (dests : List Dest) (r : ℕ) → Contains dests (Router r) → Contains (routers_in dests) (Router r)
routers_within [] r c = absurd (no_element (Router r) c)
routers_within (Net p ∷ dests) r c = ⊎_elim (λ (e : Router r ≡ Net p). absurd cc) (λ (later : Contains dests (Router r)). routers_within dests r later) (first_or_later (Net p) (Router r) dests c)
routers_within (Router q ∷ dests) r c =
    ⊎_elim
    (λ (e : Router r ≡ Router q). subst (λ (d : Dest). Contains (Router q ∷ routers_in dests) d) (sym e) (first_element (Router q) (routers_in dests)))
    (λ (later : Contains dests (Router r)). later_element (Router q) (Router r) (routers_in dests) (routers_within dests r later))
    (first_or_later (Router q) (Router r) dests c)

-- ---- all that the table may have something for

none_of : {A : Type 0} (o : Option A) → (IsSome o → ⊥) → o ≡ None
none_of None not = refl
none_of (Some x) not = absurd (not refl)

-- a network that no layer lists
module _ (c : CalculationValue) (intra ranges inter external : List Prefix) (dests : List Dest)
    (within : (p : Prefix) → Contains intra p ↔ IsSome (get c.intra.entries p)) (active : (p : Prefix) → Contains ranges p ↔ IsActiveIn c.active p)
    (between : (d : Dest) → Contains dests d ↔ IsSome (get c.inter.entries d)) (networks : (p : Prefix) → Contains inter p ↔ Contains dests (Net p))
    (outside : (p : Prefix) → Contains external p ↔ IsSome (get c.external.entries p)) where
  abbrev all : List Prefix
  all = ((intra ++ ranges) ++ inter) ++ external

  nothing : (p : Prefix) → (Contains all p → ⊥) → IsItemOf c p None
  nothing p not =
      let first : List Prefix = intra ++ ranges in
      let second : List Prefix = first ++ inter in
      let a = none_of (get c.intra.entries p) (λ some. not (Contains-append_left second external p (Contains-append_left first inter p (Contains-append_left intra ranges p ((within p).1 some))))) in
      let b = none_of (get c.inter.entries (Net p)) (λ some. not (Contains-append_left second external p (Contains-append_right first inter p ((networks p).1 ((between (Net p)).1 some))))) in
      let e = none_of (get c.external.entries p) (λ some. not (Contains-append_right second external p ((outside p).1 some))) in (
        λ i. entry_else (a i) (entry_else (b i) (e i)),
        λ is. not (Contains-append_left second external p (Contains-append_left first inter p (Contains-append_right intra ranges p ((active p).1 is)))),
      )

  pub nothing_else : (found kept : List Prefix) → found ≡ all → ((p : Prefix) → Contains kept p ↔ Contains found p) → (p : Prefix) → (Contains kept p → ⊥) → IsItemOf c p None
  nothing_else found kept is same p not = nothing p (λ among. not ((same p).1 (subst (λ (list : List Prefix). Contains list p) (sym is) among)))
