-- A router that something leads to is kept in some area, or has an inter-area entry.
use Rattle.std.proofs.Common.{ℕ, Bool, true, false, List, [], ◌∷◌, Option, Some, None, refl, sym, subst, ◌⊎◌, inl, inr}
use Rattle.std.specs.Prelude.{◌==◌, IsSome, if◌then◌else◌}
use Rattle.std.specs.FinMap.{get}
use Rattle.ospf_types.specs.declared.entry.Entry.{Entry}
use Rattle.ospf_types.specs.declared.hop.NextHop.{NextHop}
use Rattle.ospf_types.specs.declared.key.Dest.TheVariants.{Router}
use Rattle.ospf_types.specs.Boundary.{Preference}
use Rattle.ospf_types.specs.Intra.{E}
use Rattle.ospf_types.proofs.Elements.{first_element, later_element}
use Rattle.intra.specs.Intras.{AreaIntraValue, IsKeptIn, reached_at}
use Rattle.intra.specs.ReachedRouter.{ReachedValue, HandsOut}
use Rattle.external.specs.Inputs.{ExternalInputsValue}
use Rattle.external.specs.AsbrRoute.{RouterOffers}

kept_in : (areas : List AreaIntraValue) (area r : ℕ) → IsSome (reached_at areas area r) → IsKeptIn areas r
kept_in [] area r some = absurd cc
kept_in (a ∷ areas) area r some = at (a.id == area) (kept_in areas area r) some
  where
    at : (b : Bool) → (IsSome (reached_at areas area r) → IsKeptIn areas r) → IsSome (if b then get a.reached r else reached_at areas area r) → IsKeptIn (a ∷ areas) r
    at true later here = (a, first_element a areas, here)
    at false later there = let w = later there in (w.0, later_element a w.0 areas w.1, w.2)

handed_out : (o : Option ReachedValue) (distance : ℕ) (h : NextHop) → HandsOut E o distance h → IsSome o
handed_out None distance h hands = absurd hands
handed_out (Some r) distance h hands = refl

pub offering : (v : ExternalInputsValue) (r : ℕ) (preference : Preference) (h : NextHop) → RouterOffers v r preference h → IsKeptIn v.intra.areas r ⊎ IsSome (get v.inter.entries (Router r))
offering v r preference h (inl w) = inl (kept_in v.intra.areas w.0 r (handed_out (reached_at v.intra.areas w.0 r) preference.cost h w.2.2))
offering v r preference h (inr e) = inr (subst (λ (o : Option Entry). IsSome o) (sym e.2) refl)
