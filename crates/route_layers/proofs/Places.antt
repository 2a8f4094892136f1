-- The databases and interfaces of a state: what is there, and what is used of it.
--   area_there: a configured area has a database
--   lsas_there: what a database gives its scope is what the scope has
--   body_used: what is used of a scope's LSAs is what is used of those that it has
--   fit_lsas: they are fit
--   interface_at, interface_from: an interface is among the entries just where its id finds it
use Rattle.std.proofs.Common.{◌≡◌, ℕ, ◌<◌, true, false, List, [], ◌∷◌, ◌++◌, length, get_or, Option, Some, None, Ordering, refl, sym, ap, subst, ◌∙◌, ◌⊎◌, ⊎_elim}
use Rattle.std.specs.Prelude.{IsSome, option_map, option_and_then}
use Rattle.std.specs.Ordering.{nat_cmp}
use Rattle.std.specs.Cmp.{nat_cmp_total}
use Rattle.std.specs.List.{Contains}
use Rattle.std.specs.FinMap.{FinMap, get, entries, empty, get-empty, nat_cmp-IsAntisymmetric}
use Rattle.std.proofs.lemmas.List.{append-nil}
use Rattle.ospf_types.specs.declared.config.AreaConfig.{AreaConfig}
use Rattle.ospf_types.specs.declared.config.Interface.{Interface}
use Rattle.ospf_types.specs.declared.key.Key.{Key}
use Rattle.ospf_types.specs.declared.key.Scope.{Scope}
use Rattle.ospf_types.specs.declared.key.Scope.TheVariants as scope
use Rattle.ospf_types.specs.Keys.{key_cmp}
use Rattle.ospf_types.specs.Lsa.{Body}
use Rattle.lsdb.specs.Databases.{Database}
use Rattle.lsdb.specs.Contents.{used_at, contents_of}
use Rattle.area_trees.specs.Areas.{AreaTreeValue, body_at}
use Rattle.intra.specs.Inputs.{AreaValue}
use Rattle.event_state.specs.States.{State, place_of, database_of, usable_at}
use Rattle.event_state.specs.Held.{IsFit, AreFit}
use Rattle.event_state.proofs.HeldStates.{fit_empty}
use Rattle.event_state.proofs.Places.{place_there}
use Rattle.event_state.proofs.Sorted.{value_at, value_from}
use Rattle.route_layers.specs.Trees.{lsas_in, areas_with}

-- a configured area has a database
pub area_there : (areas : List AreaConfig) (k : ℕ) (d a : AreaConfig) → k < length areas → a ≡ get_or areas k d → IsSome (place_of areas (scope.Area a.id))
area_there areas k d a lt is = subst (λ (x : AreaConfig). IsSome (place_of areas (scope.Area x.id))) (sym is) (place_there areas k d lt)

pub some_there : {X Y : Type 0} (f : X → Y) (o : Option X) → IsSome o → option_map f o ≡ None → ⊥
some_there f None some e = let wrong : false ≡ true = some in cc
some_there f (Some x) some e = cc

-- a database of a scope holds what the scope has
pub lsas_there : (o : Option Database) (d : Database) → Some d ≡ o → lsas_in o ≡ d
lsas_there o d e = ap lsas_in (sym e)

used_none : (key : Key) → used_at empty key ≡ None
used_none key = ap (option_and_then contents_of) (get-empty key_cmp key)

-- what is used of a scope's LSAs is what is used of those that it has
pub body_used : (s : State) (at : Scope) (key : Key) → body_at (lsas_in (database_of s at)) key ≡ option_map (λ (used : ℕ × Body). used.1) (usable_at s at key)
body_used s at key = of (database_of s at)
  where
    of : (o : Option Database) → body_at (lsas_in o) key ≡ option_map (λ (used : ℕ × Body). used.1) (option_and_then (λ d. used_at d key) o)
    of None = ap (option_map (λ (used : ℕ × Body). used.1)) (used_none key)
    of (Some d) = refl

-- and those are fit
pub fit_lsas : (s : State) → AreFit s.config.areas s.databases → (at : Scope) → IsFit at (lsas_in (database_of s at))
fit_lsas s fit at = of (place_of s.config.areas at) refl
  where
    of : (o : Option ℕ) → place_of s.config.areas at ≡ o → IsFit at (lsas_in (option_map (λ k. get_or s.databases k empty) o))
    of None e = fit_empty at
    of (Some k) e = fit.fit at k e

-- an interface is among the entries just where its id finds it
pub interface_at : (m : FinMap nat_cmp Interface) (id : ℕ) (i : Interface) → get m id ≡ Some i → Contains (entries m) (id, i)
interface_at m id i = value_at m id i nat_cmp-IsAntisymmetric

pub interface_from : (m : FinMap nat_cmp Interface) (id : ℕ) (i : Interface) → Contains (entries m) (id, i) → get m id ≡ Some i
interface_from m id i = value_from m id i nat_cmp_total

-- where areas or trees come to an end, so do the areas with their trees
pub none_left : (s : State) (areas : List AreaConfig) (trees : List AreaTreeValue) (done all : List AreaValue) → (areas ≡ []) ⊎ (trees ≡ []) → done ++ areas_with s areas trees ≡ all → done ≡ all
none_left s areas trees done all ended is =
    sym (append-nil done) ∙ ap (λ (rest : List AreaValue). done ++ rest) (sym (⊎_elim (λ (e : areas ≡ []). ap (λ (list : List AreaConfig). areas_with s list trees) e) (λ (e : trees ≡ []). ap (areas_with s areas) e ∙ none areas) ended)) ∙ is
  where
    none : (list : List AreaConfig) → areas_with s list [] ≡ []
    none [] = refl
    none (a ∷ list) = refl
