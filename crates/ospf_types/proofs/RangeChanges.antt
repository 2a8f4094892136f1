-- Where ranges are changed, all else of a configuration stays.
use Rattle.std.proofs.Common.{◌≡◌, ◌==◌, ℕ, Bool, true, false, cond, List, [], ◌∷◌, map, refl, sym, ap, ◌∙◌}
use Rattle.ospf_types.specs.declared.config.AreaConfig.{AreaConfig}
use Rattle.ospf_types.specs.declared.config.Config.{Config}
use Rattle.ospf_types.specs.declared.config.Range.{Range}
use Rattle.ospf_types.specs.RangeChanges.{with_others, with_ranges, areas_without_ranges, without_ranges}

one_kept : (b : Bool) (a : AreaConfig) (ranges : List Range) → with_others (cond b (with_others a ranges) a) [] ≡ with_others a []
one_kept true a ranges = refl
one_kept false a ranges = refl

pub others_kept : (areas : List AreaConfig) (id : ℕ) (change : List Range → List Range) → areas_without_ranges (with_ranges areas id change) ≡ areas_without_ranges areas
others_kept [] id change = refl
others_kept (a ∷ areas) id change = λ i. one_kept (a.id == id) a (change a.ranges) i ∷ others_kept areas id change i

-- what is read of the areas and is not their ranges
pub ids_kept : (areas others : List AreaConfig) → areas_without_ranges areas ≡ areas_without_ranges others → map (λ (a : AreaConfig). a.id) areas ≡ map (λ (a : AreaConfig). a.id) others
ids_kept areas others same = ids areas ∙ ap (map (λ (a : AreaConfig). a.id)) same ∙ sym (ids others)
  where
    ids : (list : List AreaConfig) → map (λ (a : AreaConfig). a.id) list ≡ map (λ (a : AreaConfig). a.id) (areas_without_ranges list)
    ids [] = refl
    ids (a ∷ list) = ap (λ (ns : List ℕ). a.id ∷ ns) (ids list)

-- of a configuration
pub areas_kept : (c d : Config) → without_ranges c ≡ without_ranges d → areas_without_ranges c.areas ≡ areas_without_ranges d.areas
areas_kept c d same = ap (λ (x : Config). x.areas) same

pub router_kept : (c d : Config) → without_ranges c ≡ without_ranges d → c.router ≡ d.router
router_kept c d same = ap (λ (x : Config). x.router) same

pub compat_kept : (c d : Config) → without_ranges c ≡ without_ranges d → c.compat ≡ d.compat
compat_kept c d same = ap (λ (x : Config). x.compat) same
