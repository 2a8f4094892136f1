-- An area of one configuration is in any other that differs only in ranges.
use Rattle.std.proofs.Common.{◌≡◌, ℕ, List, subst}
use Rattle.std.specs.Prelude.{Contains, map}
use Rattle.ospf_types.specs.declared.config.AreaConfig.{AreaConfig}
use Rattle.ospf_types.specs.declared.config.Config.{Config}
use Rattle.ospf_types.specs.RangeChanges.{without_ranges}
use Rattle.ospf_types.proofs.Elements.{mapped_element, mapped_from}
use Rattle.ospf_types.proofs.RangeChanges.{areas_kept, ids_kept}
use Rattle.engine.specs.Answers.{HasArea}

abbrev ids_of : Config → List ℕ
ids_of c = map (λ (a : AreaConfig). a.id) c.areas

pub has_same : (c d : Config) (id : ℕ) → without_ranges c ≡ without_ranges d → HasArea c id → HasArea d id
has_same c d id same has =
    let here : Contains (ids_of c) id = subst (Contains (ids_of c)) has.2 (mapped_element (λ (a : AreaConfig). a.id) c.areas has.0 has.1) in
    mapped_from (λ (a : AreaConfig). a.id) d.areas id (subst (λ (ids : List ℕ). Contains ids id) (ids_kept c.areas d.areas (areas_kept c d same)) here)
