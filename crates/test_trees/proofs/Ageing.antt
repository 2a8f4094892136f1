-- A database of which one LSA is set to MaxAge.
use Rattle.std.proofs.Common.{◌≡◌, true, false, cond, [], ◌∷◌, Some, None, refl, sym, ap, subst, ◌∙◌}
use Rattle.std.specs.Prelude.{Contains}
use Rattle.std.specs.FinMap.{get, get-insert}
use Rattle.std.specs.Ordering.{eq_by_cmp}
use Rattle.std.proofs.lemmas.Map.Views.{tells_apart}
use Rattle.lsa_codec.specs.Readers.{with_age}
use Rattle.lsdb.specs.Databases.{Database, aged_out, changed_at}
use Rattle.ospf_types.specs.declared.key.Key.{Key}
use Rattle.ospf_types.specs.Keys.{key_cmp}
use Rattle.ospf_types.specs.Lsa.{MaxAge}
use Rattle.ospf_types.proofs.Elements.{first_element}
use Rattle.ospf_types.proofs.Orders.{key_total, key_exact}
use Rattle.area_trees.specs.Areas.{DifferAmong}
use Rattle.area_trees.proofs.AreaGraphs.{body_of}

-- none but that one is used otherwise
pub differ_aged : (d : Database) (key : Key) → DifferAmong d (aged_out d key) (key ∷ [])
differ_aged d key other apart =
    let differs : eq_by_cmp key_cmp other key ≡ false =
    elim (eq_by_cmp key_cmp other key) as (λ b. eq_by_cmp key_cmp other key ≡ b → b ≡ false) [
      | true ↦ λ is. absurd (apart (subst (λ (k : Key). Contains (key ∷ []) k) (sym (tells_apart key_exact other key is)) (first_element key [])))
      | false ↦ λ is. refl
    ] refl in
    let same : get (aged_out d key) other ≡ get d other =
    elim (get d key) as (λ o. get (changed_at d key (λ l. with_age l MaxAge) o) other ≡ get d other) [
      | None ↦ refl
      | Some l ↦ get-insert key_total d key (with_age l MaxAge) other ∙ ap (λ b. cond b (Some (with_age l MaxAge)) (get d other)) differs
    ] in
    ap body_of same
