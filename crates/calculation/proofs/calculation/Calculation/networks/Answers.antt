use Rattle.std.proofs.Common.{◌≡◌, ◌++◌, List, None, ap, subst, ◌∙◌}
use Rattle.std.specs.Prelude.{◌↔◌, Contains}
use Rattle.ospf_types.specs.declared.key.Dest.{Dest}
use Rattle.ospf_types.specs.declared.key.Dest.TheVariants.{Net}
use Rattle.ospf_types.specs.declared.prefix.Prefix.{Prefix}
use Rattle.calculation.specs.Calculations.{CalculationValue, IsItemOf}
use Rattle.calculation.proofs.Networks.{nothing_else}
use Rattle.calculation.proofs.calculation.Calculation.networks.Goals as goal

pub returns : goal.returns
returns c =
    let k : CalculationValue = record { trees = c.self.inside.trees.items; intra = c.self.inside.intra; active = c.self.inside.active; inter = c.self.inside.inter; external = c.self.inside.external } in
    let intra : List Prefix = c.in_ok-networks.networks.items in
    let ranges : List Prefix = c.in_ok-prefixes.field-0.items in
    let inter : List Prefix = c.in_ok-networks_of.field-0.items in
    let external : List Prefix = c.in_ok-networks-2.field-0.items in
    let listed : c.extend_from_slice-3.new.self.items ≡ ((intra ++ ranges) ++ inter) ++ external =
    c.in_ok-extend_from_slice-3.ensures.items
    ∙ (λ i. (c.in_ok-extend_from_slice-2.ensures.items ∙ (λ j. (c.in_ok-extend_from_slice.ensures.items ∙ ap (λ (ps : List Prefix). intra ++ ps) c.deref.ensures.value) j ++ c.deref-3.ensures.value j)) i ++ c.deref-4.ensures.value i) in
    subst (λ (v : CalculationValue). (p : Prefix) → (Contains c.sorted_unique.result.items p → ⊥) → IsItemOf v p None) c.self.view_is
    (nothing_else k intra ranges inter external c.in_ok-dests.field-0.items c.in_ok-networks.ensures.exact c.in_ok-prefixes.ensures.exact c.in_ok-dests.ensures.exact
    (subst (λ (ds : List Dest). (p : Prefix) → Contains inter p ↔ Contains ds (Net p)) c.deref-2.ensures.value c.in_ok-networks_of.ensures.exact) c.in_ok-networks-2.ensures.exact
    c.extend_from_slice-3.new.self.items c.sorted_unique.result.items listed c.sorted_unique.ensures.same)
