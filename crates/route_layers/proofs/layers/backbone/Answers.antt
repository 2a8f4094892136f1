use Rattle.std.proofs.Common.{◌≡◌, ◌<◌, ◌≤◌, List, get_or, length, sym, ap, subst, ◌∙◌, inl, inr}
use Rattle.std.specs.Prelude.{Contains}
use Rattle.std.proofs.lemmas.List.{take_all}
use Rattle.ospf_types.specs.declared.config.AreaConfig.{AreaConfig}
use Rattle.ospf_types.specs.declared.config.Config.{Config}
use Rattle.spf.proofs.OfSome.{contains_more}
use Rattle.route_layers.proofs.layers.backbone.Goals as goal

pub loop-area-preserved : goal.loop-area-preserved
loop-area-preserved c =
    let areas = c.args.state.now.config.areas in
    let i = c.loop-area.area-index in
    let a : AreaConfig = c.area-item.result in
    let listed : c.as_slice-area-items.result.now ≡ areas = c.as_slice-area-items.ensures ∙ ap (λ (k : Config). k.areas) c.config.ensures.value in
    let lt : i < length areas = subst (λ (list : List AreaConfig). i < length list) listed c.loop-area-test.true in
    let here : a ≡ get_or areas i a = c.area-item.is ∙ ap (λ (list : List AreaConfig). get_or list i a) listed in
    λ b among is. elim ((contains_more areas i a b lt here).0 among) [
      | inl before ↦ c.loop-area.invariant b before is
      | inr now ↦ c.if-area-eq-BACKBONE.false (sym (ap (λ (x : AreaConfig). x.id) now) ∙ is)
    ]

pub returns-clause-none : goal.returns-clause-none
returns-clause-none c =
    let areas = c.args.state.now.config.areas in
    let listed : c.as_slice-area-items.result.now ≡ areas = c.as_slice-area-items.ensures ∙ ap (λ (k : Config). k.areas) c.config.ensures.value in
    let past = subst (λ (list : List AreaConfig). length list ≤ c.loop-area.area-index) listed c.loop-area-test.false in
    λ b among. c.loop-area.invariant b (subst (λ (list : List AreaConfig). Contains list b) (sym (take_all c.loop-area.area-index areas past)) among)
