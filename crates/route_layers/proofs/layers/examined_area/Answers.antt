use Rattle.std.proofs.Common.{◌≡◌, ◌<◌, ◌≤◌, ◌+◌, ℕ, List, Option, None, get_or, take, length, sym, ap, subst, ◌∙◌}
use Rattle.std.specs.Prelude.{IsSome}
use Rattle.std.proofs.lemmas.List.{take_all}
use Rattle.ospf_types.specs.declared.config.AreaConfig.{AreaConfig}
use Rattle.ospf_types.specs.declared.config.Config.{Config}
use Rattle.route_layers.proofs.Examining.{IsFoundIn, none_more, first_found, nothing_found, one_examined, not_examined, backbone_examined, no_backbone}
use Rattle.route_layers.proofs.layers.examined_area.Goals.{then-is_active+else-is_some, else-is_active}
use Rattle.route_layers.proofs.layers.examined_area.Goals as goal

pub returns-then-is_some-clause-some : goal.returns-then-is_some-clause-some
returns-then-is_some-clause-some c =
    let s = c.args.state.now in
    let i = c.loop-area.area-index in
    let a : AreaConfig = c.area-item.result in
    let listed : c.as_slice-area-items.result.now ≡ s.config.areas = c.as_slice-area-items.ensures ∙ ap (λ (k : Config). k.areas) c.config.ensures.value in
    let lt : i < length s.config.areas = subst (λ (list : List AreaConfig). i < length list) listed c.loop-area-test.true in
    let here : a ≡ get_or s.config.areas i a = c.area-item.is ∙ ap (λ (list : List AreaConfig). get_or list i a) listed in
    let some : IsSome c.loop-area.active = sym c.is_some.ensures ∙ c.if-is_some.true in
    backbone_examined s i a lt here c.requires.apart (c.is_active.ensures.0 c.if-is_active.true) c.loop-area.active some c.loop-area.invariant c.backbone.result c.backbone.ensures.some

pub returns-then-is_some-clause-none : goal.returns-then-is_some-clause-none
returns-then-is_some-clause-none c =
    let s = c.args.state.now in
    let i = c.loop-area.area-index in
    let a : AreaConfig = c.area-item.result in
    let listed : c.as_slice-area-items.result.now ≡ s.config.areas = c.as_slice-area-items.ensures ∙ ap (λ (k : Config). k.areas) c.config.ensures.value in
    let lt : i < length s.config.areas = subst (λ (list : List AreaConfig). i < length list) listed c.loop-area-test.true in
    let here : a ≡ get_or s.config.areas i a = c.area-item.is ∙ ap (λ (list : List AreaConfig). get_or list i a) listed in
    let some : IsSome c.loop-area.active = sym c.is_some.ensures ∙ c.if-is_some.true in
    no_backbone s i a lt here c.requires.apart (c.is_active.ensures.0 c.if-is_active.true) c.loop-area.active some c.loop-area.invariant c.backbone.result c.backbone.ensures.none

pub loop-area-preserved : goal.loop-area-preserved
loop-area-preserved c =
    let s = c.args.state.now in
    let areas = s.config.areas in
    let i = c.loop-area.area-index in
    let a : AreaConfig = c.area-item.result in
    let listed : c.as_slice-area-items.result.now ≡ areas = c.as_slice-area-items.ensures ∙ ap (λ (k : Config). k.areas) c.config.ensures.value in
    let lt : i < length areas = subst (λ (list : List AreaConfig). i < length list) listed c.loop-area-test.true in
    let here : a ≡ get_or areas i a = c.area-item.is ∙ ap (λ (list : List AreaConfig). get_or list i a) listed in
    elim c.if-is_active.branch [
      | then-is_active+else-is_some w ↦
          let none : c.loop-area.active ≡ None = nothing_found c.loop-area.active (sym w.is_some.ensures ∙ w.if-is_some.false) in
          let found = subst (λ (o : Option ℕ). IsFoundIn s (take i areas) o) none c.loop-area.invariant in
          subst (λ (o : Option ℕ). IsFoundIn s (take (i + 1) areas) o) (sym w.active-is) (first_found s areas i a lt here found (c.is_active.ensures.0 w.if-is_active.true))
      | else-is_active w ↦
          subst (λ (o : Option ℕ). IsFoundIn s (take (i + 1) areas) o) (sym w.active-is)
          (none_more s areas i a lt here c.loop-area.active c.loop-area.invariant (λ up. let t = c.is_active.ensures.1 up in let f = w.if-is_active.false in absurd cc))
    ]

pub returns-clause-some : goal.returns-clause-some
returns-clause-some c =
    let s = c.args.state.now in
    let listed : c.as_slice-area-items.result.now ≡ s.config.areas = c.as_slice-area-items.ensures ∙ ap (λ (k : Config). k.areas) c.config.ensures.value in
    let past = subst (λ (list : List AreaConfig). length list ≤ c.loop-area.area-index) listed c.loop-area-test.false in
    one_examined s c.loop-area.active (subst (λ (list : List AreaConfig). IsFoundIn s list c.loop-area.active) (take_all c.loop-area.area-index s.config.areas past) c.loop-area.invariant)

pub returns-clause-none : goal.returns-clause-none
returns-clause-none c =
    let s = c.args.state.now in
    let listed : c.as_slice-area-items.result.now ≡ s.config.areas = c.as_slice-area-items.ensures ∙ ap (λ (k : Config). k.areas) c.config.ensures.value in
    let past = subst (λ (list : List AreaConfig). length list ≤ c.loop-area.area-index) listed c.loop-area-test.false in
    not_examined s c.loop-area.active (subst (λ (list : List AreaConfig). IsFoundIn s list c.loop-area.active) (take_all c.loop-area.area-index s.config.areas past) c.loop-area.invariant)
