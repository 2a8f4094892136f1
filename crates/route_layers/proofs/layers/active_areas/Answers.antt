use Rattle.std.proofs.Common.{◌≡◌, ◌<◌, ◌≤◌, ◌+◌, ℕ, List, [], get_or, take, length, sym, ap, subst, ◌∙◌}
use Rattle.std.proofs.lemmas.List.{take_all}
use Rattle.ospf_types.specs.declared.config.AreaConfig.{AreaConfig}
use Rattle.ospf_types.specs.declared.config.Config.{Config}
use Rattle.route_layers.specs.Layers.{AreActiveIn}
use Rattle.route_layers.proofs.Activating.{none_active, one_active, one_idle}
use Rattle.route_layers.proofs.layers.active_areas.Goals.{then-is_active+in_ok-push, else-is_active}
use Rattle.route_layers.proofs.layers.active_areas.Goals as goal

pub loop-area-init : goal.loop-area-init
loop-area-init c = none_active c.args.state.now c.new-active.result.items c.new-active.ensures.items

pub loop-area-preserved : goal.loop-area-preserved
loop-area-preserved c =
    let s = c.args.state.now in
    let areas = s.config.areas in
    let i = c.loop-area.area-index in
    let a : AreaConfig = c.area-item.result in
    let listed : c.as_slice-area-items.result.now ≡ areas = c.as_slice-area-items.ensures ∙ ap (λ (k : Config). k.areas) c.config.ensures.value in
    let lt : i < length areas = subst (λ (list : List AreaConfig). i < length list) listed c.loop-area-test.true in
    let here : a ≡ get_or areas i a = c.area-item.is ∙ ap (λ (list : List AreaConfig). get_or list i a) listed in
    elim c.if-is_active.branch [
      | then-is_active+in_ok-push w ↦
          subst (λ (ids : List ℕ). AreActiveIn s (take (i + 1) areas) ids) (sym (ap (λ v. v.items) w.active-is ∙ w.in_ok-push.ensures.ok))
          (one_active s areas i a lt here c.loop-area.active.items c.loop-area.invariant (c.is_active.ensures.0 w.if-is_active.true))
      | else-is_active w ↦
          subst (λ (ids : List ℕ). AreActiveIn s (take (i + 1) areas) ids) (sym (ap (λ v. v.items) w.active-is))
          (one_idle s areas i a lt here c.loop-area.active.items c.loop-area.invariant (λ up. let t = c.is_active.ensures.1 up in let f = w.if-is_active.false in absurd cc))
    ]

pub returns : goal.returns
returns c =
    let s = c.args.state.now in
    let listed : c.as_slice-area-items.result.now ≡ s.config.areas = c.as_slice-area-items.ensures ∙ ap (λ (k : Config). k.areas) c.config.ensures.value in
    let past = subst (λ (list : List AreaConfig). length list ≤ c.loop-area.area-index) listed c.loop-area-test.false in
    subst (λ (list : List AreaConfig). AreActiveIn s list c.loop-area.active.items) (take_all c.loop-area.area-index s.config.areas past) c.loop-area.invariant
