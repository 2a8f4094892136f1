use Rattle.std.proofs.Common.{refl, ◌∙◌, ◌++◌, ap, length, sym, subst, List, ℕ, string_bytes}
use Rattle.std.specs.List.{AllZip}
use Rattle.std.proofs.lemmas.Result.{on_ok_weaker}
use Rattle.ospf_types.specs.declared.config.Config.{Config}
use Rattle.area_trees.specs.Areas.{AreaTreeValue}
use Rattle.intra.specs.Inputs.{AreaValue}
use Rattle.route_layers.specs.Trees.{areas_with}
use Rattle.route_layers.proofs.InputsAre.{ready_of}
use Rattle.route_layers.proofs.Turns.{trees_long}
use Rattle.page_replay.specs.Pictures.{HaveTrees, IsPictureOf, areas_text}
use Rattle.page_replay.specs.Sections.{AddsAreas}
use Rattle.page_replay.proofs.Shown.{of_ready}
use Rattle.page_replay.proofs.sections.put_pictures_by.Goals as goal

pub area_inputs-requires : goal.area_inputs-requires
area_inputs-requires c =
    let s = c.args.found.state.now in
    ap length c.trees.ensures ∙ trees_long s s.config.areas c.args.found.calculation.now.trees c.requires.trees

pub pictures_of-requires : goal.pictures_of-requires
pictures_of-requires c =
    let s = c.args.found.state.now in
    let trees = c.args.found.calculation.now.trees in
    let areas = c.deref.ensures.value ∙ c.in_ok-areas.ensures ∙ ap (λ (t : List AreaTreeValue). areas_with s s.config.areas t) c.trees.ensures in
    subst HaveTrees (sym areas) (λ a has. of_ready s.config.router a (ready_of s trees c.requires.trees a has))

pub returns : goal.returns
returns c =
    let s = c.args.found.state.now in
    let calculation = c.args.found.calculation.now in
    let pictures = c.in_ok-pictures.pictures.items in
    let router = ap (λ (k : Config). k.router) c.config-config.ensures.value in
    let areas = c.deref.ensures.value ∙ c.in_ok-areas.ensures ∙ ap (λ (t : List AreaTreeValue). areas_with s s.config.areas t) c.trees.ensures in
    let configured = c.as_slice.ensures ∙ ap (λ (k : Config). k.areas) c.config-config.ensures.value in
    let each = subst (λ (r : ℕ). AllZip (IsPictureOf r) (areas_with s s.config.areas calculation.trees) pictures) router
    (subst (λ (list : List AreaValue). AllZip (IsPictureOf c.config-config.result.now.router) list pictures) areas c.in_ok-pictures.ensures) in
    on_ok_weaker _ (λ is.
    let added : AddsAreas s (string_bytes c.args.text.now) (string_bytes c.put_areas.new.text) = (
      areas_text s.config.areas pictures,
      record { calculation = calculation; right = c.requires; pictures = pictures; each = each; is = refl },
      is ∙ (λ i. string_bytes c.args.text.now ++ areas_text (configured i) (c.deref-2.ensures.value i)),
    ) in
    added)
    c.put_areas.ensures
