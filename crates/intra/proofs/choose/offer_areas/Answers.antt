use Rattle.std.proofs.Common.{List, ◌∷◌, map, ◌≡◌, ◌∙◌, ap, sym, subst}
use Rattle.std.specs.FinMap.{get}
use Rattle.std.proofs.lemmas.Slice.Zip.{Zip-more, either_empty_from_Zip}
use Rattle.std.specs.Iterator.Adapters.{zip_first, zip_second}
use Rattle.std.specs.Slice.Iter.{iter_rest}
use Rattle.intra.specs.Choosing.{TakesPaths}
use Rattle.intra.specs.Indexes.{IndexedOffers, IndexValue, sources_of}
use Rattle.intra.specs.Inputs.{AreaValue, InputsValue}
use Rattle.intra.specs.Intras.{AreaIntraValue}
use Rattle.intra.proofs.Sourced.{takes_areas, takes_indexed, takes_no_area}
use Rattle.intra.proofs.choose.offer_areas.Goals as goal

pub loop-kept-init : goal.loop-kept-init
loop-kept-init c = λ new takes.
    let first : iter_rest (zip_first c.into_iter-kept-iterator.result) ≡ c.args.indexed.now.kept.now = (λ i. iter_rest (zip_first (c.into_iter-kept-iterator.ensures.into_iter_gives i))) ∙ (λ i. iter_rest (c.zip-kept-items.ensures.first i)) ∙ c.iter.ensures.rest in
    let second : iter_rest (zip_second c.into_iter-kept-iterator.result) ≡ c.args.indexed.now.inputs.now.areas = (λ i. iter_rest (zip_second (c.into_iter-kept-iterator.ensures.into_iter_gives i))) ∙ c.zip-kept-items.ensures.second.0 ∙ ap (λ (w : InputsValue). w.areas) c.inputs.view_is in
    subst (λ (kept : List AreaIntraValue). TakesPaths (IndexedOffers c.args.indexed.now.inputs.now (map (λ k. k.index) kept) c.args.indexed.now.inputs.now.areas c.args.prefix) c.args.best.now new) first
    (subst (λ (areas : List AreaValue). TakesPaths (IndexedOffers c.args.indexed.now.inputs.now (map (λ k. k.index) (iter_rest (zip_first c.into_iter-kept-iterator.result))) areas c.args.prefix) c.args.best.now new) second takes)

pub loop-kept-preserved : goal.loop-kept-preserved
loop-kept-preserved c = λ new rest.
    let kept = c.in-Some.kept.now in
    let is = c.sources-sources.ensures ∙ ap (λ (i : IndexValue). sources_of (get i.sources c.args.prefix)) c.index.ensures in
    let here = takes_indexed kept.index c.args.indexed.now.inputs.now c.in-Some.area.now c.args.prefix c.sources-sources.result.now c.loop-kept.best c.offer_sources.new.best is c.in_ok-offer_sources.ensures in
    let turn = Zip-more c.loop-kept.kept-iterator c.next.new.self _ (c.in-Some.kept, c.in-Some.area) c.in-Some.is c.next.ensures.steps in
    c.loop-kept.invariant new
    (subst (λ (kept : List AreaIntraValue). TakesPaths (IndexedOffers c.args.indexed.now.inputs.now (map (λ k. k.index) kept) (iter_rest (zip_second c.loop-kept.kept-iterator)) c.args.prefix) c.loop-kept.best new) (sym turn.0)
    (subst (λ (areas : List AreaValue). TakesPaths (IndexedOffers c.args.indexed.now.inputs.now (map (λ k. k.index) (c.in-Some.kept.now ∷ iter_rest (zip_first c.next.new.self))) areas c.args.prefix) c.loop-kept.best new) (sym turn.1)
    (takes_areas c.args.indexed.now.inputs.now c.args.prefix c.in-Some.kept.now (iter_rest (zip_first c.next.new.self)) c.in-Some.area.now (iter_rest (zip_second c.next.new.self)) c.loop-kept.best c.offer_sources.new.best new here rest)))

pub returns : goal.returns
returns c =
    c.loop-kept.invariant c.loop-kept.best
    (takes_no_area c.args.indexed.now.inputs.now c.args.prefix (iter_rest (zip_first c.loop-kept.kept-iterator)) (iter_rest (zip_second c.loop-kept.kept-iterator)) c.loop-kept.best
    (either_empty_from_Zip c.loop-kept.kept-iterator c.next.new.self _ c.in-None.is c.next.ensures.steps))
