-- One source more, and then the transit network.
use Rattle.std.proofs.Common.{◌++◌, ◌∷◌, [], List, sym, subst, take}
use Rattle.std.proofs.lemmas.List.{take_more, take_all}
use Rattle.std.proofs.lemmas.Result.{on_ok_weaker}
use Rattle.intra.specs.declared.area_index.PrefixSource.{PrefixSource}
use Rattle.intra.specs.Choosing.{AmongSources, TakesPaths, ThisSource, KeyedStubs, FindsNearest}
use Rattle.intra.proofs.Nearest.{nearest_of_none}
use Rattle.intra.proofs.Sourced.{takes_area, takes_sources}
use Rattle.route_choice.proofs.Taking.{takes_at, takes_past}
use Rattle.intra.proofs.choose.offer_sources.Goals as goal

pub loop-source-init : goal.loop-source-init
loop-source-init c = record { offered = λ new takes. takes; found = λ p. nearest_of_none c.args.network.now.area.now p; bounded = tt }

pub loop-source-preserved : goal.loop-source-preserved
loop-source-preserved c =
    let v = c.args.network.now.inputs.now in
    let a = c.args.network.now.area.now in
    let p = c.args.network.now.prefix in
    let xs = c.args.sources.now in
    let i = c.loop-source.source-index in
    let x = c.source-item.result in
    let source = c.in_ok-nearest.ensures in
    let offered = subst (λ (s : PrefixSource). TakesPaths (KeyedStubs (ThisSource s) v a p) c.loop-source.best c.offer_source.new.best) c.source-item.is source.offered in
    record {
      offered = λ new rest. c.loop-source.invariant.offered new (takes_at (λ (s : PrefixSource). KeyedStubs (ThisSource s) v a p) xs i x c.loop-source.best c.offer_source.new.best new c.loop-source-test.true offered rest);
      found = λ q. subst (λ (past : List PrefixSource). FindsNearest (AmongSources past) a q c.in_ok-nearest.nearest) (sym (take_more xs i x c.loop-source-test.true))
          (subst (λ (s : PrefixSource). FindsNearest (AmongSources (take i xs ++ s ∷ [])) a q c.in_ok-nearest.nearest) c.source-item.is (source.found (take i xs) q (c.loop-source.invariant.found q)));
      bounded = source.bounded;
    }

pub returns : goal.returns
returns c =
    let v = c.args.network.now.inputs.now in
    let a = c.args.network.now.area.now in
    let p = c.args.network.now.prefix in
    let sources = c.args.sources.now in
    let all = c.loop-source.invariant.offered c.loop-source.best (takes_past (λ (s : PrefixSource). KeyedStubs (ThisSource s) v a p) sources c.loop-source.source-index c.loop-source.best c.loop-source-test.false) in
    let stubs = takes_sources v a p sources c.args.best.now c.loop-source.best all in
    let found = subst (λ (past : List PrefixSource). FindsNearest (AmongSources past) a p c.loop-source.nearest) (take_all c.loop-source.source-index sources c.loop-source-test.false) (c.loop-source.invariant.found p) in
    on_ok_weaker c.offer_transit.result (takes_area a p (AmongSources sources) v c.args.best.now c.loop-source.best c.offer_transit.new.best stubs) (c.offer_transit.ensures sources p found)
