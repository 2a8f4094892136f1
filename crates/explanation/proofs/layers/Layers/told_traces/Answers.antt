use Rattle.std.proofs.Common.{◌≡◌, List, Some, sym, subst, inl}
use Rattle.std.specs.FinMap.{get}
use Rattle.std.proofs.lemmas.List.{get_or_default}
use Rattle.ospf_types.specs.declared.hop.Path.{Path}
use Rattle.ospf_types.specs.declared.key.Dest.TheVariants as dest
use Rattle.inter.specs.Inters.{InterValue}
use Rattle.explanation.specs.Giving.{AreOfEach}
use Rattle.explanation.specs.Outside.{GivesTold}
use Rattle.explanation.proofs.TraceLists.{all_each, more_each}
use Rattle.explanation.proofs.layers.Layers.told_traces.Goals as goal

pub loop-within-preserved : goal.loop-within-preserved
loop-within-preserved c =
    let withins = c.as_slice-within-items.result.now in
    more_each (GivesTold c.args.self c.in-Some-area.area c.args.offer.now c.args.paths.now) withins c.loop-within.within-index _ c.loop-within.traces.items c.push_told.new.traces.items c.loop-within-test.true
    (get_or_default withins c.loop-within.within-index _ _ c.loop-within-test.true) c.loop-within.invariant c.in_ok-push_told.ensures

pub returns : goal.returns
returns c =
    let o = c.args.offer.now in
    let gives = GivesTold c.args.self c.in-Some-area.area o c.args.paths.now in
    let found = subst (λ (i : InterValue). get i.entries (dest.Router o.source.key.router) ≡ Some c.in-Some.entry.now) c.inter.ensures (sym c.in-Some.ensures.value) in
    inl (
      c.in-Some.entry.now,
      c.in-Some-area.area,
      (found, c.in-Some-area.is),
      subst (λ (paths : List Path). AreOfEach gives paths c.loop-within.traces.items) c.as_slice-within-items.ensures.value
          (all_each gives c.as_slice-within-items.result.now c.loop-within.within-index c.loop-within.traces.items c.loop-within-test.false c.loop-within.invariant),
    )
