use Rattle.std.proofs.Common.{◌≡◌, ◌+◌, List, None, Some, get_or, take, map, refl, sym, subst}
use Rattle.std.specs.List.{All}
use Rattle.std.proofs.lemmas.List.Elements.{All-push, Contains-get_or}
use Rattle.ospf_types.specs.declared.entry.Vertex.TheVariants.{Router}
use Rattle.area_drawings.specs.declared.reached.ReachedVertex.{ReachedVertex}
use Rattle.area_drawings.specs.declared.stands.Stand.{Stand}
use Rattle.area_drawings.specs.Columns.{column_of}
use Rattle.area_drawings.specs.Places.{IsInColumn, IsStandChain}
use Rattle.area_drawings.proofs.Runs.{run_push, in_places, has_rows, reached_push}
use Rattle.area_drawings.proofs.stands.place_all.Goals as goal

pub next_stand-requires : goal.next_stand-requires
next_stand-requires c =
    let blank : ReachedVertex = record { vertex = Router 0; distance = 0 } in
    let r = get_or c.args.ordered.now c.loop-reached.reached-index blank in
    (c.requires (column_of r)).1 (r, Contains-get_or c.args.ordered.now c.loop-reached.reached-index blank c.loop-reached-test.true, refl)

pub loop-reached-preserved : goal.loop-reached-preserved
loop-reached-preserved c =
    let blank : ReachedVertex = record { vertex = Router 0; distance = 0 } in
    let before = c.loop-reached.stands.items in
    let s = c.in_ok-stand.stand in
    let columns = c.args.columns.now in
    subst
    (λ (ss : List Stand). (map (λ t. t.reached) ss ≡ take (c.loop-reached.reached-index + 1) c.args.ordered.now) × All (IsInColumn columns) ss × IsStandChain None ss (Some s))
    (sym c.in_ok-push.ensures.items) (
      reached_push before s c.args.ordered.now c.loop-reached.reached-index blank c.loop-reached-test.true c.loop-reached.invariant.0 c.in_ok-stand.ensures.vertex,
      All-push (IsInColumn columns) before s c.loop-reached.invariant.1 c.in_ok-stand.ensures.column,
      run_push None before c.loop-reached.last s c.loop-reached.invariant.2 c.in_ok-stand.ensures.next,
    )

pub returns-clause-places : goal.returns-clause-places
returns-clause-places c = in_places None c.loop-reached.stands.items c.loop-reached.last c.loop-reached.invariant.2

pub returns-clause-rows : goal.returns-clause-rows
returns-clause-rows c = has_rows c.loop-reached.stands.items c.loop-reached.last c.in_ok-rows.rows c.loop-reached.invariant.2 c.in_ok-rows.ensures
