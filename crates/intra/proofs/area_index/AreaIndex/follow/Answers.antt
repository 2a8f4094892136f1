use Rattle.std.proofs.Common.{◌≡◌, List, Option, sym, ap, subst, ◌∙◌}
use Rattle.std.specs.FinMap.{get}
use Rattle.ospf_types.specs.Lsa.{Body}
use Rattle.area_trees.specs.Areas.{IsStanding}
use Rattle.intra.specs.declared.offered.OfferedPrefix.{OfferedPrefix}
use Rattle.intra.specs.Indexes.{OfferedByVertex, OfferedValue, IsOfferedFor, offers_of}
use Rattle.intra.specs.IndexSteps.{AreAlike}
use Rattle.intra.specs.Inputs.{AreaValue}
use Rattle.ospf_types.proofs.VertexOrder.{vertex_total, vertex_exact}
use Rattle.route_choice.proofs.KeyedMaps.{set_here, set_elsewhere, gone_here, gone_elsewhere}
use Rattle.intra.proofs.IndexSteps.{touched_by, taken_from}
use Rattle.intra.proofs.area_index.AreaIndex.follow.Goals as goal

pub put_in-requires-clause-absent : goal.put_in-requires-clause-absent
put_in-requires-clause-absent c =
    ap (λ (m : OfferedByVertex). get m c.args.vertex) c.take_out-gone.ensures.offered ∙ gone_here vertex_total c.args.self.now.offered c.args.vertex

pub returns-in-Some-clause-taken : goal.returns-in-Some-clause-taken
returns-in-Some-clause-taken c =
    let v = c.args.vertex in
    let now : get c.put_in.new.self.offered v ≡ c.in_ok-fresh.fresh =
    ap (λ (m : OfferedByVertex). get m v) c.in_ok-put_in-in-Some.ensures.offered ∙ set_here vertex_total c.take_out-gone.new.self.offered v c.in-Some.fresh ∙ sym c.in-Some.is in
    let was = taken_from c.args.area.now.lsas _ v c.lsa_for_vertex-standing.result c.in_ok-fresh.fresh (ap (λ (a : AreaValue). a.lsas) c.area.view_is) c.lsa_for_vertex-standing.ensures.body c.in_ok-fresh.ensures in
    subst (λ (o : Option OfferedValue). (body : Option Body) × IsStanding c.args.area.now.lsas v body × IsOfferedFor v body o) (sym now) was

pub returns-in-Some-clause-others : goal.returns-in-Some-clause-others
returns-in-Some-clause-others c = λ w other.
    let v = c.args.vertex in
    ap (λ (m : OfferedByVertex). get m w) c.in_ok-put_in-in-Some.ensures.offered ∙ set_elsewhere vertex_total vertex_exact c.take_out-gone.new.self.offered v w c.in-Some.fresh other
    ∙ ap (λ (m : OfferedByVertex). get m w) c.take_out-gone.ensures.offered ∙ gone_elsewhere vertex_total vertex_exact c.args.self.now.offered v w other

pub returns-in-Some-clause-touched : goal.returns-in-Some-clause-touched
returns-in-Some-clause-touched c =
    let v = c.args.vertex in
    let now : get c.put_in.new.self.offered v ≡ c.in_ok-fresh.fresh =
    ap (λ (m : OfferedByVertex). get m v) c.in_ok-put_in-in-Some.ensures.offered ∙ set_here vertex_total c.take_out-gone.new.self.offered v c.in-Some.fresh ∙ sym c.in-Some.is in
    let after = c.name_differing.new.dirty.items in
    let one : c.listed.result.now ≡ offers_of (get c.args.self.now.offered v) = c.listed.ensures ∙ ap offers_of (c.as_ref-2.ensures.value ∙ c.take_out-gone.ensures.value) in
    let other : c.listed-2.result.now ≡ offers_of (get c.put_in.new.self.offered v) = c.listed-2.ensures ∙ ap offers_of (c.as_ref-3.ensures.value ∙ sym now) in
    touched_by c.args.self.now c.put_in.new.self v c.args.dirty.now.items after c.requires.index c.in_ok-put_in-in-Some.ensures.index (returns-in-Some-clause-others c) c.in_ok-name_differing.ensures.kept
    (subst (λ (os : List OfferedPrefix). AreAlike after os (offers_of (get c.put_in.new.self.offered v))) one (subst (λ (os : List OfferedPrefix). AreAlike after c.listed.result.now os) other c.in_ok-name_differing.ensures.alike))

pub returns-clause-taken : goal.returns-clause-taken
returns-clause-taken c =
    let v = c.args.vertex in
    let now : get c.take_out-gone.new.self.offered v ≡ c.in_ok-fresh.fresh =
    ap (λ (m : OfferedByVertex). get m v) c.take_out-gone.ensures.offered ∙ gone_here vertex_total c.args.self.now.offered v ∙ sym c.in-None.is in
    let was = taken_from c.args.area.now.lsas _ v c.lsa_for_vertex-standing.result c.in_ok-fresh.fresh (ap (λ (a : AreaValue). a.lsas) c.area.view_is) c.lsa_for_vertex-standing.ensures.body c.in_ok-fresh.ensures in
    subst (λ (o : Option OfferedValue). (body : Option Body) × IsStanding c.args.area.now.lsas v body × IsOfferedFor v body o) (sym now) was

pub returns-clause-others : goal.returns-clause-others
returns-clause-others c = λ w other.
    let v = c.args.vertex in
    ap (λ (m : OfferedByVertex). get m w) c.take_out-gone.ensures.offered ∙ gone_elsewhere vertex_total vertex_exact c.args.self.now.offered v w other

pub returns-clause-touched : goal.returns-clause-touched
returns-clause-touched c =
    let v = c.args.vertex in
    let now : get c.take_out-gone.new.self.offered v ≡ c.in_ok-fresh.fresh =
    ap (λ (m : OfferedByVertex). get m v) c.take_out-gone.ensures.offered ∙ gone_here vertex_total c.args.self.now.offered v ∙ sym c.in-None.is in
    let after = c.name_differing.new.dirty.items in
    let one : c.listed.result.now ≡ offers_of (get c.args.self.now.offered v) = c.listed.ensures ∙ ap offers_of (c.as_ref-2.ensures.value ∙ c.take_out-gone.ensures.value) in
    let other : c.listed-2.result.now ≡ offers_of (get c.take_out-gone.new.self.offered v) = c.listed-2.ensures ∙ ap offers_of (c.as_ref-3.ensures.value ∙ sym now) in
    touched_by c.args.self.now c.take_out-gone.new.self v c.args.dirty.now.items after c.requires.index c.take_out-gone.ensures.index (returns-clause-others c) c.in_ok-name_differing.ensures.kept
    (subst (λ (os : List OfferedPrefix). AreAlike after os (offers_of (get c.take_out-gone.new.self.offered v))) one (subst (λ (os : List OfferedPrefix). AreAlike after c.listed.result.now os) other c.in_ok-name_differing.ensures.alike))
