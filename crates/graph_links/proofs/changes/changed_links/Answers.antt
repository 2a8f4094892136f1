use Rattle.std.proofs.Common.{◌≡◌, ◌<◌, ◌++◌, ◌⊎◌, List, ap, length, sym, subst, ◌∙◌}
use Rattle.std.specs.Prelude.{◌↔◌, Contains}
use Rattle.std.specs.FinMap.{find}
use Rattle.ospf_types.specs.Vertices.{vertex_cmp}
use Rattle.graph_links.specs.declared.row_update.RowUpdate.{RowUpdate}
use Rattle.graph_links.specs.declared.link.GraphLink.{GraphLink}
use Rattle.graph_links.specs.Pairs.{AreApart}
use Rattle.graph_links.specs.Sides.{AreLinksOut, IsBrought, IsLinkRemoved, out_of}
use Rattle.graph_links.proofs.Apart.{apart_nil}
use Rattle.graph_links.proofs.Taking.{kept_apart, of_all, of_more, of_none}
use Rattle.graph_links.proofs.changes.changed_links.Goals as goal

pub loop-one-init : goal.loop-one-init
loop-one-init c = record {
  gone = of_none (IsLinkRemoved c.args.rows.now.entries) c.new.result.items c.new.ensures.items;
  came = of_none (IsBrought c.args.rows.now.entries) c.new-2.result.items c.new-2.ensures.items;
  gone_once = λ once. subst AreApart (sym c.new.ensures.items) apart_nil;
  came_once = λ once. subst AreApart (sym c.new-2.ensures.items) apart_nil;
}

pub list_changes-requires-clause-before : goal.list_changes-requires-clause-before
list_changes-requires-clause-before c =
    let f : RowUpdate = c.one-item.result in
    let is : c.out_links-before.result.now ≡ out_of (find vertex_cmp f.vertex c.args.rows.now.entries) = c.out_links-before.ensures ∙ ap out_of c.find_row.ensures in
    subst AreApart (sym is) (c.requires f (c.loop-one.one-index, c.loop-one-test.true, sym c.one-item.is)).0.0

pub list_changes-requires-clause-after : goal.list_changes-requires-clause-after
list_changes-requires-clause-after c =
    let f : RowUpdate = c.one-item.result in
    let is : c.out_links-after.result.now ≡ out_of f.row = c.out_links-after.ensures ∙ ap out_of c.as_ref.ensures.value in
    subst AreApart (sym is) (c.requires f (c.loop-one.one-index, c.loop-one-test.true, sym c.one-item.is)).1.0

pub loop-one-preserved : goal.loop-one-preserved
loop-one-preserved c =
    let rows = c.args.rows.now.entries in
    let fresh : List RowUpdate = c.args.fresh.now in
    let i = c.loop-one.one-index in
    let lt : i < length fresh = c.loop-one-test.true in
    let f : RowUpdate = c.one-item.result in
    let own = c.requires f (i, lt, sym c.one-item.is) in
    let before : c.out_links-before.result.now ≡ out_of (find vertex_cmp f.vertex rows) = c.out_links-before.ensures ∙ ap out_of c.find_row.ensures in
    let after : c.out_links-after.result.now ≡ out_of f.row = c.out_links-after.ensures ∙ ap out_of c.as_ref.ensures.value in
    let gone : List GraphLink = c.loop-one.changes.gone.items in
    let came : List GraphLink = c.loop-one.changes.came.items in
    let gone_new : List GraphLink = c.list_changes.new.changes.gone.items in
    let came_new : List GraphLink = c.list_changes.new.changes.came.items in
    let taken : (l : GraphLink) → Contains gone_new l ↔ (Contains gone l ⊎ IsLinkRemoved rows l f) =
    subst (λ (p : List GraphLink × List GraphLink). (l : GraphLink) → Contains gone_new l ↔ (Contains gone l ⊎ (Contains p.0 l × (Contains p.1 l → ⊥)))) (λ k. (before k, after k)) c.in_ok-list_changes.ensures.gone in
    let brought : (l : GraphLink) → Contains came_new l ↔ (Contains came l ⊎ IsBrought rows l f) =
    subst (λ (p : List GraphLink × List GraphLink). (l : GraphLink) → Contains came_new l ↔ (Contains came l ⊎ (Contains p.1 l × (Contains p.0 l → ⊥)))) (λ k. (before k, after k)) c.in_ok-list_changes.ensures.came in
    record {
      gone = of_more (IsLinkRemoved rows) fresh i f lt gone gone_new c.loop-one.invariant.gone (subst (λ (g : RowUpdate). (l : GraphLink) → Contains gone_new l ↔ (Contains gone l ⊎ IsLinkRemoved rows l g)) c.one-item.is taken);
      came = of_more (IsBrought rows) fresh i f lt came came_new c.loop-one.invariant.came (subst (λ (g : RowUpdate). (l : GraphLink) → Contains came_new l ↔ (Contains came l ⊎ IsBrought rows l g)) c.one-item.is brought);
      gone_once = λ once. c.in_ok-list_changes.ensures.gone_once
          (subst (λ (ls : List GraphLink). AreApart (gone ++ ls)) (sym before)
          (kept_apart (IsLinkRemoved rows) fresh (λ l g there is. (c.requires g there).0.1 l is.0) i f lt once gone (out_of (find vertex_cmp f.vertex rows)) c.loop-one.invariant.gone (subst (λ (g : RowUpdate). AreLinksOut g.vertex (out_of (find vertex_cmp f.vertex rows))) c.one-item.is own.0) (c.loop-one.invariant.gone_once once)));
      came_once = λ once. c.in_ok-list_changes.ensures.came_once
          (subst (λ (ls : List GraphLink). AreApart (came ++ ls)) (sym after)
          (kept_apart (IsBrought rows) fresh (λ l g there is. (c.requires g there).1.1 l is.0) i f lt once came (out_of f.row) c.loop-one.invariant.came (subst (λ (g : RowUpdate). AreLinksOut g.vertex (out_of f.row)) c.one-item.is own.1) (c.loop-one.invariant.came_once once)));
    }

pub returns-clause-gone : goal.returns-clause-gone
returns-clause-gone c = of_all (IsLinkRemoved c.args.rows.now.entries) c.args.fresh.now c.loop-one.one-index c.loop-one.changes.gone.items c.loop-one-test.false c.loop-one.invariant.gone

pub returns-clause-came : goal.returns-clause-came
returns-clause-came c = of_all (IsBrought c.args.rows.now.entries) c.args.fresh.now c.loop-one.one-index c.loop-one.changes.came.items c.loop-one-test.false c.loop-one.invariant.came

pub returns-clause-gone_once : goal.returns-clause-gone_once
returns-clause-gone_once c once = c.loop-one.invariant.gone_once once

pub returns-clause-came_once : goal.returns-clause-came_once
returns-clause-came_once c once = c.loop-one.invariant.came_once once
