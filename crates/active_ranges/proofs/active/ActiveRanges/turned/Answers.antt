-- One note more.
use Rattle.std.proofs.Common.{List, [], map, sym, subst}
use Rattle.ospf_types.specs.declared.prefix.Prefix.{Prefix}
use Rattle.ospf_types.specs.Network.{network_cmp}
use Rattle.route_choice.specs.Lists.{IsOfSome}
use Rattle.active_ranges.specs.Following.{HasMore}
use Rattle.active_ranges.specs.declared.active.Noted.{Noted}
use Rattle.active_ranges.proofs.Ascending.{IsAscending, ascending_none}
use Rattle.route_choice.proofs.Adding.{more_first}
use Rattle.active_ranges.proofs.Turning.{HasTurnedAt, ascending_told, exact_told, all_told}
use Rattle.active_ranges.proofs.active.ActiveRanges.turned.Goals as goal

pub loop-note-init : goal.loop-note-init
loop-note-init c =
    let P = HasTurnedAt c.args.self.now in
    let left = map (λ (n : Noted). n.prefix) c.args.noted.now in
    record {
      in_order = subst (λ (ps : List Prefix). IsAscending network_cmp ps left) (sym c.new-prefixes.ensures.items) (ascending_none network_cmp left c.requires);
      exact = subst (λ (ps : List Prefix). HasMore (IsOfSome [] P) [] ps) (sym c.new-prefixes.ensures.items) (more_first P []);
    }

pub loop-note-preserved : goal.loop-note-preserved
loop-note-preserved c =
    let v = c.args.self.now in
    let noted = c.args.noted.now in
    let i = c.loop-note.note-index in
    let n = c.note-item.result in
    let before = c.loop-note.prefixes.items in
    let after = c.push_turned.new.prefixes.items in
    record {
      in_order = ascending_told v noted i n c.loop-note-test.true c.note-item.is before after c.in_ok-push_turned.ensures c.loop-note.invariant.in_order;
      exact = exact_told v noted i n c.loop-note-test.true c.note-item.is before after c.in_ok-push_turned.ensures c.loop-note.invariant.exact;
    }

pub returns-clause-exact : goal.returns-clause-exact
returns-clause-exact c = all_told c.args.self.now c.args.noted.now c.loop-note.note-index c.loop-note.prefixes.items c.loop-note-test.false c.loop-note.invariant.exact
