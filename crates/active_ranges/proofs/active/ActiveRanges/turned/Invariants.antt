-- So far the prefixes of notes up to here are reported, where something has turned.
use Rattle.std.proofs.Common.{[], take, drop, map}
use Rattle.ospf_types.specs.Network.{network_cmp}
use Rattle.route_choice.specs.Lists.{IsOfSome}
use Rattle.active_ranges.specs.Following.{HasMore}
use Rattle.active_ranges.specs.declared.active.Noted.{Noted}
use Rattle.active_ranges.proofs.Ascending.{IsAscending}
use Rattle.active_ranges.proofs.Turning.{HasTurnedAt}
use Rattle.active_ranges.proofs.active.ActiveRanges.turned.Given as goal

abbrev pub invariant-loop-note : goal.invariant-loop-note
invariant-loop-note l = record {
  in_order : IsAscending network_cmp l.prefixes.items (map (λ (n : Noted). n.prefix) (drop l.note-index l.noted));
  exact : HasMore (IsOfSome (take l.note-index l.noted) (HasTurnedAt l.self)) [] l.prefixes.items;
}
