-- All that may differ followed.
use Rattle.std.proofs.Common.{◌≡◌, List, map, subst, ◌∙◌}
use Rattle.std.specs.Prelude.{◌↔◌}
use Rattle.std.specs.List.{Contains}
use Rattle.ospf_types.specs.declared.prefix.Prefix.{Prefix}
use Rattle.active_ranges.specs.Following.{AreMembersFollowed, HasTurned}
use Rattle.active_ranges.specs.declared.active.Noted.{Noted}
use Rattle.active_ranges.specs.declared.member.RangeMember.{RangeMember}
use Rattle.active_ranges.proofs.Following.{ranges_followed, all_turned}
use Rattle.active_ranges.proofs.active.ActiveRanges.update_parts.Goals as goal

pub returns-clause-kept : goal.returns-clause-kept
returns-clause-kept c =
    let b = c.requires.before in
    let entries = c.args.intra.now.entries in
    let old = c.args.self.now in
    let new = c.follow.new.self in
    let followed = subst (λ (ms : List RangeMember). AreMembersFollowed entries ms old new) c.as_slice-3.ensures.value c.in_ok-follow.ensures in
    ranges_followed c.args.areas.now c.args.dests.now b.0 entries old new c.in_ok-named.named.items b.1 b.2 c.in_ok-named.ensures followed

pub returns-clause-exact : goal.returns-clause-exact
returns-clause-exact c =
    let entries = c.args.intra.now.entries in
    let old = c.args.self.now in
    let new = c.follow.new.self in
    let named = c.in_ok-named.named.items in
    let touched = c.in_ok-touched.touched.items in
    let turned = c.in_ok-turned.turned.items in
    let followed = subst (λ (ms : List RangeMember). AreMembersFollowed entries ms old new) c.as_slice-3.ensures.value c.in_ok-follow.ensures in
    let ranges = subst (λ (ms : List RangeMember). (p : Prefix) → Contains touched p ↔ Contains (map (λ (m : RangeMember). m.range) ms) p) c.as_slice.ensures.value c.in_ok-touched.ensures.exact in
    let exact = subst (λ (ns : List Noted). (p : Prefix) → Contains turned p ↔ ((n : Noted) × Contains ns n × (n.prefix ≡ p) × HasTurned new n)) c.as_slice-4.ensures.value c.in_ok-turned.ensures.exact in
    all_turned entries old new named followed touched ranges c.in_ok-noted.noted.items (c.in_ok-noted.ensures.listed ∙ c.as_slice-2.ensures.value) c.in_ok-noted.ensures.exact turned exact
