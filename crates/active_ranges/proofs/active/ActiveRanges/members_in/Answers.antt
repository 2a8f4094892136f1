-- The networks of the range, as members.
use Rattle.std.proofs.Common.{◌≡◌, ℕ, List, [], map, sym, subst, ◌∙◌}
use Rattle.std.specs.Prelude.{◌↔◌, Contains}
use Rattle.std.specs.Map.{keys_of}
use Rattle.std.proofs.lemmas.Result.{IfOk-weaker}
use Rattle.active_ranges.specs.Active.{ActiveValue}
use Rattle.active_ranges.specs.Following.{IsMemberIn}
use Rattle.active_ranges.specs.Grouped.{member_of}
use Rattle.active_ranges.specs.declared.member.AreaRange.{AreaRange}
use Rattle.active_ranges.specs.declared.member.RangeMember.{RangeMember}
use Rattle.ospf_types.specs.declared.prefix.Prefix.{Prefix}
use Rattle.active_ranges.proofs.Placed.{map_keys}
use Rattle.active_ranges.proofs.Standing.{members_there, members_none}
use Rattle.active_ranges.proofs.active.ActiveRanges.members_in.Goals as goal

pub returns-in-Some : goal.returns-in-Some
returns-in-Some c =
    let range : AreaRange = record { prefix = c.args.range; area = c.args.area } in
    let networks = c.in-Some.networks.now in
    let there = subst (λ (v : ActiveValue). (m : RangeMember) → Contains (map (member_of range) (keys_of networks.entries)) m ↔ IsMemberIn v c.args.area c.args.range m) c.self.view_is
    (members_there c.self.inside.ranges.entries c.self.inside.spent c.args.area c.args.range networks c.in-Some.ensures.value) in
    IfOk-weaker c.as_members.result (λ made. made.items ≡ map (λ (e : Prefix × ℕ). member_of range e.0) networks.entries) (λ made. (m : RangeMember) → Contains made.items m ↔ IsMemberIn c.args.self.now c.args.area c.args.range m)
    (λ made are. subst (λ (ms : List RangeMember). (m : RangeMember) → Contains ms m ↔ IsMemberIn c.args.self.now c.args.area c.args.range m) (sym (are ∙ map_keys (member_of range) networks.entries)) there) c.as_members.ensures

pub returns-in-None : goal.returns-in-None
returns-in-None c = λ m.
    subst (λ (ms : List RangeMember). Contains ms m ↔ IsMemberIn c.args.self.now c.args.area c.args.range m) (sym c.new.ensures.items)
    (subst (λ (v : ActiveValue). Contains [] m ↔ IsMemberIn v c.args.area c.args.range m) c.self.view_is (members_none c.self.inside.ranges.entries c.self.inside.spent c.args.area c.args.range c.in-None.ensures.value m))
