-- One network is set, or taken out.
use Rattle.std.proofs.Common.{◌≡◌, ◌≢◌, Option, Some, None, refl, sym, ap, ◌∙◌}
use Rattle.std.specs.BTreeMap.{is_at}
use Rattle.std.specs.FinMap.{get}
use Rattle.std.specs.Map.{lookup}
use Rattle.std.proofs.lemmas.Result.{on_ok_weaker}
use Rattle.active_ranges.specs.Active.{ActiveValue}
use Rattle.active_ranges.specs.Grouped.{IsPutIn, RangeNetworksValue, member_of, range_cmp}
use Rattle.active_ranges.specs.declared.member.RangeMember.{RangeMember}
use Rattle.active_ranges.proofs.Grouped.{cost_among, found, put_here, put_elsewhere}
use Rattle.active_ranges.proofs.Lists.{nothing_there}
use Rattle.active_ranges.proofs.active.ActiveRanges.put.Goals as goal

pub put_first-requires : goal.put_first-requires
put_first-requires c = record {
  none = λ p.
      let old = c.self.inside.ranges.entries in
      let none : lookup (is_at (range_cmp c.args.range)) old ≡ None = nothing_there (lookup (is_at (range_cmp c.args.range)) old) (sym c.contains_key.ensures ∙ c.if-not-contains_key.true) in
      ap (λ (v : ActiveValue). get v.members (member_of c.args.range p)) (sym c.self.view_is)
      ∙ found old c.self.inside.spent (member_of c.args.range p) ∙ ap (λ (o : Option RangeNetworksValue). cost_among o p) none;
}

pub returns-clause-here : goal.returns-clause-here
returns-clause-here c =
    let es = c.self.inside.ranges.entries in
    let spent = c.self.inside.spent in
    let new = c.put.new.self in
    let fs = (c.get_mut.follows.lender new).entries in
    let had = c.in-Some.networks.now in
    let stood : Some had ≡ lookup (is_at (range_cmp c.args.range)) es = c.in-Some.ensures.value in
    let outer = ((c.get_mut.follows.holds new).3 (rw (sym stood) refl)).0 in
    on_ok_weaker c.put.result
    (λ (inner : IsPutIn had c.args.network c.args.cost new). put_here es fs spent spent (member_of c.args.range c.args.network) c.args.cost (Some had) new (sym stood) outer inner) c.put.ensures

pub returns-clause-others : goal.returns-clause-others
returns-clause-others c =
    let es = c.self.inside.ranges.entries in
    let spent = c.self.inside.spent in
    let new = c.put.new.self in
    let fs = (c.get_mut.follows.lender new).entries in
    let had = c.in-Some.networks.now in
    let member = member_of c.args.range c.args.network in
    let stood : Some had ≡ lookup (is_at (range_cmp c.args.range)) es = c.in-Some.ensures.value in
    let outer = ((c.get_mut.follows.holds new).3 (rw (sym stood) refl)).0 in
    on_ok_weaker c.put.result
    (λ (inner : IsPutIn had c.args.network c.args.cost new) (m : RangeMember) (other : m ≢ member). put_elsewhere es fs spent spent member c.args.cost (Some had) new (sym stood) outer inner m other ∙ ap (λ (v : ActiveValue). get v.members m) c.self.view_is) c.put.ensures
