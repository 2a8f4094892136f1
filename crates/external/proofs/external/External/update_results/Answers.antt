-- The results that are not due stay; then all results are chosen, and those that differ are
-- reported.
use Rattle.std.proofs.Common.{◌≡◌, ◌++◌, ℕ, List, map, sym, subst, ◌∙◌}
use Rattle.std.specs.Prelude.{◌↔◌}
use Rattle.std.specs.FinMap.{from_entries, get}
use Rattle.std.specs.List.{Contains}
use Rattle.std.specs.List.Sorted.{IsStrictlySortedBy}
use Rattle.ospf_types.specs.declared.key.Dest.{Dest}
use Rattle.ospf_types.specs.declared.key.Dest.TheVariants.{Net, Router}
use Rattle.ospf_types.specs.declared.prefix.Prefix.{Prefix}
use Rattle.ospf_types.specs.Keys.{dest_cmp}
use Rattle.advertised_index.specs.Indexes.{ChangedOffersValue}
use Rattle.route_choice.specs.Lists.{HasMore, IsOfSome}
use Rattle.route_choice.proofs.Among.{dests_sorted, networks_among, routers_among}
use Rattle.external.specs.Changes.{DiffersAt}
use Rattle.external.specs.Externals.{ExternalValue}
use Rattle.external.specs.Updating.{IsLedBy, IsLedByAddress, StandsBut}
use Rattle.external.specs.contracts.external.External.{the_view}
use Rattle.external.proofs.Updating.{entry_stands, entry_listed, exactly}
use Rattle.external.proofs.external.External.update_results.Goals as goal

pub follow-requires : goal.follow-requires
follow-requires c = λ r absent.
    let v = c.args.inputs.now in
    let dests = c.args.dests.now in
    let affected : ChangedOffersValue = record { dests = c.affected.inside.dests.items; addresses = c.affected.inside.addresses.items } in
    let old : ExternalValue = the_view c.self.inside in
    let stands : StandsBut v dests affected old = subst (λ (w : ExternalValue). StandsBut v dests affected w) (sym c.self.view_is) (subst (λ (a : ChangedOffersValue). StandsBut v dests a c.args.self.now) (sym c.affected.view_is) c.requires) in
    stands.preferred r (λ there. absent (subst (λ (rs : List ℕ). Contains rs r) (sym c.in_ok-named.ensures) ((routers_among dests r).1 there)))

pub update_forwards-requires : goal.update_forwards-requires
update_forwards-requires c = λ a not_due.
    let v = c.args.inputs.now in
    let dests = c.args.dests.now in
    let affected : ChangedOffersValue = record { dests = c.affected.inside.dests.items; addresses = c.affected.inside.addresses.items } in
    let old : ExternalValue = the_view c.self.inside in
    let stands : StandsBut v dests affected old = subst (λ (w : ExternalValue). StandsBut v dests affected w) (sym c.self.view_is) (subst (λ (a : ChangedOffersValue). StandsBut v dests a c.args.self.now) (sym c.affected.view_is) c.requires) in
    stands.forwards a not_due

pub follow-requires-2 : goal.follow-requires-2
follow-requires-2 c = λ p absent.
    let v = c.args.inputs.now in
    let dests = c.args.dests.now in
    let affected : ChangedOffersValue = record { dests = c.affected.inside.dests.items; addresses = c.affected.inside.addresses.items } in
    let old : ExternalValue = the_view c.self.inside in
    let stands : StandsBut v dests affected old = subst (λ (w : ExternalValue). StandsBut v dests affected w) (sym c.self.view_is) (subst (λ (a : ChangedOffersValue). StandsBut v dests a c.args.self.now) (sym c.affected.view_is) c.requires) in
    let by_routers = c.list_dests_by_routers.new.dests.items in
    let led = c.list_dests_by_addresses.new.dests.items in
    let leading = c.list_dests_led_to.new.leading.items in
    let first = subst (λ (ns : List ℕ). HasMore (IsOfSome ns (IsLedBy old.index)) affected.dests by_routers) c.deref.ensures.value c.in_ok-list_dests_by_routers.ensures in
    let second = subst (λ (ns : List ℕ). HasMore (IsOfSome ns (IsLedByAddress old.index)) by_routers led) c.deref-2.ensures.value c.in_ok-list_dests_by_addresses.ensures in
    entry_stands v dests affected old (from_entries c.follow.new.self.entries) (from_entries c.update_forwards.new.forwards.entries) c.in_ok-routers.routers.items c.in_ok-moved.moved.items
    by_routers led leading stands c.in_ok-routers.ensures.exact c.in_ok-moved.ensures.exact first second c.in_ok-list_dests_led_to.ensures p
    (λ there. absent (subst (λ (ps : List Prefix). Contains ps p) (sym c.in_ok-due.ensures) ((networks_among c.deref-3.result.now p).1 (subst (λ (ds : List Dest). Contains ds (Net p)) (sym c.deref-3.ensures.value) there))))

pub returns : goal.returns
returns c =
    let v = c.args.inputs.now in
    let dests = c.args.dests.now in
    let affected : ChangedOffersValue = record { dests = c.affected.inside.dests.items; addresses = c.affected.inside.addresses.items } in
    let old : ExternalValue = the_view c.self.inside in
    let stands : StandsBut v dests affected old = subst (λ (w : ExternalValue). StandsBut v dests affected w) (sym c.self.view_is) (subst (λ (a : ChangedOffersValue). StandsBut v dests a c.args.self.now) (sym c.affected.view_is) c.requires) in
    let new : ExternalValue = the_view (record c.self.inside { preferred = c.follow.new.self; forwards = c.update_forwards.new.forwards; entries = c.follow-2.new.self }) in
    let routers = c.in_ok-routers.routers.items in
    let networks = c.in_ok-networks.networks.items in
    let all : c.in_ok-others.others.items ≡ map Net networks ++ map Router routers = c.in_ok-others.ensures ∙ (λ i. map Net (c.deref-4.ensures.value i) ++ map Router (c.deref-5.ensures.value i)) in
    record {
      kept = record {
        fresh = stands.fresh;
        index = stands.index;
        preferred = c.in_ok-routers.ensures.chosen;
        forwards = c.in_ok-moved.ensures.chosen;
        entries = λ p. entry_listed v old.index stands.index new.preferred new.forwards p (get new.entries p) (c.in_ok-networks.ensures.chosen p);
      };
      in_order = subst (IsStrictlySortedBy dest_cmp) (sym all) (dests_sorted networks routers c.in_ok-networks.ensures.in_order c.in_ok-routers.ensures.in_order);
      exact = λ d.
          subst (λ (ds : List Dest). Contains ds d ↔ DiffersAt c.args.self.now new d) (sym all)
          (subst (λ (w : ExternalValue). Contains (map Net networks ++ map Router routers) d ↔ DiffersAt w new d) c.self.view_is (exactly old new networks routers c.in_ok-networks.ensures.exact c.in_ok-routers.ensures.exact d));
    }
