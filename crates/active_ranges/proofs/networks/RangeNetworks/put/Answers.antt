-- The edit at the network's place.
use Rattle.std.proofs.Common.{ap}
use Rattle.active_ranges.specs.Grouped.{RangeNetworksValue}
use Rattle.active_ranges.proofs.Placed.{removed, stayed, written, inserted}
use Rattle.active_ranges.proofs.networks.RangeNetworks.put.Goals as goal

pub invariant_of-self : goal.invariant_of-self
invariant_of-self c =
    let same = ap (λ (n : RangeNetworksValue). n.entries) c.self.view_is in
    (removed _ _ same c.self.invariant c.args.network c.args.cost c.in_default.is c.in-Ok.at c.in-Ok.ensures.found _ c.remove.ensures.items).in_order

pub returns-in-Ok : goal.returns-in-Ok
returns-in-Ok c =
    let same = ap (λ (n : RangeNetworksValue). n.entries) c.self.view_is in
    (removed _ _ same c.self.invariant c.args.network c.args.cost c.in_default.is c.in-Ok.at c.in-Ok.ensures.found _ c.remove.ensures.items).put

pub returns-in_default-place : goal.returns-in_default-place
returns-in_default-place c =
    let same = ap (λ (n : RangeNetworksValue). n.entries) c.self.view_is in
    (stayed _ _ same c.self.invariant c.args.network c.args.cost c.in_default.is c.in_default-place.field-0 c.in_default-place.ensures.absent).put

pub invariant_of-self-in-Ok-place : goal.invariant_of-self-in-Ok-place
invariant_of-self-in-Ok-place c =
    let same = ap (λ (n : RangeNetworksValue). n.entries) c.self.view_is in
    (written _ _ same c.self.invariant c.args.network c.args.cost c.in-Some.cost c.in-Some.is c.in-Ok-place.at c.in-Ok-place.ensures.found).in_order

pub invariant_of-self-in-Continue-1 : goal.invariant_of-self-in-Continue-1
invariant_of-self-in-Continue-1 c =
    let same = ap (λ (n : RangeNetworksValue). n.entries) c.self.view_is in
    (inserted _ _ same c.self.invariant c.args.network c.args.cost c.in-Some.cost c.in-Some.is c.in-Err.at c.in-Err.ensures.absent _ c.in_ok-insert-in-Err.ensures.items).in_order

pub returns-in-Ok-place : goal.returns-in-Ok-place
returns-in-Ok-place c =
    let same = ap (λ (n : RangeNetworksValue). n.entries) c.self.view_is in
    (written _ _ same c.self.invariant c.args.network c.args.cost c.in-Some.cost c.in-Some.is c.in-Ok-place.at c.in-Ok-place.ensures.found).put

pub returns-in_ok-insert-in-Err : goal.returns-in_ok-insert-in-Err
returns-in_ok-insert-in-Err c =
    let same = ap (λ (n : RangeNetworksValue). n.entries) c.self.view_is in
    (inserted _ _ same c.self.invariant c.args.network c.args.cost c.in-Some.cost c.in-Some.is c.in-Err.at c.in-Err.ensures.absent _ c.in_ok-insert-in-Err.ensures.items).put
