use Rattle.std.proofs.Common.{◌≡◌, List, subst, sym}
use Rattle.std.specs.Prelude.{Contains}
use Rattle.ospf_types.specs.declared.key.Key.{Key}
use Rattle.advertised_index.specs.Indexes.{IsInGroup}
use Rattle.advertised_index.proofs.Groups.{Member, not_after_itself, neither_after}
use Rattle.advertised_index.proofs.Gathering.{GivesDest, listed_there, listed_of, one_gathered, dests_given}
use Rattle.advertised_index.proofs.index.AdvertisedIndex.list_dests.Goals as goal

pub returns : goal.returns
returns c =
    let i = c.args.self.now in
    let group = c.args.group in
    let all = c.into_iter-key-iterator.result in
    let given : all ≡ c.among-key-items.result = c.into_iter-key-iterator.ensures.into_iter_gives in
    let there : (k : Key) → IsInGroup i group k → Contains all (group, k) =
    λ k in_group.
    let listed = listed_there _ c.self.inside.members i c.self.view_is c.self.invariant group k in_group in
    subst (λ (ms : List Member). Contains ms (group, k)) (sym given) (c.among-key-items.ensures.all (group, k) listed (not_after_itself group) (not_after_itself group)) in
    let only : (m : Member) → Contains all m → IsInGroup i group m.1 =
    λ m has.
    let found = c.among-key-items.ensures.only m (subst (λ (ms : List Member). Contains ms m) given has) in
    listed_of _ c.self.inside.members i c.self.view_is c.self.invariant group m (neither_after group m.0 found.1 found.2) found.0 in
    dests_given i group all there only c.args.dests.now.items c.loop-key.dests.items c.loop-key.key-iterator c.in-None.ensures.steps.0 c.loop-key.invariant

pub loop-key-preserved : goal.loop-key-preserved
loop-key-preserved c =
    one_gathered (GivesDest c.args.self.now) c.args.dests.now.items c.loop-key.dests.items c.list_dest.new.dests.items c.into_iter-key-iterator.result c.loop-key.key-iterator c.next.new.self c.in-Some.field-0.now c.in-Some.ensures.steps c.loop-key.invariant c.in_ok-list_dest.ensures
