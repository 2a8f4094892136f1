use Rattle.std.proofs.Common.{◌<◌, ◌^◌, true, false, List, subst, sym}
use Rattle.std.specs.List.{All}
use Rattle.std.proofs.lemmas.Map.Views.{All-insert_key, All-remove_key}
use Rattle.area_trees.specs.Areas.{IsUsed}
use Rattle.area_trees.specs.declared.networks.NetworkLsa.{NetworkLsa}
use Rattle.area_trees.proofs.NetworkSets.{lsa_cmp, updated_own, updated_others}
use Rattle.area_trees.proofs.networks.NetworkLsas.follow_key.Goals as goal

pub returns-in_ok-insert-clause-own : goal.returns-in_ok-insert-clause-own
returns-in_ok-insert-clause-own c =
    let k = c.args.key in
    λ kind. updated_own c.self.inside.lsas c.insert.new.self k.id k.router c.of-lsa.result c.of-lsa.ensures.value true c.in_ok-insert.ensures.updates c.is_usable.result (IsUsed c.args.database.now.lsas k) c.if-is_usable.true c.is_usable.ensures

pub returns-in_ok-insert-clause-others : goal.returns-in_ok-insert-clause-others
returns-in_ok-insert-clause-others c =
    let k = c.args.key in
    λ id router apart. updated_others c.self.inside.lsas c.insert.new.self k.id k.router c.of-lsa.result c.of-lsa.ensures.value true c.in_ok-insert.ensures.updates c.args.self.now c.self.view_is id router (λ h. apart (c.if-key-ne-NETWORK_LSA.false, h.0, h.1))

pub returns-else-is_usable-clause-own : goal.returns-else-is_usable-clause-own
returns-else-is_usable-clause-own c =
    let k = c.args.key in
    λ kind. updated_own c.self.inside.lsas c.remove.new.self k.id k.router c.of-lsa.result c.of-lsa.ensures.value false c.remove.ensures.updates c.is_usable.result (IsUsed c.args.database.now.lsas k) c.if-is_usable.false c.is_usable.ensures

pub returns-else-is_usable-clause-others : goal.returns-else-is_usable-clause-others
returns-else-is_usable-clause-others c =
    let k = c.args.key in
    λ id router apart. updated_others c.self.inside.lsas c.remove.new.self k.id k.router c.of-lsa.result c.of-lsa.ensures.value false c.remove.ensures.updates c.args.self.now c.self.view_is id router (λ h. apart (c.if-key-ne-NETWORK_LSA.false, h.0, h.1))

pub invariant_of-self : goal.invariant_of-self
invariant_of-self c =
    subst (λ (ks : List NetworkLsa). All (λ (l : NetworkLsa). l.router < 2 ^ 32) ks) (sym c.in_ok-insert.ensures.keys)
    (All-insert_key lsa_cmp c.of-lsa.result (λ (l : NetworkLsa). l.router < 2 ^ 32) c.self.inside.lsas.keys c.self.invariant c.of-lsa.ensures.small)

pub invariant_of-self-else-is_usable : goal.invariant_of-self-else-is_usable
invariant_of-self-else-is_usable c =
    subst (λ (ks : List NetworkLsa). All (λ (l : NetworkLsa). l.router < 2 ^ 32) ks) (sym c.remove.ensures.keys) (All-remove_key _ (λ (l : NetworkLsa). l.router < 2 ^ 32) c.self.inside.lsas.keys c.self.invariant)
