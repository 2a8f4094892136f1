-- All keys were added at the end, each with the scope.
use Rattle.std.proofs.Common.{◌≡◌, ◌≤◌, ◌++◌, List, length, map, take, sym, ap, subst, ◌∙◌}
use Rattle.std.specs.List.{Contains}
use Rattle.std.proofs.lemmas.List.{take_all}
use Rattle.std.proofs.lemmas.List.Elements.{Contains-append_left, Contains-append_right}
use Rattle.ospf_types.specs.declared.key.Key.{Key}
use Rattle.ospf_types.specs.declared.key.Scope.{Scope}
use Rattle.ospf_types.specs.declared.key.Scope.TheVariants.{Area}
use Rattle.ospf_types.proofs.Elements.{mapped_element}
use Rattle.intra.proofs.intra.push_keys.Goals as goal

pub returns-clause-kept : goal.returns-clause-kept
returns-clause-kept c = λ named there.
    subst (λ (ks : List (Scope × Key)). Contains ks named) (sym c.loop-key.invariant) (Contains-append_left c.args.keys.now.items _ named there)

pub returns-clause-all : goal.returns-clause-all
returns-clause-all c = λ key some.
    let order = c.args.database.now.order in
    let scoped : Key → Scope × Key = λ k. (Area c.args.area, k) in
    let listed = c.keys-key-items.ensures in
    let past = subst (λ (ks : List Key). length ks ≤ c.loop-key.key-index) listed.value c.loop-key-test.false in
    let all : take c.loop-key.key-index order ≡ order = take_all c.loop-key.key-index order past in
    let added = c.loop-key.invariant ∙ ap (λ (ks : List Key). c.args.keys.now.items ++ map scoped ks) all in
    let there = mapped_element scoped order key ((listed.ordered.there key).1 some) in
    subst (λ (ks : List (Scope × Key)). Contains ks (Area c.args.area, key)) (sym added) (Contains-append_right c.args.keys.now.items (map scoped order) (Area c.args.area, key) there)
