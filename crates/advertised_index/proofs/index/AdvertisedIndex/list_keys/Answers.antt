use Rattle.std.proofs.Common.{◌≡◌, ◌≢◌, ◌++◌, [], ◌∷◌, List, map, sym, ap, subst, ◌∙◌}
use Rattle.std.specs.List.{AllPairs}
use Rattle.std.specs.Prelude.{Contains}
use Rattle.std.proofs.lemmas.List.{append-nil, append_assoc}
use Rattle.ospf_types.specs.declared.key.Key.{Key}
use Rattle.advertised_index.specs.Indexes.{IsInGroup}
use Rattle.advertised_index.proofs.Groups.{Member, not_after_itself, neither_after}
use Rattle.advertised_index.proofs.Gathering.{listed_there, listed_of, keys_given, keys_apart}
use Rattle.advertised_index.proofs.index.AdvertisedIndex.list_keys.Goals as goal

pub loop-key-preserved : goal.loop-key-preserved
loop-key-preserved c =
    let keys = c.loop-key.keys.items in
    let key : Key = c.in-Some.field-0.now.1 in
    let more : List Key = map (λ (m : Member). m.1) c.next.new.self in
    ap (λ (ks : List Key). ks ++ more) c.in_ok-push.ensures.items ∙ append_assoc keys (key ∷ []) more
    ∙ ap (λ (ms : List Member). keys ++ map (λ (m : Member). m.1) ms) (sym c.in-Some.ensures.steps) ∙ c.loop-key.invariant

pub returns-clause-exact : goal.returns-clause-exact
returns-clause-exact c =
    let i = c.args.self.now in
    let group = c.args.group in
    let all = c.into_iter-key-iterator.result in
    let given : all ≡ c.among-key-items.result = c.into_iter-key-iterator.ensures.into_iter_gives in
    let there : (k : Key) → IsInGroup i group k → Contains all (group, k) =
    λ k in_group.
    let listed = listed_there _ c.self.inside.members i c.self.view_is c.self.invariant group k in_group in
    subst (λ (ms : List Member). Contains ms (group, k)) (sym given) (c.among-key-items.ensures.all (group, k) listed (not_after_itself group) (not_after_itself group)) in
    let only : (m : Member) → Contains all m → IsInGroup i group m.1 =
    λ m has.
    let found = c.among-key-items.ensures.only m (subst (λ (ms : List Member). Contains ms m) given has) in
    listed_of _ c.self.inside.members i c.self.view_is c.self.invariant group m (neither_after group m.0 found.1 found.2) found.0 in
    let none : map (λ (m : Member). m.1) c.loop-key.key-iterator ≡ [] = ap (map (λ (m : Member). m.1)) c.in-None.ensures.steps.0 in
    keys_given i group all there only c.args.keys.now.items c.loop-key.keys.items
    (sym (append-nil c.loop-key.keys.items) ∙ ap (λ (ks : List Key). c.loop-key.keys.items ++ ks) (sym none) ∙ c.loop-key.invariant)

pub returns-clause-each_once : goal.returns-clause-each_once
returns-clause-each_once c =
    let group = c.args.group in
    let all = c.into_iter-key-iterator.result in
    let given : all ≡ c.among-key-items.result = c.into_iter-key-iterator.ensures.into_iter_gives in
    let in_group : (m : Member) → Contains all m → m.0 ≡ group =
    λ m has. let found = c.among-key-items.ensures.only m (subst (λ (ms : List Member). Contains ms m) given has) in neither_after group m.0 found.1 found.2 in
    let none : map (λ (m : Member). m.1) c.loop-key.key-iterator ≡ [] = ap (map (λ (m : Member). m.1)) c.in-None.ensures.steps.0 in (
      map (λ (m : Member). m.1) all,
      sym (append-nil c.loop-key.keys.items) ∙ ap (λ (ks : List Key). c.loop-key.keys.items ++ ks) (sym none) ∙ c.loop-key.invariant,
      keys_apart group all in_group (subst (λ (ms : List Member). AllPairs (λ m n. m ≢ n) ms) (sym given) c.among-key-items.ensures.each_once),
    )
