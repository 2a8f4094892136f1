-- The keys of the entries are those that have a result, and none occurs twice.
use Rattle.std.proofs.Common.{◌≡◌, ◌≢◌, ◌∙◌, List, subst, sym}
use Rattle.std.specs.Prelude.{◌↔◌, Contains, IsSome}
use Rattle.std.specs.List.{AllPairs}
use Rattle.std.specs.Map.{keys_of}
use Rattle.std.proofs.lemmas.Map.Made.{AllPairs-from_IsDistinct}
use Rattle.route_choice.specs.Results.{Results, result_at}
use Rattle.route_choice.proofs.KeyedMaps.{keys_there}
use Rattle.route_choice.proofs.KeyLaws.{key_order, decided}
use Rattle.route_choice.proofs.results.ResultMap.key_slice.Goals as goal

pub returns-clause-exact : goal.returns-clause-exact
returns-clause-exact g c k =
    let keys = key_order g.met.K.ResultKey.ordered g.met.K.Ord.total g.met.K.ResultKey.exact g.met.K.Ord.matches_eq in
    let es = c.self.inside.entries.entries in
    let is : c.as_slice.result.now ≡ keys_of es = c.as_slice.ensures ∙ c.keys.ensures.rest in
    subst (λ (ks : List g.row.K.Denot). Contains ks k ↔ IsSome (result_at g.K.ResultKey.order c.args.self.now k)) (sym is)
    (subst (λ (r : Results g.row.K.Denot g.row.V.Denot). Contains (keys_of es) k ↔ IsSome (result_at g.K.ResultKey.order r k)) c.self.view_is (keys_there keys.total keys.exact es k))

pub returns-clause-each_once : goal.returns-clause-each_once
returns-clause-each_once g c =
    let keys = key_order g.met.K.ResultKey.ordered g.met.K.Ord.total g.met.K.ResultKey.exact g.met.K.Ord.matches_eq in
    let es = c.self.inside.entries.entries in
    let is : c.as_slice.result.now ≡ keys_of es = c.as_slice.ensures ∙ c.keys.ensures.rest in
    subst (λ (ks : List g.row.K.Denot). AllPairs (λ j k. j ≢ k) ks) (sym is) (AllPairs-from_IsDistinct (decided keys) (keys_of es) c.keys.ensures.unique)
