-- The entries of the map, none of which occurs twice.
use Rattle.std.proofs.Common.{◌≢◌, List, subst, sym, ap, ◌∙◌}
use Rattle.std.specs.Prelude.{◌↔◌, Contains, IsSome}
use Rattle.std.specs.List.{AllPairs}
use Rattle.std.specs.Map.{keys_of}
use Rattle.std.proofs.lemmas.Map.Made.{AllPairs-from_IsDistinct}
use Rattle.std.proofs.lemmas.Map.Views.{lookup-from_Contains}
use Rattle.route_choice.specs.Results.{Results, result_at}
use Rattle.route_choice.proofs.KeyedMaps.{keys_there, looked_up}
use Rattle.route_choice.proofs.KeyLaws.{key_order, decided}
use Rattle.route_choice.proofs.Standing.{equivalence}
use Rattle.route_choice.proofs.results.ResultMap.entries.Goals as goal

pub returns-clause-exact : goal.returns-clause-exact
returns-clause-exact g c = λ k value there.
    let keys = key_order g.met.K.ResultKey.ordered g.met.K.Ord.total g.met.K.ResultKey.exact g.met.K.Ord.matches_eq in
    let es = c.self.inside.entries.entries in
    let listed = subst (λ (xs : List (g.row.K.Denot × g.row.V.Denot)). Contains xs (k, value)) c.as_slice.ensures.entries there in
    let found = lookup-from_Contains (equivalence keys) k value es c.as_slice.ensures.unique listed in
    sym (ap (λ (r : Results g.row.K.Denot g.row.V.Denot). result_at g.K.ResultKey.order r k) c.self.view_is) ∙ sym (looked_up keys.total keys.exact keys.ties es k) ∙ found

pub returns-clause-keys : goal.returns-clause-keys
returns-clause-keys g c = λ k.
    let keys = key_order g.met.K.ResultKey.ordered g.met.K.Ord.total g.met.K.ResultKey.exact g.met.K.Ord.matches_eq in
    let es = c.self.inside.entries.entries in
    subst (λ (xs : List (g.row.K.Denot × g.row.V.Denot)). Contains (keys_of xs) k ↔ IsSome (result_at g.K.ResultKey.order c.args.self.now k)) (sym c.as_slice.ensures.entries)
    (subst (λ (r : Results g.row.K.Denot g.row.V.Denot). Contains (keys_of es) k ↔ IsSome (result_at g.K.ResultKey.order r k)) c.self.view_is (keys_there keys.total keys.exact es k))

pub returns-clause-each_once : goal.returns-clause-each_once
returns-clause-each_once g c =
    let keys = key_order g.met.K.ResultKey.ordered g.met.K.Ord.total g.met.K.ResultKey.exact g.met.K.Ord.matches_eq in
    let es = c.self.inside.entries.entries in
    subst (λ (xs : List (g.row.K.Denot × g.row.V.Denot)). AllPairs (λ j k. j ≢ k) (keys_of xs)) (sym c.as_slice.ensures.entries) (AllPairs-from_IsDistinct (decided keys) (keys_of es) c.as_slice.ensures.unique)
