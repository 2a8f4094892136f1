-- The entry at the hint is the key's, if it has the key.
use Rattle.std.proofs.Common.{◌≡◌, Some, sym, ap, subst, ◌∙◌}
use Rattle.std.specs.Map.{lookup}
use Rattle.route_choice.specs.Results.{Results, result_at}
use Rattle.route_choice.proofs.KeyedMaps.{looked_up}
use Rattle.route_choice.proofs.KeyLaws.{key_order, decided}
use Rattle.route_choice.proofs.results.ResultMap.get_with_hint.Goals as goal

pub returns-in-Some : goal.returns-in-Some
returns-in-Some g c =
    let keys = key_order g.met.K.ResultKey.ordered g.met.K.Ord.total g.met.K.ResultKey.exact g.met.K.Ord.matches_eq in
    let es = c.self.inside.entries.entries in
    let own = (decided keys c.in-Some.standing.now c.args.key).0 (sym c.if-eq.ensures) in
    record {
      value =
          subst (λ (k : g.row.K.Denot). Some c.in-Some.result.now ≡ lookup (g.K.PartialEq.eq k) es) own (sym c.in-Some.ensures.value)
          ∙ looked_up keys.total keys.exact keys.ties es c.args.key
          ∙ ap (λ (r : Results g.row.K.Denot g.row.V.Denot). result_at g.K.ResultKey.order r c.args.key) c.self.view_is;
    }
