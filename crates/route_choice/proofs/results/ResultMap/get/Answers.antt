use Rattle.std.proofs.Common.{ap, ◌∙◌}
use Rattle.route_choice.specs.Results.{Results, result_at}
use Rattle.route_choice.proofs.KeyedMaps.{looked_up}
use Rattle.route_choice.proofs.KeyLaws.{key_order}
use Rattle.route_choice.proofs.Standing.{nothing_in}
use Rattle.route_choice.proofs.results.ResultMap.get.Goals as goal

pub returns-then-is_empty : goal.returns-then-is_empty
returns-then-is_empty g c =
    let keys = key_order g.met.K.ResultKey.ordered g.met.K.Ord.total g.met.K.ResultKey.exact g.met.K.Ord.matches_eq in
    record {
      value =
          nothing_in keys c.self.inside.entries.entries c.args.key (c.is_empty.ensures.0 c.if-is_empty.true)
          ∙ ap (λ (r : Results g.row.K.Denot g.row.V.Denot). result_at g.K.ResultKey.order r c.args.key) c.self.view_is;
    }

pub returns : goal.returns
returns g c =
    let keys = key_order g.met.K.ResultKey.ordered g.met.K.Ord.total g.met.K.ResultKey.exact g.met.K.Ord.matches_eq in
    record {
      value =
          c.get.ensures.value ∙ looked_up keys.total keys.exact keys.ties c.self.inside.entries.entries c.args.key
          ∙ ap (λ (r : Results g.row.K.Denot g.row.V.Denot). result_at g.K.ResultKey.order r c.args.key) c.self.view_is;
    }
