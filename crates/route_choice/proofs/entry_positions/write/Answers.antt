-- The key has the fresh result, and every other what it had.
use Rattle.std.proofs.Common.{ap, ◌∙◌}
use Rattle.std.specs.FinMap.{FinMap, get, from_entries}
use Rattle.indexmap.proofs.CallerLemmas.{updates-with_value_at}
use Rattle.route_choice.specs.Results.{result_in}
use Rattle.route_choice.proofs.KeyedMaps.{inserted, set_here, set_elsewhere}
use Rattle.route_choice.proofs.KeyLaws.{key_order}
use Rattle.route_choice.proofs.Standing.{equivalence, written_tells, written_stays}
use Rattle.route_choice.proofs.entry_positions.write.Goals as goal

pub returns-clause-here : goal.returns-clause-here
returns-clause-here g c =
    let keys = key_order g.met.K.ResultKey.ordered g.met.K.Ord.total g.met.K.ResultKey.exact g.met.K.Ord.matches_eq in
    let es = c.args.entries.now.entries in
    let is = inserted keys.total keys.exact keys.ties es _ c.args.key c.args.fresh (updates-with_value_at c.args.entries.now c.args.place c.args.fresh (equivalence keys) c.len.ensures.unique c.args.key c.requires.0 c.requires.1).0 in
    ap (λ (m : FinMap g.K.ResultKey.order g.row.V.Denot). get m c.args.key) is ∙ set_here keys.total (from_entries es) c.args.key c.args.fresh

pub returns-clause-others : goal.returns-clause-others
returns-clause-others g c = λ k other.
    let keys = key_order g.met.K.ResultKey.ordered g.met.K.Ord.total g.met.K.ResultKey.exact g.met.K.Ord.matches_eq in
    let es = c.args.entries.now.entries in
    let is = inserted keys.total keys.exact keys.ties es _ c.args.key c.args.fresh (updates-with_value_at c.args.entries.now c.args.place c.args.fresh (equivalence keys) c.len.ensures.unique c.args.key c.requires.0 c.requires.1).0 in
    ap (λ (m : FinMap g.K.ResultKey.order g.row.V.Denot). get m k) is ∙ set_elsewhere keys.total keys.exact (from_entries es) c.args.key k c.args.fresh other

pub returns-clause-differs : goal.returns-clause-differs
returns-clause-differs g c = written_tells c.stands_at-stays.result (result_in g.K.ResultKey.order c.args.entries.now.entries c.args.key) _ c.args.fresh c.stands_at-stays.ensures (returns-clause-here g c)

pub returns-clause-stays : goal.returns-clause-stays
returns-clause-stays g c = written_stays c.stands_at-stays.result (result_in g.K.ResultKey.order c.args.entries.now.entries c.args.key) _ c.args.fresh c.stands_at-stays.ensures (returns-clause-here g c)
