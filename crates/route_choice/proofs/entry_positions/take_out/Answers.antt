-- The entry that is at the place is the key's.
use Rattle.std.proofs.Common.{◌≡◌, None, ap, subst, ◌∙◌}
use Rattle.std.specs.FinMap.{FinMap, from_entries, get}
use Rattle.route_choice.specs.Results.{result_in}
use Rattle.route_choice.proofs.KeyedMaps.{removed, gone_here, gone_elsewhere}
use Rattle.route_choice.proofs.KeyLaws.{key_order}
use Rattle.route_choice.proofs.Standing.{own_of}
use Rattle.route_choice.proofs.entry_positions.take_out.Goals as goal

pub returns-in-Some-clause-here : goal.returns-in-Some-clause-here
returns-in-Some-clause-here g c =
    let keys = key_order g.met.K.ResultKey.ordered g.met.K.Ord.total g.met.K.ResultKey.exact g.met.K.Ord.matches_eq in
    let es = c.args.entries.now.entries in
    let taken = c.in-Some._taken in
    let own = own_of taken.0 c.args.key taken.1 c.requires.0 (c.in-Some.ensures.entry ∙ c.requires.1) in
    let is = removed keys.total keys.exact keys.ties es c.swap_remove_index.new.self.entries taken.0 c.in-Some.ensures.updates.0 in
    subst (λ (k : g.row.K.Denot). result_in g.K.ResultKey.order c.swap_remove_index.new.self.entries k ≡ None) own
    (ap (λ (m : FinMap g.K.ResultKey.order g.row.V.Denot). get m taken.0) is ∙ gone_here keys.total (from_entries es) taken.0)

pub returns-in-Some-clause-others : goal.returns-in-Some-clause-others
returns-in-Some-clause-others g c = λ k other.
    let keys = key_order g.met.K.ResultKey.ordered g.met.K.Ord.total g.met.K.ResultKey.exact g.met.K.Ord.matches_eq in
    let es = c.args.entries.now.entries in
    let taken = c.in-Some._taken in
    let own = own_of taken.0 c.args.key taken.1 c.requires.0 (c.in-Some.ensures.entry ∙ c.requires.1) in
    let is = removed keys.total keys.exact keys.ties es c.swap_remove_index.new.self.entries taken.0 c.in-Some.ensures.updates.0 in
    ap (λ (m : FinMap g.K.ResultKey.order g.row.V.Denot). get m k) is ∙ gone_elsewhere keys.total keys.exact (from_entries es) taken.0 k (λ e. other (e ∙ own))
