-- The result at the key, place or none, and fresh or none.
use Rattle.std.proofs.Common.{◌≡◌, ℕ, Option, None, ap, subst, sym, ◌∙◌}
use Rattle.std.specs.Prelude.{IfNone}
use Rattle.std.specs.FinMap.{FinMap, from_entries, get}
use Rattle.route_choice.specs.Results.{result_in}
use Rattle.route_choice.proofs.KeyedMaps.{inserted, set_here, set_elsewhere}
use Rattle.route_choice.proofs.KeyLaws.{key_order}
use Rattle.route_choice.proofs.Standing.{come_tells}
use Rattle.route_choice.proofs.entry_positions.exchange.Goals as goal

pub returns-in_ok-insert-in-None-Some-clause-here : goal.returns-in_ok-insert-in-None-Some-clause-here
returns-in_ok-insert-in-None-Some-clause-here g c =
    let keys = key_order g.met.K.ResultKey.ordered g.met.K.Ord.total g.met.K.ResultKey.exact g.met.K.Ord.matches_eq in
    let es = c.args.entries.now.entries in
    let is = inserted keys.total keys.exact keys.ties es c.insert.new.self.entries c.args.key c.in-None-Some.fresh c.in_ok-insert-in-None-Some.ensures.updates.0 in
    ap (λ (m : FinMap g.K.ResultKey.order g.row.V.Denot). get m c.args.key) is ∙ set_here keys.total (from_entries es) c.args.key c.in-None-Some.fresh ∙ sym c.in-None-Some.is-1

pub returns-in_ok-insert-in-None-Some-clause-others : goal.returns-in_ok-insert-in-None-Some-clause-others
returns-in_ok-insert-in-None-Some-clause-others g c = λ k other.
    let keys = key_order g.met.K.ResultKey.ordered g.met.K.Ord.total g.met.K.ResultKey.exact g.met.K.Ord.matches_eq in
    let es = c.args.entries.now.entries in
    let is = inserted keys.total keys.exact keys.ties es c.insert.new.self.entries c.args.key c.in-None-Some.fresh c.in_ok-insert-in-None-Some.ensures.updates.0 in
    ap (λ (m : FinMap g.K.ResultKey.order g.row.V.Denot). get m k) is ∙ set_elsewhere keys.total keys.exact (from_entries es) c.args.key k c.in-None-Some.fresh other

pub returns-in_ok-insert-in-None-Some-clause-differs : goal.returns-in_ok-insert-in-None-Some-clause-differs
returns-in_ok-insert-in-None-Some-clause-differs g c =
    let old = result_in g.K.ResultKey.order c.args.entries.now.entries c.args.key in
    let none = subst (λ (p : Option ℕ). IfNone p (old ≡ None)) c.in-None-Some.is-0 c.requires.none in
    come_tells old (result_in g.K.ResultKey.order c.insert.new.self.entries c.args.key) c.in-None-Some.fresh none (returns-in_ok-insert-in-None-Some-clause-here g c ∙ c.in-None-Some.is-1)
