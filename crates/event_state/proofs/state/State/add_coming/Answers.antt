use Rattle.std.proofs.Common.{List, ◌++◌, ap, sym, ◌∙◌}
use Rattle.ospf_types.specs.declared.key.Key.{Key}
use Rattle.lsdb.specs.Databases.{keys_aged}
use Rattle.std.proofs.lemmas.Result.{on_ok_weaker}
use Rattle.event_state.proofs.Naming.{all_listed, still_among, few_listed}
use Rattle.event_state.proofs.state.State.add_coming.Goals as goal

pub returns-then-len-eq0-clause-listed : goal.returns-then-len-eq0-clause-listed
returns-then-len-eq0-clause-listed c = few_listed c.args.named.now.items c.args.self.now c.args.scope c.in-Some.database.now.lsas c.in-Some.ensures.value (sym c.len.ensures.value ∙ c.if-len-eq0.true)

pub returns-clause-kept : goal.returns-clause-kept
returns-clause-kept c = on_ok_weaker c.add_all.result (still_among _ _ _) c.add_all.ensures

pub returns-clause-listed : goal.returns-clause-listed
returns-clause-listed c =
    on_ok_weaker c.add_all.result (all_listed _ _ c.args.self.now c.args.scope c.in-Some.database.now _ c.in-Some.ensures.value c.len.ensures.ordered (c.deref.ensures.value ∙ c.in_ok-at_age.ensures.found ∙ ap (λ (keys : List Key). keys ++ keys_aged 3599 c.in-Some.database.now) c.new-keys.ensures.items)) c.add_all.ensures
