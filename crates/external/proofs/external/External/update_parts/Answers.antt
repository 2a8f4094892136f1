-- All that may differ followed.
use Rattle.std.proofs.Common.{List, sym, subst}
use Rattle.std.specs.Prelude.{◌↔◌}
use Rattle.std.specs.List.{Contains}
use Rattle.std.proofs.lemmas.Result.{IfOk-weaker}
use Rattle.ospf_types.specs.declared.key.Dest.{Dest}
use Rattle.external.specs.Changes.{DiffersAt}
use Rattle.external.specs.Updating.{StandsBut}
use Rattle.external.proofs.Updating.{differs_same}
use Rattle.external.proofs.external.External.update_parts.Goals as goal

pub update_results-requires : goal.update_results-requires
update_results-requires c =
    subst (λ (ds : List Dest). StandsBut c.args.inputs.now ds c.in_ok-affected.affected c.follow.new.self) (sym c.as_slice.ensures.value) c.in_ok-affected.ensures.stands

pub returns-clause-exact : goal.returns-clause-exact
returns-clause-exact c =
    let followed = c.in_ok-affected.ensures in
    IfOk-weaker c.update_results.result (λ named. (d : Dest) → Contains named.items d ↔ DiffersAt c.follow.new.self c.update_results.new.self d) (λ named. (d : Dest) → Contains named.items d ↔ DiffersAt c.args.self.now c.update_results.new.self d)
    (λ named exact d.
    let same = differs_same c.args.self.now c.follow.new.self c.update_results.new.self followed.preferred followed.entries d in
    let is = exact d in
    (λ there. same.0 (is.0 there), λ differs. is.1 (same.1 differs)))
    c.update_results.ensures.exact
