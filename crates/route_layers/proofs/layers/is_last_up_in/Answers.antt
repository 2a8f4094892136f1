use Rattle.std.proofs.Common.{ℕ, List, sym, subst}
use Rattle.ospf_types.specs.declared.config.Interface.{Interface}
use Rattle.route_layers.specs.Layers.{IsUpAmong}
use Rattle.route_layers.proofs.Examining.{last_up}
use Rattle.route_layers.proofs.layers.is_last_up_in.Goals as goal

pub returns-in-Some-clause-up : goal.returns-in-Some-clause-up
returns-in-Some-clause-up c = λ yes.
    let e : ℕ × Interface = (c.in-Some.field-0-0.now, c.in-Some.interface.now) in
    let counts = c.is_up_in.ensures.0 yes in
    subst (λ (list : List (ℕ × Interface)). IsUpAmong list c.args.area) (sym c.in-Some.ensures.steps) (last_up c.next_back.new.self e c.args.area counts.0 counts.1)
