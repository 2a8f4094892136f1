use Rattle.std.proofs.Common.{◌≡◌, ℕ, refl, subst, ◌∙◌}
use Rattle.ospf_types.specs.Masks.{masked}
use Rattle.explanation.proofs.AllWanted.{as_around}
use Rattle.explanation.proofs.layers.Layers.push_forward.Goals as goal

pub network_traces-requires-clause-all : goal.network_traces-requires-clause-all
network_traces-requires-clause-all c =
    let p = c.args.group.now.network in
    let all = c.requires.all in
    let own = subst (λ (a : ℕ). masked a p.length ≡ a) c.address-address.ensures.value c.address-address.ensures.masked in
    c.deref.ensures.value ∙ all.2 ∙ as_around c.args.self p all.0 all.1 own

pub returns : goal.returns
returns c = (record { network = c.args.group.now.network; traces = c.in_ok-traces.traces }, refl, c.in_ok-traces.ensures, c.in_ok-push.ensures.items)
