use Rattle.std.proofs.Common.{map, ap, sym, ◌∙◌}
use Rattle.ospf_types.specs.declared.hop.Path.{Path}
use Rattle.ospf_types.specs.External.{toward}
use Rattle.external.proofs.Ways.{leads_by}
use Rattle.external.proofs.forward.way_by.Goals as goal

pub returns-in_ok-hops_toward-in-Some : goal.returns-in_ok-hops_toward-in-Some
returns-in_ok-hops_toward-in-Some c =
    leads_by c.args.inputs.now c.args.address c.args.network c.in-Some.entry.now (sym c.in-Some.ensures.value) _ c.class_at.ensures (λ _. c.in-Some.entry.now.cost)
    (c.in_ok-hops_toward-in-Some.ensures ∙ ap (map (λ (path : Path). toward c.args.address path.hop)) c.as_slice.ensures.value)
