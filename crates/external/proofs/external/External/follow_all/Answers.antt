-- From nothing the index follows all LSAs of the AS.
use Rattle.std.proofs.Common.{ap, subst, ◌∙◌}
use Rattle.ospf_types.specs.declared.key.Scope.TheVariants.{As}
use Rattle.advertised_index.specs.Indexes.{AreDestsAffected, IsIndexOf}
use Rattle.external.specs.Externals.{ExternalValue}
use Rattle.external.specs.Inputs.{ExternalInputsValue}
use Rattle.external.proofs.Frame.{stands_from_nothing}
use Rattle.external.proofs.external.External.follow_all.Goals as goal

pub follow_all-requires : goal.follow_all-requires
follow_all-requires c = ap (λ (w : ExternalValue). w.index) (c.self.view_is ∙ c.requires)

pub returns : goal.returns
returns c = λ dests named.
    let i = c.follow_all.new.self in
    let first = c.none-affected.result in
    let affected = c.follow_all.new.affected in
    let was = c.self.view_is ∙ c.requires in
    let is = subst (λ (v : ExternalInputsValue). IsIndexOf v.root As v.lsas i) c.inputs.view_is c.in_ok-follow_all.ensures.index in
    let touched = subst (λ (w : ExternalValue). AreDestsAffected w.index i first affected) was c.in_ok-follow_all.ensures.touched in
    stands_from_nothing dests c.args.inputs.now _ first affected named is touched
    (ap (λ (w : ExternalValue). w.preferred) was) (ap (λ (w : ExternalValue). w.forwards) was) (ap (λ (w : ExternalValue). w.entries) was) (ap (λ (w : ExternalValue). w.spent) was)
