-- The index follows the LSAs of the AS.
use Rattle.std.proofs.Common.{◌≡◌, ℕ, List, sym, ap, subst, ◌∙◌}
use Rattle.std.specs.FinMap.{get}
use Rattle.std.specs.List.{Contains}
use Rattle.ospf_types.specs.declared.key.Key.{Key}
use Rattle.ospf_types.specs.declared.key.Scope.{Scope}
use Rattle.ospf_types.specs.declared.key.Scope.TheVariants.{As}
use Rattle.lsdb.specs.Contents.{body_at}
use Rattle.advertised_index.specs.AdvertisedRoute.{advertised_at}
use Rattle.advertised_index.specs.Indexes.{OfferIndexValue, AreDestsAffected, IsIndexOf}
use Rattle.external.specs.Externals.{ExternalValue}
use Rattle.external.specs.Inputs.{ExternalInputsValue}
use Rattle.external.proofs.Frame.{stands_after}
use Rattle.external.proofs.external.External.follow.Goals as goal

pub follow-requires : goal.follow-requires
follow-requires c =
    let b = c.requires.before in
    let index : c.self.inside.index ≡ c.args.self.now.index = ap (λ (w : ExternalValue). w.index) c.self.view_is in
    let root : c.inputs.inside.root ≡ b.0.root = ap (λ (v : ExternalInputsValue). v.root) c.inputs.view_is ∙ b.2.root in
    record {
      before = (
        b.0.lsas,
        λ k. ap (λ (i : OfferIndexValue). get i.routes k) index ∙ b.1.index k ∙ ap (λ (n : ℕ). advertised_at n As k (body_at b.0.lsas k)) (sym root),
        λ k absent. ap (λ (v : ExternalInputsValue). body_at v.lsas k) c.inputs.view_is
            ∙ b.2.lsas k (λ there. absent (subst (λ (ks : List (Scope × Key)). Contains ks (As, k)) (sym c.as_slice.ensures.value) there)),
      );
    }

pub returns-clause-stands : goal.returns-clause-stands
returns-clause-stands c =
    let b = c.requires.before in
    let dirty = c.args.dirty.now in
    let i = c.follow.new.self in
    let first = c.none-affected.result in
    let affected = c.follow.new.affected in
    let is = subst (λ (v : ExternalInputsValue). IsIndexOf v.root As v.lsas i) c.inputs.view_is c.in_ok-follow.ensures.index in
    let touched = subst (λ (w : ExternalValue). AreDestsAffected w.index i first affected) c.self.view_is c.in_ok-follow.ensures.touched in
    stands_after dirty.keys.items dirty.dests.items b.0 c.args.inputs.now c.args.self.now _ first affected b.1 b.2 is touched
    (ap (λ (w : ExternalValue). w.preferred) c.self.view_is) (ap (λ (w : ExternalValue). w.forwards) c.self.view_is) (ap (λ (w : ExternalValue). w.entries) c.self.view_is) (ap (λ (w : ExternalValue). w.spent) c.self.view_is)
