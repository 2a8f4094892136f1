-- The key by which an AS-external-LSA with a forwarding address is compared, if its AS boundary
-- router is reached.
use Rattle.std.proofs.Common.{◌≡◌, ℕ, Result, Ok, Err, IfOk, IfErr, sym, subst}
use Rattle.ospf_types.specs.declared.lsa.ExternalFields.{ExternalFields}
use Rattle.explanation.specs.declared.verdict.Verdict.{Verdict}
use Rattle.explanation.specs.declared.verdict.Verdict.TheVariants as verdict
use Rattle.explanation.specs.declared.layers.Layers.{Layers}
use Rattle.explanation.specs.declared.offer.Offer.{Offer}
use Rattle.explanation.specs.declared.offered.ExternalKey.{ExternalKey}
use Rattle.explanation.specs.Offered.{IsBoundaryReached, IsExternalKey, HasNoFault, IsForwardedKey, LacksKey, LeadsNowhere}

module _ (w : Layers) (o : Offer) (metric : ℕ) (external : ExternalFields) (fit : HasNoFault w o metric) (reached : IsBoundaryReached w o.source.key.router) where
  pub reached_key : (r : Result ExternalKey Verdict) → IfOk r (IsForwardedKey w metric external) → IfOk r (IsExternalKey w o metric external)
  reached_key (Ok key) (class, distance, leads, is) = (fit, reached, (class, distance, leads o.source.key.router, is))
  reached_key (Err f) is = tt

  pub lacks_key : (r : Result ExternalKey Verdict) → IfErr r (λ (f : Verdict). (f ≡ verdict.NoForward) × LeadsNowhere w external.forwarding) → IfErr r (LacksKey w o metric external)
  lacks_key (Ok key) is = tt
  lacks_key (Err f) (same, nowhere) = subst (LacksKey w o metric external) (sym same) (fit, reached, nowhere)
