-- The offers of all LSAs for a network do not depend on the other networks that are wanted.
use Rattle.std.proofs.Common.{◌≡◌, Bool, true, List, ◌++◌, sym, ◌∙◌}
use Rattle.std.specs.Prelude.{Contains}
use Rattle.std.specs.FinMap.{values}
use Rattle.std.proofs.lemmas.Bool.{eq-eqb}
use Rattle.std.proofs.lemmas.List.{get_or_default}
use Rattle.std.proofs.lemmas.List.Elements.{filter-append}
use Rattle.ospf_types.specs.declared.key.Scope.TheVariants.{Area, As}
use Rattle.ospf_types.specs.declared.prefix.Prefix.{Prefix}
use Rattle.ospf_types.specs.Masks.{masked}
use Rattle.ospf_types.specs.RangeChanges.{is_same_prefix}
use Rattle.event_state.specs.States.{database_of, lsas_of}
use Rattle.intra.specs.Inputs.{AreaValue}
use Rattle.explanation.specs.declared.layers.Layers.{Layers}
use Rattle.explanation.specs.declared.offer.Offer.{Offer}
use Rattle.explanation.specs.Groups.{offers_for}
use Rattle.explanation.specs.Networks.{all_offers, all_wanted, offers_in_areas}
use Rattle.explanation.specs.Offers.{is_around, is_one_of, offers_among}
use Rattle.explanation.proofs.Searching.{found_there}
use Rattle.explanation.proofs.Wanted.{among_same, each_same}

module _ (w : Layers) (p : Prefix) where
  wanted_same : (one other : Prefix → Bool) → one p ≡ other p → offers_for p (all_wanted one w) ≡ offers_for p (all_wanted other w)
  wanted_same one other agree =
      let areas = each_same p one other agree (λ (a : AreaValue). offers_among one (Area a.id) (values a.lsas)) (λ (a : AreaValue). offers_among other (Area a.id) (values a.lsas))
      (λ (a : AreaValue). among_same p one other agree (Area a.id) (values a.lsas)) w.areas.now in
      let outside = among_same p one other agree As (lsas_of (database_of w.state.now As)) in
      filter-append (λ (o : Offer). is_same_prefix o.network p) (offers_in_areas one w.areas.now) (offers_among one As (lsas_of (database_of w.state.now As)))
      ∙ (λ i. areas i ++ outside i)
      ∙ sym (filter-append (λ (o : Offer). is_same_prefix o.network p) (offers_in_areas other w.areas.now) (offers_among other As (lsas_of (database_of w.state.now As))))

  -- one of these networks: as if they were asked for those that have its address
  pub as_around : (networks : List Prefix) → Contains networks p → masked p.address p.length ≡ p.address → offers_for p (all_wanted (is_one_of networks) w) ≡ offers_for p (all_offers w p.address)
  as_around networks among whole =
      let one : is_one_of networks p ≡ true = found_there networks p among.0 (among.1, λ d. get_or_default networks among.0 d p among.1 ∙ among.2) in
      wanted_same (is_one_of networks) (is_around p.address) (one ∙ sym (eq-eqb (masked p.address p.length) p.address whole))
