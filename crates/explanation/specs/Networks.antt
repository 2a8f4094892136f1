-- The offers of all databases for networks that contain an address, and the verdict on an offer
-- among the others for its network (RFC 2328, 11.1 and 16).
use Rattle.std.specs.Prelude.{ℕ, Bool, List, ◌++◌, Option}
use Rattle.std.specs.FinMap.{values}
use Rattle.std.specs.List.{flat_map}
use Rattle.ospf_types.specs.declared.entry.Entry.{Entry}
use Rattle.ospf_types.specs.declared.key.Scope.TheVariants.{Area, As}
use Rattle.ospf_types.specs.declared.prefix.Prefix.{Prefix}
use Rattle.event_state.specs.States.{database_of, lsas_of}
use Rattle.intra.specs.Inputs.{AreaValue}
use Rattle.explanation.specs.Groups.{AreOfNetwork, offers_for}
use Rattle.explanation.specs.declared.verdict.Verdict.TheVariants.{Taken}
use Rattle.explanation.specs.declared.judging.Judged.{Judged}
use Rattle.explanation.specs.declared.layers.Layers.{Layers}
use Rattle.explanation.specs.declared.offer.Offer.{Offer}
use Rattle.explanation.specs.declared.offered.ExternalKey.{ExternalKey}
use Rattle.explanation.specs.Judging.{IsJudged, IsRivalsOf}
use Rattle.explanation.specs.Offers.{is_around, offers_among}

-- the offers of the LSAs of these areas for the wanted networks
abbrev pub offers_in_areas : (Prefix → Bool) → List AreaValue → List Offer
offers_in_areas wanted areas = flat_map (λ (a : AreaValue). offers_among wanted (Area a.id) (values a.lsas)) areas

-- the offers of all LSAs: those of the areas in their order, and then those of the AS-external-LSAs
abbrev pub all_wanted : (Prefix → Bool) → Layers → List Offer
all_wanted wanted w = offers_in_areas wanted w.areas.now ++ offers_among wanted As (lsas_of (database_of w.state.now As))

-- the offers of networks that contain the address
abbrev pub all_offers : Layers → ℕ → List Offer
all_offers w address = all_wanted (is_around address) w

-- those of each of these networks, one network after the other
abbrev pub by_networks : List Offer → List Prefix → List Offer
by_networks all networks = flat_map (λ (p : Prefix). offers_for p all) networks

-- the verdict on the offer among exactly the offers of all for its network
pub record IsJudgedAmong (w : Layers) (all : List Offer) (o : Offer) (judged : Judged) : Type 0 where
  pub among : List Offer
  pub among_are : AreOfNetwork o.network all among
  pub internal : Option Entry
  pub greatest : Option ℕ
  pub least : Option ExternalKey
  pub rivals : IsRivalsOf w o.network among internal greatest least
  pub is : IsJudged w internal greatest least o judged

-- it is taken
abbrev pub IsTakenAmong : Layers → List Offer → Offer → Type 0
IsTakenAmong w all o = (cost : Option ℕ) × IsJudgedAmong w all o (record { cost = cost; verdict = Taken })
