use Rattle.std.proofs.Common.{List, [], ◌∷◌, ◌++◌, Option, inl, inr, subst, sym, ap}
use Rattle.std.specs.Prelude.{Contains, option_copied}
use Rattle.std.proofs.lemmas.List.Elements.{Contains-append_left, Contains-push}
use Rattle.ospf_types.specs.declared.key.Dest.{Dest}
use Rattle.advertised_index.specs.AdvertisedRoute.{AdvertisedValue}
use Rattle.advertised_index.specs.AffectedDests.{AreAdded}
use Rattle.advertised_index.specs.Indexes.{ChangedOffersValue}
use Rattle.advertised_index.proofs.Effects.{added_some}
use Rattle.advertised_index.proofs.affected_dests.AffectedDests.add.Goals as goal

pub returns : goal.returns
returns c =
    let route = c.in-Some.route.now in
    let was : ChangedOffersValue = record { dests = c.self.inside.dests.items; addresses = c.self.inside.addresses.items } in
    let is : ChangedOffersValue = record { dests = c.push.new.self.items; addresses = c.push_new.new.addresses.items } in
    let pushed : (d : Dest) → Contains (c.self.inside.dests.items ++ c.dest.result ∷ []) d → Contains is.dests d = λ d there. subst (λ (ds : List Dest). Contains ds d) (sym {A = List Dest} c.in_ok-push.ensures.items) there in
    subst (λ (v : ChangedOffersValue). AreAdded (option_copied c.args.route) v is) c.self.view_is
    (subst (λ (o : Option AdvertisedValue). AreAdded o was is) (sym (ap option_copied c.in-Some.is))
    (added_some route was is
    (λ d there. pushed d (Contains-append_left was.dests (c.dest.result ∷ []) d there))
    (subst (λ d. Contains is.dests d) c.dest.ensures (pushed c.dest.result (Contains-push was.dests c.dest.result)))
    (λ a there. (c.in_ok-push_new.ensures a).1 (inl there))
    (λ some. (c.in_ok-push_new.ensures route.forwarding).1 (inr (sym c.forwarding-2.ensures)))))
