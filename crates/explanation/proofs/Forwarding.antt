-- The networks that are the longest matches of forwarding addresses, and the traces to them.
use Rattle.std.proofs.Common.{◌≡◌, ◌<◌, ◌≤◌, ◌+◌, ℕ, List, [], ◌∷◌, ◌++◌, Some, take, length, get_or, refl, sym, ap, subst, ◌∙◌, inl, inr}
use Rattle.std.specs.Prelude.{Contains}
use Rattle.std.proofs.lemmas.List.{get_or-map, length-map, map-append, take_all, take_more}
use Rattle.std.proofs.lemmas.List.Elements.{All-contains, All-push, Contains-append_left, Contains-push}
use Rattle.ospf_types.proofs.Elements.{contains_at, contains_more, no_element}
use Rattle.ospf_types.specs.declared.prefix.Prefix.{Prefix}
use Rattle.explanation.specs.declared.forward.TracedMatch.{TracedMatch}
use Rattle.explanation.specs.declared.grouping.Group.{Group}
use Rattle.explanation.specs.declared.layers.Layers.{Layers}
use Rattle.explanation.specs.declared.offer.Offer.{Offer}
use Rattle.explanation.specs.declared.trace.Trace.{Trace}
use Rattle.explanation.specs.Giving.{AddsTraces}
use Rattle.explanation.specs.Groups.{AreGroups, network_of, networks_in, offers_for}
use Rattle.explanation.specs.Networks.{IsTakenAmong, all_offers, all_wanted}
use Rattle.explanation.specs.Offers.{IsPlaceOf, is_one_of}
use Rattle.explanation.specs.Outside.{AddsForward, AreAllOf, AreForwards, AreMatched, AreNetworkTraces, GivesRoute, GivesTaken, HasTraces, match_by, networks_of}
use Rattle.explanation.proofs.Rivals.{some_same}

-- the value at the network's place
pub found_at : (networks : List Prefix) (forwards : List TracedMatch) → networks_of forwards ≡ networks → (place : ℕ) (p : Prefix) → IsPlaceOf networks p place → (f : TracedMatch) → f ≡ get_or forwards place f → Contains forwards f × (f.network ≡ p)
found_at networks forwards listed place p is f here =
    let size : length forwards ≡ length networks = sym (length-map forwards (λ (x : TracedMatch). x.network)) ∙ ap (λ (ps : List Prefix). length ps) listed in
    let within : place < length forwards = subst (λ (n : ℕ). place < n) (sym size) is.0 in (
      contains_at forwards place f within here,
      ap (λ (x : TracedMatch). x.network) here ∙ sym (get_or-map (λ (x : TracedMatch). x.network) forwards place f f.network within) ∙ ap (λ (ps : List Prefix). get_or ps place f.network) listed ∙ is.1 f.network,
    )

module _ (w : Layers) where
  -- ---- what an offer gives, if it is taken

  pub gives_taken : (by : Offer) → IsTakenAmong w (all_offers w by.network.address) by → (before after : List Trace) → AddsTraces (GivesRoute w by) before after → AddsTraces (GivesTaken w by) before after
  gives_taken by taken before after (own, inl (area, e, route, within), is) = (own, inl (area, e, route, taken, within), is)
  gives_taken by taken before after (own, inr (none, nothing), is) = (own, inr (λ area e route it. none area e route, nothing), is)

  -- ---- the networks, one after the other

  -- the networks of the offers up to here
  pub no_match : (networks : List Prefix) (offers : List Offer) → AreMatched w networks (take 0 offers)
  no_match networks offers = λ o among. absurd (no_element o among)

  module _ (offers : List Offer) (i : ℕ) (o : Offer) (lt : i < length offers) (here : o ≡ get_or offers i o) where
    pub one_match : (before after : List Prefix) (p : Prefix) → match_by w o.kind ≡ Some p → after ≡ before ++ p ∷ [] → AreMatched w before (take i offers) → AreMatched w after (take (i + 1) offers)
    one_match before after p is added are = λ x among q found. subst (λ (ps : List Prefix). Contains ps q) (sym added) (elim ((contains_more offers i o x lt here).0 among) [
      | inl was ↦ Contains-append_left before (p ∷ []) q (are x was q found)
      | inr new ↦
          let same : p ≡ q = some_same p q (sym is ∙ ap (λ (y : Offer). match_by w y.kind) (sym new) ∙ found) in
          subst (Contains (before ++ p ∷ [])) same (Contains-push before p)
    ])

    pub same_match : (networks : List Prefix) → ((p : Prefix) → match_by w o.kind ≡ Some p → ⊥) → AreMatched w networks (take i offers) → AreMatched w networks (take (i + 1) offers)
    same_match networks none are = λ x among q found. elim ((contains_more offers i o x lt here).0 among) [
      | inl was ↦ are x was q found
      | inr new ↦ absurd (none q (ap (λ (y : Offer). match_by w y.kind) (sym new) ∙ found))
    ]

  pub all_match : (networks listed : List Prefix) (offers : List Offer) (i : ℕ) → length offers ≤ i → ((p : Prefix) → Contains networks p → Contains listed p) → AreMatched w networks (take i offers) → AreMatched w listed offers
  all_match networks listed offers i past more are = λ o among p found. more p (are o (subst (λ (os : List Offer). Contains os o) (sym (take_all i offers past)) among) p found)

  -- the group has all that LSAs offer of its network
  pub all_of_group : (networks : List Prefix) (groups : List Group) → AreGroups networks (all_wanted (is_one_of networks) w) groups → (i : ℕ) (g : Group) → i < length groups → g ≡ get_or groups i g → AreAllOf w g
  all_of_group networks groups are i g lt here =
      let there : get_or networks i g.network ≡ g.network =
      ap (λ (ps : List Prefix). get_or ps i g.network) (sym are.listed) ∙ get_or-map network_of groups i g g.network lt ∙ ap (λ (x : Group). x.network) (sym here) in
      let size : length groups ≡ length networks = sym (length-map groups network_of) ∙ ap (λ (ps : List Prefix). length ps) are.listed in (
        networks,
        (i, subst (λ (n : ℕ). i < n) size lt, there),
        subst (λ (x : Group). x.offers.items ≡ offers_for x.network (all_wanted (is_one_of networks) w)) (sym here) (are.right i g lt),
      )

  -- the traces to the networks of the groups up to here
  pub no_forwards : (groups : List Group) → AreForwards w (networks_in (take 0 groups)) []
  no_forwards groups = record { listed = refl; right = λ j d lt. absurd (no_element d (j, lt, refl)) }

  pub one_forward : (groups : List Group) (i : ℕ) (g : Group) (before after : List TracedMatch) → i < length groups → g ≡ get_or groups i g → AddsForward w g.network before after
      → AreForwards w (networks_in (take i groups)) before → AreForwards w (networks_in (take (i + 1) groups)) after
  one_forward groups i g before after lt here (f, of, traces, added) are =
      let cut : take (i + 1) groups ≡ take i groups ++ g ∷ [] = take_more groups i g lt ∙ ap (λ (x : Group). take i groups ++ x ∷ []) (sym here) in
      subst (AreForwards w (networks_in (take (i + 1) groups))) (sym added) (record {
        listed = map-append (λ (x : TracedMatch). x.network) before (f ∷ [])
            ∙ ap (λ (ps : List Prefix). ps ++ f.network ∷ []) are.listed
            ∙ ap (λ (p : Prefix). networks_in (take i groups) ++ p ∷ []) of
            ∙ sym (map-append network_of (take i groups) (g ∷ []))
            ∙ ap networks_in (sym cut);
        right = All-push (λ (x : TracedMatch). AreNetworkTraces w x.network x.traces.items) before f are.right (subst (λ (p : Prefix). AreNetworkTraces w p f.traces.items) (sym of) traces);
      })

  pub all_forwards : (networks : List Prefix) (groups : List Group) (i : ℕ) (forwards : List TracedMatch) → length groups ≤ i → networks_in groups ≡ networks → AreForwards w (networks_in (take i groups)) forwards → AreForwards w networks forwards
  all_forwards networks groups i forwards past listed are = subst (λ (ps : List Prefix). AreForwards w ps forwards) (ap networks_in (take_all i groups past) ∙ listed) are

  -- the traces that are found for the network lead to it
  pub traces_found : (networks : List Prefix) (forwards : List TracedMatch) → AreForwards w networks forwards → (p : Prefix) (traces : List Trace) → HasTraces forwards p traces → AreNetworkTraces w p traces
  traces_found networks forwards are p traces has =
      let right = All-contains (λ (f : TracedMatch). AreNetworkTraces w f.network f.traces.items) forwards has.0 are.right has.1 in
      subst (AreNetworkTraces w p) (sym has.3) (subst (λ (q : Prefix). AreNetworkTraces w q has.0.traces.items) has.2 right)
