-- The verdicts on offers, one after the other; and traces by the kind of their offer.
use Rattle.std.proofs.Common.{◌≡◌, ◌<◌, ◌≤◌, ◌+◌, ℕ, List, [], ◌∷◌, ◌++◌, Option, take, length, get_or, refl, sym, ap, subst, ◌∙◌, inl, inr}
use Rattle.std.specs.Prelude.{Contains}
use Rattle.std.specs.List.Sorted.{IsStrictlySortedBy}
use Rattle.std.proofs.lemmas.Grind.{flat_map-append}
use Rattle.std.proofs.lemmas.List.{append-nil, append_assoc, map-append, take_all, take_more}
use Rattle.std.proofs.lemmas.List.Elements.{Contains-append_left, Contains-append_right, Contains-append_cases, Contains-push, Contains-push_cases}
use Rattle.ospf_types.proofs.Elements.{contains_more, no_element}
use Rattle.ospf_types.specs.declared.entry.Entry.{Entry}
use Rattle.ospf_types.specs.declared.hop.Path.{Path}
use Rattle.ospf_types.specs.declared.key.Scope.{Scope}
use Rattle.ospf_types.specs.declared.key.Scope.TheVariants.{Area}
use Rattle.ospf_types.specs.declared.lsa.ExternalFields.{ExternalFields}
use Rattle.ospf_types.specs.declared.prefix.Prefix.{Prefix}
use Rattle.ospf_types.specs.Network.{network_cmp}
use Rattle.explanation.specs.declared.explained.Candidate.{Candidate}
use Rattle.explanation.specs.declared.layers.Layers.{Layers}
use Rattle.explanation.specs.declared.offer.Offer.{Offer}
use Rattle.explanation.specs.declared.offer.OfferKind.{OfferKind}
use Rattle.explanation.specs.declared.offer.OfferKind.TheVariants as kind
use Rattle.explanation.specs.declared.offered.ExternalKey.{ExternalKey}
use Rattle.explanation.specs.declared.trace.Trace.{Trace}
use Rattle.explanation.specs.Judging.{IsJudged, IsRivalsOf}
use Rattle.explanation.specs.Groups.{AreOfNetwork, offers_for}
use Rattle.explanation.specs.Networks.{by_networks}
use Rattle.explanation.specs.Outside.{AreForwarded, AreOutside, AreTracesAs, AreTracesWithin}
use Rattle.explanation.specs.Explained.{AddsJudged, AddsNetwork, AreCandidates, AreCandidatesInOrder, AreNetworks, AreTracesFor, IsCandidate, MakesMore, offers_of}
use Rattle.explanation.proofs.OfNetwork.{just_those}

module _ (w : Layers) (o : Offer) (paths : List Path) where
  -- the traces of an offer of an area
  pub within_as : (area : ℕ) (traces : List Trace) (k : OfferKind) → ((metric : ℕ) (external : ExternalFields) → k ≡ kind.AsExternal metric external → ⊥) → AreTracesWithin w area o paths traces → AreTracesAs w o (Area area) k paths traces
  within_as area traces (kind.Stub metric) other are = are
  within_as area traces kind.Transit other are = are
  within_as area traces (kind.Summary metric) other are = are
  within_as area traces (kind.AsExternal metric external) other are = absurd (other metric external refl)

  -- for an AS-external-LSA without a forwarding address, and with one
  pub outside_as : (scope : Scope) (metric : ℕ) (external : ExternalFields) (traces : List Trace) → external.forwarding ≡ 0 → AreOutside w 0 o paths traces → AreTracesAs w o scope (kind.AsExternal metric external) paths traces
  outside_as scope metric external traces none are = subst (λ (address : ℕ). AreOutside w address o paths traces) (sym none) are

  pub forwarded_as : (scope : Scope) (metric : ℕ) (external : ExternalFields) (traces : List Trace) → 0 < external.forwarding → AreForwarded w external.forwarding o paths traces → AreTracesAs w o scope (kind.AsExternal metric external) paths traces
  forwarded_as scope metric external traces some are = inr (inr (some, are))

module _ (w : Layers) (all : List Offer) where
  -- compared with its rivals
  pub one_candidate : (p : Prefix) (group : List Offer) → AreOfNetwork p all group → (internal : Option Entry) (greatest : Option ℕ) (least : Option ExternalKey) → IsRivalsOf w p group internal greatest least
      → (o : Offer) → Contains group o → (before after : List Candidate) → (adds : AddsJudged w internal greatest least o before after) → IsCandidate w all adds.0
  one_candidate p group of internal greatest least rivals o among before after adds =
      let c = adds.0 in
      let same : c.offer.network ≡ p = ap (λ (x : Offer). x.network) adds.1 ∙ ((of o).0 among).1 in record {
        judged = record {
          among = group;
          among_are = subst (λ (q : Prefix). AreOfNetwork q all group) (sym same) of;
          internal = internal;
          greatest = greatest;
          least = least;
          rivals = subst (λ (q : Prefix). IsRivalsOf w q group internal greatest least) (sym same) rivals;
          is = subst (λ (x : Offer). IsJudged w internal greatest least x (record { cost = c.cost; verdict = c.verdict })) (sym adds.1) adds.2;
        };
        traces = subst (λ (x : Offer). AreTracesFor w x c.verdict c.traces.items) (sym adds.1) adds.3;
      }

  -- none of the group yet
  pub begin : (group : List Offer) (before : List Candidate) → MakesMore w all (take 0 group) before before
  begin group before others are = subst (λ (os : List Offer). AreCandidates w all os before) (sym (append-nil others)) are

  -- one more candidate
  more_candidate : (offers : List Offer) (o : Offer) (c : Candidate) (before : List Candidate) → AreCandidates w all offers before → c.offer ≡ o → IsCandidate w all c → AreCandidates w all (offers ++ o ∷ []) (before ++ c ∷ [])
  more_candidate offers o c before are same is = record {
    sound = λ d among. elim (Contains-push_cases before c d among) [
      | inl was ↦ let old = are.sound d was in (Contains-append_left offers (o ∷ []) d.offer old.0, old.1)
      | inr new ↦ subst (λ (x : Candidate). Contains (offers ++ o ∷ []) x.offer × IsCandidate w all x) new (subst (λ (x : Offer). Contains (offers ++ o ∷ []) x) (sym same) (Contains-push offers o), is)
    ];
    complete = λ x among. elim (Contains-push_cases offers o x among) [
      | inl was ↦ let old = are.complete x was in (old.0, Contains-append_left before (c ∷ []) old.0 old.1, old.2)
      | inr new ↦ (c, Contains-push before c, same ∙ new)
    ];
  }

  pub more : (group : List Offer) (i : ℕ) (o : Offer) (first before after : List Candidate) (c : Candidate) → i < length group → o ≡ get_or group i o → c.offer ≡ o → IsCandidate w all c → after ≡ before ++ c ∷ []
      → MakesMore w all (take i group) first before → MakesMore w all (take (i + 1) group) first after
  more group i o first before after c lt here same is added so_far others are =
      let cut : take (i + 1) group ≡ take i group ++ o ∷ [] = take_more group i o lt ∙ ap (λ (x : Offer). take i group ++ x ∷ []) (sym here) in
      let joined : others ++ take (i + 1) group ≡ (others ++ take i group) ++ o ∷ [] = ap (λ (os : List Offer). others ++ os) cut ∙ sym (append_assoc others (take i group) (o ∷ [])) in
      subst (λ (os : List Offer). AreCandidates w all os after) (sym joined)
      (subst (AreCandidates w all ((others ++ take i group) ++ o ∷ [])) (sym added) (more_candidate (others ++ take i group) o c before (so_far others are) same is))

  pub whole : (group : List Offer) (i : ℕ) (first after : List Candidate) → length group ≤ i → MakesMore w all (take i group) first after → MakesMore w all group first after
  whole group i first after past so_far = subst (λ (os : List Offer). MakesMore w all os first after) (take_all i group past) so_far

  -- their offers in order, one more
  pub begin_listed : (group : List Offer) (before : List Candidate) → offers_of before ≡ offers_of before ++ take 0 group
  begin_listed group before = sym (append-nil (offers_of before))

  pub more_listed : (group : List Offer) (i : ℕ) (o : Offer) (first before after : List Candidate) (c : Candidate) → i < length group → o ≡ get_or group i o → c.offer ≡ o → after ≡ before ++ c ∷ []
      → offers_of before ≡ offers_of first ++ take i group → offers_of after ≡ offers_of first ++ take (i + 1) group
  more_listed group i o first before after c lt here same added so_far =
      let cut : take (i + 1) group ≡ take i group ++ o ∷ [] = take_more group i o lt ∙ ap (λ (x : Offer). take i group ++ x ∷ []) (sym here) in
      ap offers_of added
      ∙ map-append (λ (x : Candidate). x.offer) before (c ∷ [])
      ∙ ap (λ (os : List Offer). os ++ c.offer ∷ []) so_far
      ∙ ap (λ (x : Offer). (offers_of first ++ take i group) ++ x ∷ []) same
      ∙ append_assoc (offers_of first) (take i group) (o ∷ [])
      ∙ ap (λ (os : List Offer). offers_of first ++ os) (sym cut)

  pub whole_listed : (group : List Offer) (i : ℕ) (first after : List Candidate) → length group ≤ i → offers_of after ≡ offers_of first ++ take i group → offers_of after ≡ offers_of first ++ group
  whole_listed group i first after past so_far = so_far ∙ ap (λ (os : List Offer). offers_of first ++ os) (take_all i group past)

  -- for the offers of the networks so far
  pub record IsDone (networks : List Prefix) (candidates : List Candidate) : Type 0 where
    pub listed : offers_of candidates ≡ by_networks all networks
    pub offers : List Offer
    pub are : AreCandidates w all offers candidates
    pub some : (o : Offer) → Contains offers o → Contains all o
    pub every : (o : Offer) → Contains all o → Contains networks o.network → Contains offers o

  pub none_done : (networks : List Prefix) → IsDone (take 0 networks) []
  none_done networks = record {
    listed = refl;
    offers = [];
    are = record { sound = λ c among. absurd (no_element c among); complete = λ o among. absurd (no_element o among) };
    some = λ o among. absurd (no_element o among);
    every = λ o has among. absurd (no_element o.network among);
  }

  pub more_done : (networks : List Prefix) (i : ℕ) (p : Prefix) (before after : List Candidate) → i < length networks → p ≡ get_or networks i p → AddsNetwork w all p before after → IsDone (take i networks) before → IsDone (take (i + 1) networks) after
  more_done networks i p before after lt here adds done =
      let group = offers_for p all in
      let cut : take (i + 1) networks ≡ take i networks ++ p ∷ [] = take_more networks i p lt ∙ ap (λ (q : Prefix). take i networks ++ q ∷ []) (sym here) in
      let one : by_networks all (p ∷ []) ≡ group = append-nil group in record {
        listed = adds.1
            ∙ ap (λ (os : List Offer). os ++ group) done.listed
            ∙ ap (λ (os : List Offer). by_networks all (take i networks) ++ os) (sym one)
            ∙ sym (flat_map-append (λ (q : Prefix). offers_for q all) (take i networks) (p ∷ []))
            ∙ ap (by_networks all) (sym cut);
        offers = done.offers ++ group;
        are = adds.0 done.offers done.are;
        some = λ o among. elim (Contains-append_cases done.offers group o among) [
          | inl was ↦ done.some o was
          | inr new ↦ ((just_those p all o).0 new).0
        ];
        every = λ o has among. elim ((contains_more networks i p o.network lt here).0 among) [
          | inl was ↦ Contains-append_left done.offers group o (done.every o has was)
          | inr same ↦ Contains-append_right done.offers group o ((just_those p all o).1 (has, same))
        ];
      }

  pub all_in_order : (networks : List Prefix) (i : ℕ) (candidates : List Candidate) → length networks ≤ i → IsStrictlySortedBy network_cmp networks → IsDone (take i networks) candidates → AreCandidatesInOrder all candidates
  all_in_order networks i candidates past ascend done = record { networks = networks; ascend = ascend; listed = done.listed ∙ ap (by_networks all) (take_all i networks past) }

  pub all_done : (networks : List Prefix) (i : ℕ) (candidates : List Candidate) → length networks ≤ i → AreNetworks all networks → IsDone (take i networks) candidates → AreCandidates w all all candidates
  all_done networks i candidates past are done =
      let every : (o : Offer) → Contains all o → Contains done.offers o = λ o has. done.every o has (subst (λ (ps : List Prefix). Contains ps o.network) (sym (take_all i networks past)) (are o has)) in record {
        sound = λ c among. let is = done.are.sound c among in (done.some c.offer is.0, is.1);
        complete = λ o has. done.are.complete o (every o has);
      }
