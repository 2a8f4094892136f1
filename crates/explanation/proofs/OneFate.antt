-- An offer that is taken within the AS has no other verdict, however its rivals are ordered.
use Rattle.std.proofs.Common.{◌≡◌, ◌≤◌, ◌+◌, ℕ, List, Option, Some, None, refl, sym, ap, subst, ◌∙◌, inl, inr, le_antisymm, arith}
use Rattle.std.specs.Prelude.{Contains}
use Rattle.ospf_types.specs.declared.entry.Entry.{Entry}
use Rattle.ospf_types.specs.declared.entry.Vertex.TheVariants.{Router}
use Rattle.ospf_types.specs.declared.key.Scope.{Scope}
use Rattle.ospf_types.specs.declared.key.Scope.TheVariants.{Area}
use Rattle.ospf_types.specs.declared.prefix.Prefix.{Prefix}
use Rattle.route_choice.specs.ReachedRouter.{ReachedValue}
use Rattle.explanation.specs.declared.verdict.Verdict.{Verdict}
use Rattle.explanation.specs.declared.verdict.Verdict.TheVariants as verdict
use Rattle.explanation.specs.declared.judging.Judged.{Judged}
use Rattle.explanation.specs.declared.layers.Layers.{Layers}
use Rattle.explanation.specs.declared.offer.Offer.{Offer}
use Rattle.explanation.specs.declared.offer.OfferKind.{OfferKind}
use Rattle.explanation.specs.declared.offer.OfferKind.TheVariants as kind
use Rattle.explanation.specs.declared.offered.ExternalKey.{ExternalKey}
use Rattle.explanation.specs.Judging.{IsInternalCost, IsFateWithin, IsGreatestId, IsJudged, IsJudgedAs, IsJudgedIn, IsJudgedWithin, IsRivalsOf, LacksCostWithin}
use Rattle.explanation.specs.Layers.{AreAreas, internal_at}
use Rattle.explanation.specs.Groups.{AreOfNetwork}
use Rattle.explanation.specs.Networks.{IsTakenAmong}
use Rattle.explanation.specs.Offered.{IsStubCost, IsSummaryCost, LacksStubCost, LacksSummaryCost}
use Rattle.explanation.specs.Outside.{IsInRoute}
use Rattle.explanation.proofs.Rivals.{some_same}
use Rattle.explanation.proofs.Standings.{has_cost, one_cost, one_distance}

-- compared with one route within the AS
alone : (e : Entry) (greatest : Option ℕ) (o : Offer) (area cost : ℕ) (f : Verdict) → IsFateWithin (Some e) greatest o area cost verdict.Taken → IsFateWithin (Some e) greatest o area cost f → f ≡ verdict.Taken
alone e greatest o area cost verdict.IntraArea taken is = absurd (taken.3 is.1 is.0)
alone e greatest o area cost verdict.Costlier taken is = let no_more = taken.0 in let more = is.0 in absurd (omega (arith, no_more, more))
alone e greatest o area cost verdict.LesserArea taken is = absurd (is.1 taken.1)
alone e greatest o area cost verdict.LesserId taken is = absurd (is.3 (taken.2 is.2))
alone e greatest o area cost verdict.Taken taken is = refl
alone e greatest o area cost _ taken is = absurd is

module _ (w : Layers) (are : AreAreas w.areas.now) where
  -- the greatest Link State ID does not depend on the order of these offers
  one_greatest : (e : Entry) (these those : List Offer) → ((o : Offer) → Contains these o → Contains those o) → ((o : Offer) → Contains those o → Contains these o)
      → (g h : Option ℕ) → IsGreatestId w e these g → IsGreatestId w e those h → g ≡ h
  one_greatest e these those to fro None None one other = refl
  one_greatest e these those to fro None (Some h) one other =
      let o = other.one h refl in
      let id = one.no_greater o.0 (fro o.0 o.1) o.2 in
      absurd (let wrong : None ≡ Some id.0 = id.1 in cc)
  one_greatest e these those to fro (Some g) None one other =
      let o = one.one g refl in
      let id = other.no_greater o.0 (to o.0 o.1) o.2 in
      absurd (let wrong : None ≡ Some id.0 = id.1 in cc)
  one_greatest e these those to fro (Some g) (Some h) one other =
      let o = one.one g refl in
      let p = other.one h refl in
      let up = other.no_greater o.0 (to o.0 o.1) o.2 in
      let down = one.no_greater p.0 (fro p.0 p.1) p.2 in
      let least : g ≤ h = subst (λ (k : ℕ). k ≤ h) o.3 (subst (λ (k : ℕ). o.0.source.key.id ≤ k) (sym (some_same h up.0 up.1)) up.2) in
      let most : h ≤ g = subst (λ (k : ℕ). k ≤ g) p.3 (subst (λ (k : ℕ). p.0.source.key.id ≤ k) (sym (some_same g down.0 down.1)) down.2) in
      ap Some (le_antisymm least most)

  module _ (area : ℕ) (o : Offer) where
    one_stub : (metric c d : ℕ) → IsStubCost w area o metric c → IsStubCost w area o metric d → c ≡ d
    one_stub metric c d x y = elim x.1 [
      | inl own ↦ elim y.1 [ inl too ↦ own.2 ∙ sym too.2 | inr other ↦ absurd (other.0 own.0) ]
      | inr far ↦ elim y.1 [
        | inl own ↦ absurd (far.0 own.0)
        | inr too ↦
            let same = some_same far.1.0 too.1.0 (one_distance w.areas.now are area (Router o.source.key.router) (Some far.1.0) (Some too.1.0) far.1.1 too.1.1) in
            far.1.2 ∙ ap (λ (k : ℕ). k + metric) same ∙ sym too.1.2
      ]
    ]

    has_stub : (metric c : ℕ) (f : Verdict) → IsStubCost w area o metric c → LacksStubCost w area o f → ⊥
    has_stub metric c verdict.MaxAge x lacks = let young = x.0 in omega (arith, young, lacks)
    has_stub metric c verdict.NoInterface x lacks = elim x.1 [ inl own ↦ lacks.2 own.1 | inr far ↦ far.0 lacks.1 ]
    has_stub metric c verdict.Unreached x lacks = elim x.1 [
      | inl own ↦ lacks.1 own.0
      | inr far ↦ let wrong : Some far.1.0 ≡ None = one_distance w.areas.now are area (Router o.source.key.router) (Some far.1.0) None far.1.1 lacks.2 in absurd cc
    ]
    has_stub metric c _ x lacks = lacks

    one_summary : (metric c d : ℕ) → IsSummaryCost w area o metric c → IsSummaryCost w area o metric d → c ≡ d
    one_summary metric c d x y =
        let same : x.3.0 ≡ y.3.0 = some_same x.3.0 y.3.0 (sym x.3.1.0 ∙ y.3.1.0) in
        x.3.2 ∙ ap (λ (r : ReachedValue). r.distance + metric) same ∙ sym y.3.2

    has_summary : (metric c : ℕ) (f : Verdict) → IsSummaryCost w area o metric c → LacksSummaryCost w area o metric f → ⊥
    has_summary metric c verdict.NotExamined x lacks = let is = x.0 in absurd cc
    has_summary metric c verdict.ActiveRange x lacks = x.2 lacks.2
    has_summary metric c verdict.NoBorderRouter x lacks = lacks.3 x.3.0 x.3.1
    has_summary metric c verdict.MaxAge x lacks = let young = x.1.0 in let old = lacks.1.1 in omega (arith, young, old)
    has_summary metric c verdict.Infinity x lacks = let less = x.1.1 in let more = lacks.1 in omega (arith, less, more)
    has_summary metric c verdict.Own x lacks = x.1.2 lacks.1.2
    has_summary metric c _ x lacks = lacks.1

    one_within : (k : OfferKind) (c d : ℕ) → IsInternalCost w area o k c → IsInternalCost w area o k d → c ≡ d
    one_within (kind.Stub metric) c d x y = one_stub metric c d x y
    one_within kind.Transit c d x y = one_cost w are area o c d x y
    one_within (kind.Summary metric) c d x y = one_summary metric c d x y
    one_within (kind.AsExternal metric external) c d x y = absurd x

    has_within : (k : OfferKind) (c : ℕ) (f : Verdict) → IsInternalCost w area o k c → LacksCostWithin w area o k f → ⊥
    has_within (kind.Stub metric) c f x lacks = has_stub metric c f x lacks
    has_within kind.Transit c f x lacks = has_cost w are area o c f x lacks
    has_within (kind.Summary metric) c f x lacks = has_summary metric c f x lacks
    has_within (kind.AsExternal metric external) c f x lacks = x

    never_taken : (k : OfferKind) → LacksCostWithin w area o k verdict.Taken → ⊥
    never_taken (kind.Stub metric) lacks = lacks
    never_taken kind.Transit lacks = lacks
    never_taken (kind.Summary metric) lacks = lacks.1
    never_taken (kind.AsExternal metric external) lacks = absurd cc

    module _ (e : Entry) (greatest : Option ℕ) where
      one_in : (cost : Option ℕ) (judged : Judged) → IsJudgedIn (IsInternalCost w area o o.kind) (LacksCostWithin w area o o.kind) (λ c. c) (IsFateWithin (Some e) greatest o area) (record { cost = cost; verdict = verdict.Taken })
          → IsJudgedIn (IsInternalCost w area o o.kind) (LacksCostWithin w area o o.kind) (λ c. c) (IsFateWithin (Some e) greatest o area) judged → judged.verdict ≡ verdict.Taken
      one_in cost judged (inl taken) (inl is) = alone e greatest o area taken.0 judged.verdict taken.3 (subst (λ (c : ℕ). IsFateWithin (Some e) greatest o area c judged.verdict) (one_within o.kind is.0 taken.0 is.1 taken.1) is.3)
      one_in cost judged (inl taken) (inr is) = absurd (has_within o.kind taken.0 judged.verdict taken.1 is.1)
      one_in cost judged (inr taken) is = absurd (never_taken o.kind taken.1)

      one_there : (scope : Scope) → scope ≡ Area area → (cost : Option ℕ) (judged : Judged) → IsJudgedWithin w (Some e) greatest o scope (record { cost = cost; verdict = verdict.Taken }) → IsJudgedWithin w (Some e) greatest o scope judged → judged.verdict ≡ verdict.Taken
      one_there scope here cost judged taken is =
          one_in cost judged (subst (λ (s : Scope). IsJudgedWithin w (Some e) greatest o s (record { cost = cost; verdict = verdict.Taken })) here taken) (subst (λ (s : Scope). IsJudgedWithin w (Some e) greatest o s judged) here is)

      one_as : (k : OfferKind) (least lesser : Option ExternalKey) → o.source.scope ≡ Area area → (cost : Option ℕ) (judged : Judged) → IsJudgedAs w (Some e) greatest least o k (record { cost = cost; verdict = verdict.Taken })
          → IsJudgedAs w (Some e) greatest lesser o k judged → judged.verdict ≡ verdict.Taken
      one_as (kind.Stub metric) least lesser here cost judged taken is = one_there o.source.scope here cost judged taken is
      one_as kind.Transit least lesser here cost judged taken is = one_there o.source.scope here cost judged taken is
      one_as (kind.Summary metric) least lesser here cost judged taken is = one_there o.source.scope here cost judged taken is
      one_as (kind.AsExternal metric external) least lesser here cost judged (inl taken) is = absurd (let wrong : verdict.Taken ≡ verdict.Internal = taken.3 in cc)
      one_as (kind.AsExternal metric external) least lesser here cost judged (inr taken) is = absurd taken.1

  module _ (by : Offer) (network : Prefix) (same : by.network ≡ network) (all offers : List Offer) (of : AreOfNetwork network all offers)
      (internal : Option Entry) (greatest : Option ℕ) (least : Option ExternalKey) (rivals : IsRivalsOf w network offers internal greatest least)
      (judged : Judged) (is : IsJudged w internal greatest least by judged) where
    -- an offer that is found taken is taken
    pub taken_among : judged.verdict ≡ verdict.Taken → IsTakenAmong w all by
    taken_among taken = (
      judged.cost,
      record {
        among = offers;
        among_are = subst (λ (p : Prefix). AreOfNetwork p all offers) (sym same) of;
        internal = internal;
        greatest = greatest;
        least = least;
        rivals = subst (λ (p : Prefix). IsRivalsOf w p offers internal greatest least) (sym same) rivals;
        is = subst (λ (f : Verdict). IsJudged w internal greatest least by (record { cost = judged.cost; verdict = f })) taken is;
      },
    )

    -- and what is taken is found so
    pub one_fate : (area : ℕ) (e : Entry) → IsInRoute w by area e → IsTakenAmong w all by → judged.verdict ≡ verdict.Taken
    one_fate area e route (cost, taken) =
        let one : taken.internal ≡ Some e = taken.rivals.internal_is ∙ route.1 in
        let other : internal ≡ Some e = rivals.internal_is ∙ sym (ap (λ (p : Prefix). internal_at w.calculation.now p) same) ∙ route.1 in
        let to = λ (o : Offer) (c : Contains taken.among o). let has = (taken.among_are o).0 c in (of o).1 (has.0, has.1 ∙ same) in
        let fro = λ (o : Offer) (c : Contains offers o). let has = (of o).0 c in (taken.among_are o).1 (has.0, has.1 ∙ sym same) in
        let top : greatest ≡ taken.greatest = sym (one_greatest e taken.among offers to fro taken.greatest greatest (taken.rivals.greatest_is e one) (rivals.greatest_is e other)) in
        let was = subst (λ (i : Option Entry). IsJudged w i taken.greatest taken.least by (record { cost = cost; verdict = verdict.Taken })) one taken.is in
        let now = subst (λ (g : Option ℕ). IsJudged w (Some e) g least by judged) top (subst (λ (i : Option Entry). IsJudged w i greatest least by judged) other is) in
        one_as area by e taken.greatest by.kind taken.least least route.0 cost judged was now
