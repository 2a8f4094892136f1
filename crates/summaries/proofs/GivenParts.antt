-- The sources of a summary, part by part.
use Rattle.std.proofs.Common.{◌≡◌, ◌≢◌, ℕ, true, false, cond, ◌+◌, ◌<◌, ◌≤◌, ◌==◌, List, [], ◌∷◌, length, take, get_or, Option, Some, None, refl, sym, subst, ◌∙◌, ◌⊎◌, inl, inr, arith}
use Rattle.std.specs.Prelude.{◌↔◌, Contains, All}
use Rattle.std.proofs.Math.Path.{subst₂}
use Rattle.std.specs.FinMap.{get}
use Rattle.std.proofs.lemmas.Bool.Decides.{Decides-eqb}
use Rattle.ospf_types.specs.declared.config.AreaConfig.{AreaConfig}
use Rattle.ospf_types.specs.declared.config.Stub.{Stub}
use Rattle.ospf_types.specs.declared.key.Dest.TheVariants.{Net}
use Rattle.ospf_types.specs.declared.prefix.Prefix.{Prefix}
use Rattle.ospf_types.specs.Address.{Covers}
use Rattle.ospf_types.specs.Summaries.{IsGreatest}
use Rattle.ospf_types.proofs.Elements.{no_element, contains_more}
use Rattle.ospf_types.proofs.InOrder.{only_item}
use Rattle.active_ranges.proofs.Greatest.{is_greatest}
use Rattle.external.specs.AsbrRoute.{PreferredValue}
use Rattle.summaries.specs.declared.giving.Through.{Through}
use Rattle.summaries.specs.Candidates.{CostsInto, IsIntraThrough, IsPreferredThrough, IsRangeThrough, LeadsThrough, metric_beside}
use Rattle.summaries.specs.Inputs.{SummaryInputsValue}
use Rattle.summaries.specs.Giving.{IsMost, IsComponentIn, IsOutsideRanges, GivesIn, IntraGives, InterGives, RangeGives, RangeGivesBy, IsRouterDueIn, IsServed, PreferredGives}
use Rattle.active_ranges.proofs.Searching.{HasNone}

-- ---- networks outside the ranges of their area

-- the area is this one, and a range of it has the network
abbrev pub HasInRange : ℕ → Prefix → AreaConfig → Type 0
HasInRange id network a = (a.id ≡ id) × (All (λ r. Covers r.prefix network → ⊥) a.ranges → ⊥)

pub is_outside : (areas : List AreaConfig) (id : ℕ) (network : Prefix) → HasNone (HasInRange id network) areas → IsOutsideRanges areas id network
is_outside areas id network none a there is k d lt covers = none a there (is, λ all. all k d lt covers)

-- ---- the greatest of several

module _ {P Q : ℕ → Type 0} where
  -- the greatest of an equivalent property
  pub most_as : (most : Option ℕ) → ((n : ℕ) → P n ↔ Q n) → IsMost P most → IsMost Q most
  most_as most same is = record { found = λ n e. (same n).0 (is.found n e); reached = λ n q. is.reached n ((same n).1 q) }

-- of what it was of, and more
pub most_more : {P Q R : ℕ → Type 0} (before after : Option ℕ) → IsMost P before → ((n : ℕ) → R n ↔ Q n) → IsMost (λ n. (before ≡ Some n) ⊎ R n) after → IsMost (λ n. P n ⊎ Q n) after
most_more before after was same is = record {
  found = λ n e. elim (is.found n e) [ inl had ↦ inl (was.found n had) | inr r ↦ inr ((same n).0 r) ];
  reached = λ n has. elim has [
    | inl p ↦
        let f = was.reached n p in
        let r = is.reached f.0 (inl f.1) in
        let low : n ≤ f.0 = f.2 in
        let high : f.0 ≤ r.0 = r.2 in
        (r.0, r.1, omega (arith, low, high))
    | inr q ↦ is.reached n (inr ((same n).1 q))
  ];
}

-- where nothing is added
most_stays : {R : ℕ → Type 0} (old : Option ℕ) → ((n : ℕ) → R n → ⊥) → IsMost (λ n. (old ≡ Some n) ⊎ R n) old
most_stays old none = record {
  found = λ n e. inl e;
  reached = λ n w. elim w [ inl e ↦ (n, e, omega arith) | inr r ↦ absurd (none n r) ];
}

-- where one number is added, which is no greater
most_before : {R : ℕ → Type 0} (old y : ℕ) → y ≤ old → ((n : ℕ) → R n → y ≡ n) → IsMost (λ n. (Some old ≡ Some n) ⊎ R n) (Some old)
most_before old y le only = record {
  found = λ n e. inl e;
  reached = λ n w. elim w [ inl e ↦ (n, e, omega arith) | inr r ↦ let is : y ≡ n = only n r in (old, refl, omega (arith, is, le)) ];
}

-- or which is no less
most_after : {R : ℕ → Type 0} (old : Option ℕ) (y : ℕ) → ((m : ℕ) → old ≡ Some m → m ≤ y) → R y → ((n : ℕ) → R n → y ≡ n) → IsMost (λ n. (old ≡ Some n) ⊎ R n) (Some y)
most_after {R = R} old y le has only = record {
  found = λ n e. inr (subst R (one e) has);
  reached = λ n w. elim w [ inl e ↦ (y, refl, le n e) | inr r ↦ let is : y ≡ n = only n r in (y, refl, omega (arith, is)) ];
}
  where
    one : {n : ℕ} → Some y ≡ Some n → y ≡ n
    one e = cc

pub most_greatest : (P : ℕ → Type 0) (most : Option ℕ) → IsMost P most → (n : ℕ) → (most ≡ Some n) ↔ IsGreatest P n
most_greatest P most is = is_greatest P most is.found is.reached

-- ---- what has the greatest metric, and what comes next

-- in the area that it leads through what comes next counts, and elsewhere itself
beside : (t : Through) (next : Option ℕ) (area : ℕ) → ((t.area ≡ area) × (metric_beside (Some t) next area ≡ next)) ⊎ ((t.area ≢ area) × (metric_beside (Some t) next area ≡ Some t.cost))
beside t next area =
    elim (t.area == area) as (λ b. t.area == area ≡ b → ((t.area ≡ area) × (cond b next (Some t.cost) ≡ next)) ⊎ ((t.area ≢ area) × (cond b next (Some t.cost) ≡ Some t.cost))) [
      | true ↦ λ is. inl ((Decides-eqb t.area area).0 is, refl)
      | false ↦ λ is. inr ((λ same. let wrong : true ≡ false = sym ((Decides-eqb t.area area).1 same) ∙ is in absurd cc), refl)
    ] refl

pub some_same : {A : Type 0} {x y : A} → Some x ≡ Some y → x ≡ y
some_same e = cc

module _ (t : Through) (area : ℕ) where
  nowhere : t.area ≡ area → (n : ℕ) → CostsInto (Some t) area n → ⊥
  nowhere same n w = w.2 (subst (λ (s : Through). s.area ≡ area) (some_same w.1) same)

  only_cost : (n : ℕ) → CostsInto (Some t) area n → t.cost ≡ n
  only_cost n w = subst (λ (s : Through). s.cost ≡ n) (sym (some_same w.1)) w.3

  its_cost : t.area ≢ area → CostsInto (Some t) area t.cost
  its_cost other = (t, refl, other, refl)

abbrev Adds : Option Through → Option ℕ → Option Through → ℕ → Option ℕ → Type 0
Adds most next through area after = IsMost (λ n. (metric_beside most next area ≡ Some n) ⊎ CostsInto through area n) after

-- nothing is added
pub adds_none : (most : Option Through) (next : Option ℕ) (area : ℕ) → Adds most next None area (metric_beside most next area)
adds_none most next area = most_stays (metric_beside most next area) (λ n w. let wrong : None ≡ Some w.0 = w.1 in absurd cc)

-- it is the first
pub adds_first : (t : Through) (next : Option ℕ) (area : ℕ) → ((m : ℕ) → next ≡ Some m → ⊥) → Adds None next (Some t) area (metric_beside (Some t) None area)
adds_first t next area none = elim (beside t None area) [
  | inl here ↦ subst (Adds None next (Some t) area) (sym here.1) (record {
    found = λ n e. absurd (let wrong : None ≡ Some n = e in cc);
    reached = λ n w. elim w [ inl e ↦ absurd (none n e) | inr c ↦ absurd (nowhere t area here.0 n c) ];
  })
  | inr there ↦ subst (Adds None next (Some t) area) (sym there.1) (most_after next t.cost (λ m e. absurd (none m e)) (its_cost t area there.0) (only_cost t area))
]

module _ (u t : Through) (next : Option ℕ) (area : ℕ) where
  abbrev AddsTo : Option ℕ → Option ℕ → Type 0
  AddsTo old after = IsMost (λ n. (old ≡ Some n) ⊎ CostsInto (Some t) area n) after

  -- both lead through the same area: the costlier of them counts
  pub adds_same : (w : Through) → t.area ≡ u.area → (w ≡ u) ⊎ (w ≡ t) → u.cost ≤ w.cost → t.cost ≤ w.cost → Adds (Some u) next (Some t) area (metric_beside (Some w) next area)
  adds_same w same one first second =
      let through : w.area ≡ u.area = elim one [ inl is ↦ (λ i. (is i).area) | inr is ↦ (λ i. (is i).area) ∙ same ] in
      elim (beside u next area) [
        | inl here ↦ elim (beside w next area) [
          | inl at ↦ subst₂ AddsTo (sym here.1) (sym at.1) (most_stays next (nowhere t area (same ∙ here.0)))
          | inr off ↦ absurd (off.0 (through ∙ here.0))
        ]
        | inr there ↦ elim (beside w next area) [
          | inl at ↦ absurd (there.0 (sym through ∙ at.0))
          | inr off ↦ subst₂ AddsTo (sym there.1) (sym off.1) (elim one [
            | inl is ↦ subst (λ (x : Through). AddsTo (Some u.cost) (Some x.cost)) (sym is) (most_before u.cost t.cost (subst (λ (x : Through). t.cost ≤ x.cost) is second) (only_cost t area))
            | inr is ↦ subst (λ (x : Through). AddsTo (Some u.cost) (Some x.cost)) (sym is)
                (most_after (Some u.cost) t.cost (λ m e. subst (λ (n : ℕ). n ≤ t.cost) (some_same e) (subst (λ (x : Through). u.cost ≤ x.cost) is first)) (its_cost t area (λ at. there.0 (sym same ∙ at))) (only_cost t area))
          ])
        ]
      ]

  -- it leads through another area, at a greater cost: then the other comes next
  pub adds_greater : t.area ≢ u.area → u.cost < t.cost → ((m : ℕ) → next ≡ Some m → m ≤ u.cost) → Adds (Some u) next (Some t) area (metric_beside (Some t) (Some u.cost) area)
  adds_greater other greater ordered = elim (beside t (Some u.cost) area) [
    | inl at ↦ elim (beside u next area) [
      | inl here ↦ absurd (other (at.0 ∙ sym here.0))
      | inr there ↦ subst₂ AddsTo (sym there.1) (sym at.1) (most_stays (Some u.cost) (nowhere t area at.0))
    ]
    | inr off ↦ elim (beside u next area) [
      | inl here ↦ subst₂ AddsTo (sym here.1) (sym off.1) (most_after next t.cost (λ m e. let low = ordered m e in omega (arith, low, greater)) (its_cost t area off.0) (only_cost t area))
      | inr there ↦ subst₂ AddsTo (sym there.1) (sym off.1) (most_after (Some u.cost) t.cost (λ m e. let is : u.cost ≡ m = some_same e in omega (arith, is, greater)) (its_cost t area off.0) (only_cost t area))
    ]
  ]

  -- it leads through another area, at a cost that is no greater
  pub adds_lesser : (after : Option ℕ) → t.area ≢ u.area → t.cost ≤ u.cost → IsMost (λ n. (next ≡ Some n) ⊎ (Some t.cost ≡ Some n)) after → Adds (Some u) next (Some t) area (metric_beside (Some u) after area)
  adds_lesser after other lesser is = elim (beside u next area) [
    | inl here ↦ elim (beside u after area) [
      | inl at ↦ subst₂ AddsTo (sym here.1) (sym at.1) (most_as after (λ n. (
        λ w. elim w [ inl e ↦ inl e | inr e ↦ inr (subst (CostsInto (Some t) area) (some_same e) (its_cost t area (λ same. other (same ∙ sym here.0)))) ],
        λ w. elim w [ inl e ↦ inl e | inr c ↦ inr (λ i. Some (only_cost t area n c i)) ],
      )) is)
      | inr off ↦ absurd (off.0 here.0)
    ]
    | inr there ↦ elim (beside u after area) [
      | inl at ↦ absurd (there.0 at.0)
      | inr off ↦ subst₂ AddsTo (sym there.1) (sym off.1) (most_before u.cost t.cost lesser (only_cost t area))
    ]
  ]

-- ---- the ranges of other areas

-- one of these areas gives it
abbrev pub GivenAmong : SummaryInputsValue → ℕ → Prefix → List AreaConfig → ℕ → Type 0
GivenAmong v area p areas m = (a : AreaConfig) × Contains areas a × RangeGivesBy v a area p m

module _ (v : SummaryInputsValue) (area : ℕ) (p : Prefix) where
  range_gives : (a : AreaConfig) (through : Option Through) → ((t : Through) → (through ≡ Some t) ↔ IsRangeThrough v a p t) → (n : ℕ) → CostsInto through area n ↔ RangeGivesBy v a area p n
  range_gives a through of n = (
    λ w.
        let by = (of w.0).0 w.1 in
        ((λ same. w.2 (by.0 ∙ same)), by.1, subst (IsGreatest (IsComponentIn v a.id p)) w.3 by.2),
    λ g.
        let t : Through = record { area = a.id; cost = n } in
        (t, (of t).1 (refl, g.1, g.2), g.0, refl),
  )

  pub given_none : (own : Option ℕ) → IsMost (λ n. (own ≡ Some n) ⊎ GivenAmong v area p [] n) own
  given_none own = most_stays own (λ n w. no_element w.0 w.1)

  pub given_more : (own : Option ℕ) (areas : List AreaConfig) (i : ℕ) (a : AreaConfig) (before after : Option ℕ) (through : Option Through) → i < length areas → a ≡ get_or areas i a
      → IsMost (λ n. (own ≡ Some n) ⊎ GivenAmong v area p (take i areas) n) before → ((t : Through) → (through ≡ Some t) ↔ IsRangeThrough v a p t) → IsMost (λ n. (before ≡ Some n) ⊎ CostsInto through area n) after
      → IsMost (λ n. (own ≡ Some n) ⊎ GivenAmong v area p (take (i + 1) areas) n) after
  given_more own areas i a before after through lt at is of most =
      most_as after (λ n. (
        λ w. elim w [
          | inl had ↦ elim had [
            | inl e ↦ inl e
            | inr g ↦ inr (g.0, (contains_more areas i a g.0 lt at).1 (inl g.1), g.2)
          ]
          | inr by ↦ inr (a, (contains_more areas i a a lt at).1 (inr refl), by)
        ],
        λ w. elim w [
          | inl e ↦ inl (inl e)
          | inr g ↦ elim ((contains_more areas i a g.0 lt at).0 g.1) [
            | inl was ↦ inl (inr (g.0, was, g.2))
            | inr same ↦ inr (subst (λ (b : AreaConfig). RangeGivesBy v b area p n) same g.2)
          ]
        ],
      )) (most_more before after is (range_gives a through of) most)

  pub given_all : (own most : Option ℕ) → IsMost (λ n. (own ≡ Some n) ⊎ GivenAmong v area p v.areas n) most → IsMost (λ n. (own ≡ Some n) ⊎ RangeGives v area p n) most
  given_all own most = most_as most (λ n. (
    λ w. elim w [
      | inl e ↦ inl e
      | inr g ↦ let by = g.2 in inr (g.0.id, (g.0, by.1.0, g.1, refl, by.1.1, by.1.2, by.1.3), by.0, by.2)
    ],
    λ w. elim w [
      | inl e ↦ inl e
      | inr r ↦
          let through = r.0 in
          let in_area = r.1 in
          let a = in_area.0 in
          let is : a.id ≡ through = in_area.3 in
          inr (a, in_area.2, (λ same. r.2 (sym is ∙ same), (in_area.1, in_area.4, in_area.5, in_area.6), subst (λ (id : ℕ). IsGreatest (IsComponentIn v id p) n) (sym is) r.3))
    ],
  ))

-- ---- an area that is served is one of two at least

pub two_active : (active : List ℕ) (area : ℕ) → IsServed active area → 1 < length active
two_active [] area served = absurd (no_element area served.here)
two_active (x ∷ []) area served =
    let another = served.other.0 in
    absurd (served.other.2 (only_item x another served.other.1 ∙ sym (only_item x area served.here)))
two_active (x ∷ y ∷ rest) area served = omega arith

-- ---- what gives a summary, in one area

module _ (v : SummaryInputsValue) (area : ℕ) (p : Prefix) where
  intra_gives : (through : Option Through) → ((t : Through) → (through ≡ Some t) ↔ IsIntraThrough v p t) → (n : ℕ) → CostsInto through area n ↔ IntraGives v area p n
  intra_gives through of n = (
    λ w.
        let by = (of w.0).0 w.1 in
        let e = by.0 in
        (e.0, w.0.area, e.1, record { through_area = e.2; foreign = w.2; finite = e.3 }, by.1, e.4 ∙ w.3),
    λ g.
        let t : Through = record { area = g.1; cost = g.0.cost } in
        (t, (of t).1 ((g.0, g.2, g.3.through_area, g.3.finite, refl), g.4), g.3.foreign, g.5),
  )

  inter_gives : (through : Option Through) → ((t : Through) → (through ≡ Some t) ↔ LeadsThrough (get v.inter.entries (Net p)) t) → (n : ℕ) → CostsInto through area n ↔ InterGives v area p n
  inter_gives through of n = (
    λ w.
        let e = (of w.0).0 w.1 in
        (e.0, w.0.area, e.1, record { through_area = e.2; foreign = w.2; finite = e.3 }, e.4 ∙ w.3),
    λ g.
        let t : Through = record { area = g.1; cost = g.0.cost } in
        (t, (of t).1 (g.0, g.2, g.3.through_area, g.3.finite, refl), g.3.foreign, g.4),
  )

  -- the greatest of all that gives one
  pub greatest_of : (none first own most : Option ℕ) (intra inter : Option Through) → ((t : Through) → (intra ≡ Some t) ↔ IsIntraThrough v p t)
      → ((t : Through) → (inter ≡ Some t) ↔ LeadsThrough (get v.inter.entries (Net p)) t) → none ≡ None → IsMost (λ n. (none ≡ Some n) ⊎ CostsInto intra area n) first
      → IsMost (λ n. (first ≡ Some n) ⊎ CostsInto inter area n) own → IsMost (λ n. (own ≡ Some n) ⊎ RangeGives v area p n) most → (m : ℕ) → (most ≡ Some m) ↔ IsGreatest (GivesIn v area p) m
  greatest_of none first own most intra inter of_intra of_inter is of_first of_own of_most =
      let nothing : IsMost (λ n. ⊥) none = record {
        found = λ n e. let wrong : None ≡ Some n = sym is ∙ e in absurd cc;
        reached = λ n wrong. absurd wrong;
      } in
      let intras : IsMost (λ n. ⊥ ⊎ IntraGives v area p n) first = most_more none first nothing (intra_gives intra of_intra) of_first in
      let owns : IsMost (λ n. (⊥ ⊎ IntraGives v area p n) ⊎ InterGives v area p n) own = most_more first own intras (inter_gives inter of_inter) of_own in
      let all : IsMost (λ n. ((⊥ ⊎ IntraGives v area p n) ⊎ InterGives v area p n) ⊎ RangeGives v area p n) most = most_more own most owns (λ n. (λ r. r, λ r. r)) of_most in
      most_greatest (GivesIn v area p) most (most_as most (λ n. (
        λ w. elim w [
          | inl one ↦ elim one [ inl first ↦ elim first [ inl wrong ↦ absurd wrong | inr i ↦ inl i ] | inr j ↦ inr (inl j) ]
          | inr r ↦ inr (inr r)
        ],
        λ w. elim w [ inl i ↦ inl (inl (inr i)) | inr more ↦ elim more [ inl j ↦ inl (inr j) | inr r ↦ inr r ] ],
      )) all)

-- an AS boundary router, by the preferred route
pub router_gives : (area : ℕ) (preferred : Option PreferredValue) (through : Option Through) → ((t : Through) → (through ≡ Some t) ↔ IsPreferredThrough preferred t)
    → (m : ℕ) → (metric_beside through None area ≡ Some m) ↔ PreferredGives preferred area m
router_gives area preferred None of m = (
  λ wrong. absurd (let no : None ≡ Some m = wrong in cc),
  λ g.
      let t : Through = record { area = g.0.preference.area; cost = g.0.preference.cost } in
      let no : None ≡ Some t = (of t).1 (g.0, g.1, refl, g.3, refl) in absurd cc,
)
router_gives area preferred (Some t) of m =
    let by = (of t).0 refl in
    elim (beside t None area) [
      | inl here ↦ (
        λ e. let no : None ≡ Some m = sym here.1 ∙ e in absurd cc,
        λ g.
            let s : Through = record { area = g.0.preference.area; cost = g.0.preference.cost } in
            let same : t ≡ s = some_same ((of s).1 (g.0, g.1, refl, g.3, refl)) in
            absurd (g.2 ((λ i. (sym same i).area) ∙ here.0)),
      )
      | inr there ↦ (
        λ e. (by.0, by.1, (λ same. there.0 (sym by.2 ∙ same)), by.3, by.4 ∙ some_same (sym there.1 ∙ e)),
        λ g.
            let s : Through = record { area = g.0.preference.area; cost = g.0.preference.cost } in
            let same : t ≡ s = some_same ((of s).1 (g.0, g.1, refl, g.3, refl)) in
            there.1 ∙ (λ i. Some ((same i).cost)) ∙ (λ i. Some (g.4 i)),
      )
    ]

pub router_due : (v : SummaryInputsValue) (area : ℕ) (stub : Option Stub) (router m : ℕ) → ((stub ≡ None) × PreferredGives (get v.external.preferred router) area m) ↔ IsRouterDueIn v area stub router m
router_due v area None router m = (λ w. w.1, λ gives. (refl, gives))
router_due v area (Some stub) router m = (λ w. absurd (let wrong : Some stub ≡ None = w.0 in cc), λ none. absurd none)
