-- Which sources give a summary in an area: just what the definitions say.
use Rattle.std.proofs.Common.{◌≡◌, ℕ, ◌<◌, ◌≤◌, List, [], ◌∷◌, ◌++◌, Option, Some, None, refl, sym, ap, subst, ◌∙◌, ◌⊎◌, inl, inr, arith}
use Rattle.std.specs.Prelude.{◌↔◌, Contains}
use Rattle.std.specs.FinMap.{get}
use Rattle.std.proofs.lemmas.List.Elements.{Contains-append_left, Contains-append_right, Contains-append_cases}
use Rattle.ospf_types.specs.declared.config.AreaConfig.{AreaConfig}
use Rattle.ospf_types.specs.declared.entry.Entry.{Entry}
use Rattle.ospf_types.specs.declared.key.Dest.TheVariants.{Net}
use Rattle.ospf_types.specs.declared.prefix.Prefix.{Prefix}
use Rattle.ospf_types.specs.Inter.{LSInfinity}
use Rattle.ospf_types.specs.Summaries.{IsGreatest}
use Rattle.ospf_types.proofs.Elements.{no_element, first_element, later_element, first_or_later}
use Rattle.external.specs.AsbrRoute.{PreferredValue}
use Rattle.summaries.specs.Giving.{Advertises, GivesIn, InterGives, IntraGives, IsComponentIn, IsOutsideRanges, PreferredGives, RangeGives, RangeGivesBy}
use Rattle.summaries.specs.Inputs.{SummaryInputsValue}
use Rattle.due_explanation.proofs.Ranges.{not_outside}
use Rattle.due_explanation.specs.Sources.{AreNetworkSources, AreRangeSources, GivesAmong, GivesInto, IsEntrySource, IsInterFate, IsIntraFate, IsPreferredSource, IsRangeFate, IsRangeSource, IsRouteFate, listed}
use Rattle.due_explanation.specs.declared.due.DueVerdict.{DueVerdict}
use Rattle.due_explanation.specs.declared.due.DueVerdict.TheVariants as verdict
use Rattle.due_explanation.specs.declared.due.DueSource.{DueSource}
use Rattle.due_explanation.specs.declared.due.SourceKind.TheVariants as kind

pub some_same : {A : Type 0} {x y : A} → Some x ≡ Some y → x ≡ y
some_same e = cc

-- ---- the verdict of what gives one

pub route_given : (cost : ℕ) (f : DueVerdict) → IsRouteFate cost f → cost < LSInfinity → f ≡ verdict.Given
route_given cost verdict.Infinity is finite = absurd (let low : LSInfinity ≤ cost = is in omega (arith, low, finite))
route_given cost verdict.Given is finite = refl
route_given cost f is finite = absurd is

module _ (areas : List AreaConfig) (p : Prefix) (through cost : ℕ) where
  pub intra_given : (f : DueVerdict) → IsIntraFate areas p through cost f → cost < LSInfinity → IsOutsideRanges areas through p → f ≡ verdict.Given
  intra_given verdict.Infinity is finite outside = absurd (let low : LSInfinity ≤ cost = is in omega (arith, low, finite))
  intra_given (verdict.InRange r) is finite outside = not_outside areas through p r is.1 outside
  intra_given verdict.Given is finite outside = refl
  intra_given f is finite outside = absurd is

pub range_given : (a : AreaConfig) (p : Prefix) (n : ℕ) (cost : Option ℕ) (f : DueVerdict) → IsRangeFate a p cost f → Advertises a p → cost ≡ Some n → f ≡ verdict.Given
range_given a p n cost verdict.NotAdvertised is told has = absurd (is told)
range_given a p n cost verdict.NoNetwork is told has = absurd (let wrong : None ≡ Some n = sym is.1 ∙ has in cc)
range_given a p n cost verdict.Given is told has = refl
range_given a p n cost f is told has = absurd is

-- ---- lists of sources

listed_is : (found : Option DueSource) (s : DueSource) → Contains (listed found) s → found ≡ Some s
listed_is None s there = absurd (no_element s there)
listed_is (Some t) s there = elim (first_or_later t s [] there) [ inl same ↦ ap Some (sym same) | inr later ↦ absurd (no_element s later) ]

is_listed : (found : Option DueSource) (s : DueSource) → found ≡ Some s → Contains (listed found) s
is_listed None s is = absurd (let wrong : None ≡ Some s = is in cc)
is_listed (Some t) s is = subst (λ (x : DueSource). Contains (t ∷ []) x) (some_same is) (first_element t [])

module _ (area : ℕ) where
  -- the summary that one source gives, if there is one
  abbrev pub GivesOf : Option DueSource → ℕ → Type 0
  GivesOf found n = (s : DueSource) × (found ≡ Some s) × GivesInto area s n

  pub given_listed : (found : Option DueSource) (n : ℕ) → GivesAmong area (listed found) n ↔ GivesOf found n
  given_listed found n = (λ w. (w.0, listed_is found w.0 w.1, w.2), λ w. (w.0, is_listed found w.0 w.1, w.2))

  pub given_either : (xs ys : List DueSource) (n : ℕ) → GivesAmong area (xs ++ ys) n ↔ (GivesAmong area xs n ⊎ GivesAmong area ys n)
  given_either xs ys n = (
    λ w. elim (Contains-append_cases xs ys w.0 w.1) [ inl first ↦ inl (w.0, first, w.2) | inr last ↦ inr (w.0, last, w.2) ],
    λ w. elim w [ inl f ↦ (f.0, Contains-append_left xs ys f.0 f.1, f.2) | inr l ↦ (l.0, Contains-append_right xs ys l.0 l.1, l.2) ],
  )

-- ---- routes

module _ (v : SummaryInputsValue) (area : ℕ) (p : Prefix) where
  pub intra_gives : (found : Option DueSource) → IsEntrySource kind.IntraArea (IsIntraFate v.areas p) (get v.intra.entries p) found → (n : ℕ) → GivesOf area found n ↔ IntraGives v area p n
  intra_gives None is n = (
    λ w. absurd (let wrong : None ≡ Some w.0 = w.1 in cc),
    λ g. absurd (is g.0 g.1 g.2 g.3.through_area),
  )
  intra_gives (Some t) is n = (
    λ w.
        let into : GivesInto area t n = subst (λ (s : DueSource). GivesInto area s n) (sym (some_same w.1)) w.2 in
        let by = subst (IsIntraFate v.areas p t.area is.0.cost) into.1 is.5 in
        let cost : is.0.cost ≡ n = some_same (sym is.4 ∙ into.2) in
        (is.0, t.area, is.1, record { through_area = is.2; foreign = into.0; finite = by.0 }, by.1, cost),
    λ g.
        let same : is.0 ≡ g.0 = some_same (sym is.1 ∙ g.2) in
        let through : t.area ≡ g.1 = some_same (sym is.2 ∙ ap (λ (e : Entry). e.area) same ∙ g.3.through_area) in
        let cost : is.0.cost ≡ g.0.cost = ap (λ (e : Entry). e.cost) same in
        let finite : is.0.cost < LSInfinity = subst (λ (m : ℕ). m < LSInfinity) (sym cost) g.3.finite in
        let outside : IsOutsideRanges v.areas t.area p = subst (λ (id : ℕ). IsOutsideRanges v.areas id p) (sym through) g.4 in
        (t, refl, ((λ e. g.3.foreign (sym through ∙ e)), intra_given v.areas p t.area is.0.cost t.verdict is.5 finite outside, is.4 ∙ ap Some (cost ∙ g.5))),
  )

  pub inter_gives : (found : Option DueSource) → IsEntrySource kind.InterArea IsInterFate (get v.inter.entries (Net p)) found → (n : ℕ) → GivesOf area found n ↔ InterGives v area p n
  inter_gives None is n = (
    λ w. absurd (let wrong : None ≡ Some w.0 = w.1 in cc),
    λ g. absurd (is g.0 g.1 g.2 g.3.through_area),
  )
  inter_gives (Some t) is n = (
    λ w.
        let into : GivesInto area t n = subst (λ (s : DueSource). GivesInto area s n) (sym (some_same w.1)) w.2 in
        let finite = subst (IsRouteFate is.0.cost) into.1 is.5 in
        let cost : is.0.cost ≡ n = some_same (sym is.4 ∙ into.2) in
        (is.0, t.area, is.1, record { through_area = is.2; foreign = into.0; finite = finite }, cost),
    λ g.
        let same : is.0 ≡ g.0 = some_same (sym is.1 ∙ g.2) in
        let through : t.area ≡ g.1 = some_same (sym is.2 ∙ ap (λ (e : Entry). e.area) same ∙ g.3.through_area) in
        let cost : is.0.cost ≡ g.0.cost = ap (λ (e : Entry). e.cost) same in
        let finite : is.0.cost < LSInfinity = subst (λ (m : ℕ). m < LSInfinity) (sym cost) g.3.finite in
        (t, refl, ((λ e. g.3.foreign (sym through ∙ e)), route_given is.0.cost t.verdict is.5 finite, is.4 ∙ ap Some (cost ∙ g.4))),
  )

pub preferred_gives : (area : ℕ) (preferred : Option PreferredValue) (found : Option DueSource) → IsPreferredSource preferred found → (n : ℕ) → GivesOf area found n ↔ PreferredGives preferred area n
preferred_gives area preferred None is n = (
  λ w. absurd (let wrong : None ≡ Some w.0 = w.1 in cc),
  λ g. absurd (let wrong : None ≡ Some g.0 = sym is ∙ g.1 in cc),
)
preferred_gives area preferred (Some t) is n = (
  λ w.
      let into : GivesInto area t n = subst (λ (s : DueSource). GivesInto area s n) (sym (some_same w.1)) w.2 in
      (is.0, is.1, (λ e. into.0 (sym is.2 ∙ e)), subst (IsRouteFate is.0.preference.cost) into.1 is.5, some_same (sym is.4 ∙ into.2)),
  λ g.
      let same : is.0 ≡ g.0 = some_same (sym is.1 ∙ g.1) in
      let through : t.area ≡ g.0.preference.area = sym is.2 ∙ ap (λ (w : PreferredValue). w.preference.area) same in
      let cost : is.0.preference.cost ≡ g.0.preference.cost = ap (λ (w : PreferredValue). w.preference.cost) same in
      let finite : is.0.preference.cost < LSInfinity = subst (λ (m : ℕ). m < LSInfinity) (sym cost) g.3 in
      (t, refl, ((λ e. g.2 (sym through ∙ e)), route_given is.0.preference.cost t.verdict is.5 finite, is.4 ∙ ap Some (cost ∙ g.4))),
)

-- ---- ranges

module _ (v : SummaryInputsValue) (area : ℕ) (p : Prefix) where
  pub range_gives : (a : AreaConfig) (found : Option DueSource) → IsRangeSource v a p found → (n : ℕ) → GivesOf area found n ↔ RangeGivesBy v a area p n
  range_gives a None is n = (
    λ w. absurd (let wrong : None ≡ Some w.0 = w.1 in cc),
    λ g. let r = g.1 in absurd (is (r.0, r.1, r.2)),
  )
  range_gives a (Some t) is n = (
    λ w.
        let into : GivesInto area t n = subst (λ (s : DueSource). GivesInto area s n) (sym (some_same w.1)) w.2 in
        let by = subst (IsRangeFate a p t.cost) into.1 is.4 in
        ((λ e. into.0 (is.1 ∙ e)), by.0, (is.3 n).0 into.2),
    λ g.
        let cost : t.cost ≡ Some n = (is.3 n).1 g.2 in
        (t, refl, ((λ e. g.0 (sym is.1 ∙ e)), range_given a p n t.cost t.verdict is.4 g.1 cost, cost)),
  )

  -- one of these areas has a range that gives it
  abbrev pub RangesGive : List AreaConfig → ℕ → Type 0
  RangesGive areas n = (a : AreaConfig) × Contains areas a × RangeGivesBy v a area p n

  pub ranges_give : (areas : List AreaConfig) (ranges : List DueSource) → AreRangeSources v p areas ranges → (n : ℕ) → GivesAmong area ranges n ↔ RangesGive areas n
  ranges_give [] ranges are n = (
    λ w. absurd (no_element w.0 (subst (λ (xs : List DueSource). Contains xs w.0) are w.1)),
    λ g. absurd (no_element g.0 g.1),
  )
  ranges_give (a ∷ areas) ranges are n =
      let found = are.0 in
      let rest = are.1 in
      let its = range_gives a found are.2 n in
      let more = ranges_give areas rest are.3 n in
      let both = given_either area (listed found) rest n in
      let one = given_listed area found n in (
        λ w. elim (both.0 (subst (λ (xs : List DueSource). GivesAmong area xs n) are.4 w)) [
          | inl first ↦ (a, first_element a areas, its.0 (one.0 first))
          | inr last ↦ let g = more.0 last in (g.0, later_element a g.0 areas g.1, g.2)
        ],
        λ g. subst (λ (xs : List DueSource). GivesAmong area xs n) (sym are.4) (both.1 (elim (first_or_later a g.0 areas g.1) [
          | inl same ↦ inl (one.1 (its.1 (subst (λ (b : AreaConfig). RangeGivesBy v b area p n) same g.2)))
          | inr later ↦ inr (more.1 (g.0, later, g.2))
        ])),
      )

  ranges_are : (n : ℕ) → RangesGive v.areas n ↔ RangeGives v area p n
  ranges_are n = (
    λ g. let by = g.2 in (g.0.id, (g.0, by.1.0, g.1, refl, by.1.1, by.1.2, by.1.3), by.0, by.2),
    λ r.
        let through = r.0 in
        let in_area = r.1 in
        let a = in_area.0 in
        let is : a.id ≡ through = in_area.3 in
        (a, in_area.2, ((λ same. r.2 (sym is ∙ same)), (in_area.1, in_area.4, in_area.5, in_area.6), subst (λ (id : ℕ). IsGreatest (IsComponentIn v id p) n) (sym is) r.3)),
  )

  -- ---- all of a network

  pub network_gives : (sources : List DueSource) → AreNetworkSources v p sources → (n : ℕ) → GivesAmong area sources n ↔ GivesIn v area p n
  network_gives sources are n =
      let intra = intra_gives v area p are.intra are.intra_is n in
      let inter = inter_gives v area p are.inter are.inter_is n in
      let all = given_either area (listed are.intra ++ listed are.inter) are.ranges n in
      let routes = given_either area (listed are.intra) (listed are.inter) n in
      let ranges = ranges_give v.areas are.ranges are.ranges_are n in (
        λ w. elim (all.0 (subst (λ (xs : List DueSource). GivesAmong area xs n) are.whole w)) [
          | inl route ↦ elim (routes.0 route) [
            | inl i ↦ inl (intra.0 ((given_listed area are.intra n).0 i))
            | inr j ↦ inr (inl (inter.0 ((given_listed area are.inter n).0 j)))
          ]
          | inr r ↦ inr (inr ((ranges_are n).0 (ranges.0 r)))
        ],
        λ g. subst (λ (xs : List DueSource). GivesAmong area xs n) (sym are.whole) (all.1 (elim g [
          | inl i ↦ inl (routes.1 (inl ((given_listed area are.intra n).1 (intra.1 i))))
          | inr more ↦ elim more [
            | inl j ↦ inl (routes.1 (inr ((given_listed area are.inter n).1 (inter.1 j))))
            | inr r ↦ inr (ranges.1 ((ranges_are n).1 r))
          ]
        ])),
      )
