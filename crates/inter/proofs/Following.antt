-- The index follows, and the destinations that may get another entry are gathered.
use Rattle.std.proofs.Common.{◌≡◌, ℕ, ◌+◌, ◌<◌, ◌≤◌, true, true≢false, List, length, get_or, take, Option, Some, None, refl, sym, ap, subst, ◌∙◌, inl, inr}
use Rattle.std.specs.Option.{option_eq}
use Rattle.std.specs.FinMap.{get, empty, get-empty}
use Rattle.std.proofs.Math.Dec.{eqb}
use Rattle.std.proofs.lemmas.Bool.{eqb-true}
use Rattle.std.specs.List.{Contains}
use Rattle.std.proofs.lemmas.List.{take_all}
use Rattle.ospf_types.specs.declared.key.Dest.{Dest}
use Rattle.ospf_types.specs.declared.key.Dest.TheVariants.{Router}
use Rattle.ospf_types.specs.declared.key.Key.{Key}
use Rattle.ospf_types.specs.declared.key.Scope.{Scope}
use Rattle.ospf_types.specs.declared.key.Scope.TheVariants.{Area}
use Rattle.ospf_types.specs.Keys.{key_cmp}
use Rattle.ospf_types.proofs.Elements.{no_element}
use Rattle.lsdb.specs.Databases.{Database}
use Rattle.ospf_types.proofs.Elements.{contains_more}
use Rattle.advertised_index.specs.Indexes.{OfferIndexValue, ChangedOffersValue, AreDestsAffected, IsIndexOf, LsasDifferAmong, IsLedTo, HasDest}
use Rattle.inter.specs.Following.{area_of, ExaminedDifferAmong, IsIndexBefore, IsIndexSince, AreLed, IsPushed, ArePushed, IsFollowed}
use Rattle.inter.specs.Inputs.{ExaminedValue, InterInputsValue}
use Rattle.inter.specs.Inters.{IsIndexFor}

-- ---- the index

-- Area IDs that are tested to be equal are
pub same_areas : (a b : Option ℕ) → option_eq eqb a b ≡ true → a ≡ b
same_areas None None e = refl
same_areas None (Some y) e = absurd (true≢false (sym e))
same_areas (Some x) None e = absurd (true≢false (sym e))
same_areas (Some x) (Some y) e = ap Some (eqb-true x y e)

abbrev SinceIn : ℕ → List (Scope × Key) → ℕ → Database → OfferIndexValue → Type 0
SinceIn root keys area d i = (before : Database) × IsIndexOf root (Area area) before i × LsasDifferAmong keys (Area area) before d

-- the index of the same area belongs to its LSAs before
pub since : (root : ℕ) (keys : List (Scope × Key)) (x : Option ExaminedValue) (area : Option ℕ) (i : OfferIndexValue) → IsIndexBefore root keys x area i → area ≡ area_of x → IsIndexSince root keys x i
since root keys x area i is same = of x is.0 is.2 is.3 (sym is.1 ∙ same)
  where
    of : (x before : Option ExaminedValue) → IsIndexFor root before i → ExaminedDifferAmong keys before x → area_of before ≡ area_of x → IsIndexSince root keys x i
    of None None index differ same = index
    of None (Some y) index differ same = absurd cc
    of (Some x) None index differ same = absurd cc
    of (Some x) (Some y) index differ same =
        let area : x.area ≡ y.area = cc in
        subst (λ (n : ℕ). SinceIn root keys n x.lsas i) (sym area) (y.lsas, index, differ y x refl refl area)

-- what is touched in an area that is examined as before
pub led_same : (before after : Option ℕ) (old new : OfferIndexValue) (a b : ChangedOffersValue) → after ≡ before → AreDestsAffected old new a b → AreLed before after old new b.dests
led_same before after old new a b same touched k = elim (touched.each k) [
  | inl e ↦ inl (same, e)
  | inr all ↦ inr all.0
]

-- what was there and what is there now, of another area
pub led_other : (before after : Option ℕ) (old mid new : OfferIndexValue) (a b c : ChangedOffersValue) → mid ≡ record { routes = empty } → AreDestsAffected old mid a b → AreDestsAffected mid new b c → AreLed before after old new c.dests
led_other before after old mid new a b c none first second k = inr (λ d has. elim has [
  | inl was ↦ second.dests d (elim (first.each k) [
    | inl e ↦ absurd (nothing d (was.0, e ∙ was.1, was.2))
    | inr all ↦ all.0 d (inl was)
  ])
  | inr is ↦ elim (second.each k) [
    | inl e ↦ absurd (nothing d (is.0, sym e ∙ is.1, is.2))
    | inr all ↦ all.0 d (inr is)
  ]
])
  where
    nothing : (d : Dest) → HasDest (get mid.routes k) d → ⊥
    nothing d has =
        let e : None ≡ Some has.0 = sym (get-empty key_cmp k) ∙ ap (λ (i : OfferIndexValue). get i.routes k) (sym none) ∙ has.1 in
        absurd cc

-- ---- the destinations

module _ (i : OfferIndexValue) where
  -- none is pushed
  pub pushed_none : (named dests : List Dest) → ArePushed i (take 0 named) dests dests
  pushed_none named dests = record {
    kept = λ d c. c;
    themselves = λ d c leads. absurd (no_element d c);
    behind = λ router d c leads. absurd (no_element (Router router) c);
  }

  -- one more
  pub pushed_more : (named : List Dest) (k : ℕ) (dest : Dest) (old mid new : List Dest) → k < length named → dest ≡ get_or named k dest
      → ArePushed i (take k named) old mid → IsPushed i dest mid new → ArePushed i (take (k + 1) named) old new
  pushed_more named k dest old mid new lt at first step =
      let more = λ (d : Dest). contains_more named k dest d lt at in
      record {
        kept = λ d c. step.kept d (first.kept d c);
        themselves = λ d c leads. elim ((more d).0 c) [
          | inl early ↦ step.kept d (first.themselves d early leads)
          | inr e ↦ subst (λ (x : Dest). Contains new x) (sym e) (step.itself (subst (IsLedTo i) e leads))
        ];
        behind = λ router d c leads. elim ((more (Router router)).0 c) [
          | inl early ↦ step.kept d (first.behind router d early leads)
          | inr e ↦ step.behind router d (sym e) leads
        ];
      }

  -- all
  pub pushed_all : (named : List Dest) (k : ℕ) (old new : List Dest) → length named ≤ k → ArePushed i (take k named) old new → ArePushed i named old new
  pushed_all named k old new past are = subst (λ (ds : List Dest). ArePushed i ds old new) (take_all k named past) are

-- what may differ is gathered
pub followed_from : (named : List Dest) (v : InterInputsValue) (area : Option ℕ) (old new : OfferIndexValue) (gathered pushed : List Dest) → IsIndexFor v.root v.examined new
    → AreLed area (area_of v.examined) old new gathered → ArePushed new named gathered pushed → IsFollowed named v area old new pushed
followed_from named v area old new gathered pushed index led all = record {
  index = index;
  led = λ k. elim (led k) [
    | inl still ↦ inl still
    | inr there ↦ inr (λ d has. all.kept d (there d has))
  ];
  themselves = all.themselves;
  behind = all.behind;
}
