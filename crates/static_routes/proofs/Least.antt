-- The least of the metrics that are configured for a network, one route after the other.
use Rattle.std.proofs.Common.{◌≡◌, ℕ, ◌+◌, ◌<◌, ◌≤◌, Bool, true, false, List, map, length, take, get_or, Option, Some, None, refl, sym, ap, subst, ◌∙◌, ◌⊎◌, inl, inr, arith}
use Rattle.std.specs.Prelude.{◌↔◌, Contains}
use Rattle.ospf_types.specs.declared.prefix.Prefix.{Prefix}
use Rattle.ospf_types.proofs.Elements.{no_element, contains_more, mapped_element}
use Rattle.static_routes.specs.Routes.{IsRouteConfigured, IsLeast, IsLesserMetric, IsStaticOffer, IsRouteOf}

-- the least of the same metrics
pub least_same : (one other : ℕ → Type 0) → ((m : ℕ) → one m ↔ other m) → (o : Option ℕ) → IsLeast one o → IsLeast other o
least_same one other same None none = λ m has. none m ((same m).1 has)
least_same one other same (Some m) least = ((same m).0 least.0, λ n has. least.1 n ((same n).1 has))

-- with one metric more
least_one : (these : ℕ → Type 0) (metric : ℕ) (least result : Option ℕ) → IsLesserMetric least metric result → IsLeast these least → IsLeast (λ n. these n ⊎ (n ≡ metric)) result
least_one these metric least None lesser was = absurd lesser
least_one these metric None (Some m) lesser none = (
  elim lesser.0 [ inl e ↦ inr e | inr there ↦ absurd (let wrong : None ≡ Some m = there in cc) ],
  λ n has. elim has [ inl was ↦ absurd (none n was) | inr e ↦ subst (λ (x : ℕ). m ≤ x) (sym e) lesser.1 ],
)
least_one these metric (Some k) (Some m) lesser was = (
  elim lesser.0 [ inl e ↦ inr e | inr there ↦ let same : k ≡ m = cc in inl (subst these same was.0) ],
  λ n has. elim has [
    | inl there ↦ let one : m ≤ k = lesser.2 k refl in let two : k ≤ n = was.1 n there in omega (arith, one, two)
    | inr e ↦ subst (λ (x : ℕ). m ≤ x) (sym e) lesser.1
  ],
)

module _ (routes : List (Prefix × ℕ)) (p : Prefix) where
  -- of none
  pub least_first : IsLeast (IsRouteConfigured (take 0 routes) p) None
  least_first = λ m has. no_element (p, m) has

  -- of one route more
  pub least_more : (i : ℕ) (x : Prefix × ℕ) (least result : Option ℕ) (is_its : Bool) → i < length routes → x ≡ get_or routes i x → (is_its ≡ true ↔ (x.0 ≡ p)) → (is_its ≡ false → result ≡ least) → (is_its ≡ true → IsLesserMetric least x.1 result)
      → IsLeast (IsRouteConfigured (take i routes) p) least → IsLeast (IsRouteConfigured (take (i + 1) routes) p) result
  least_more i x least result is_its lt at its other lesser was = by is_its refl
    where
      by : (b : Bool) → is_its ≡ b → IsLeast (IsRouteConfigured (take (i + 1) routes) p) result
      by true yea = least_same (λ n. IsRouteConfigured (take i routes) p n ⊎ (n ≡ x.1)) (IsRouteConfigured (take (i + 1) routes) p) (λ m.
          let more = contains_more routes i x (p, m) lt at in (
            λ w. more.1 (elim w [ inl early ↦ inl early | inr e ↦ inr (λ j. (sym (its.0 yea) j, e j)) ]),
            λ c. elim (more.0 c) [ inl early ↦ inl early | inr e ↦ inr (ap (λ (y : Prefix × ℕ). y.1) e) ],
          )) result (least_one (IsRouteConfigured (take i routes) p) x.1 least result (lesser yea) was)
      by false nay = subst (IsLeast (IsRouteConfigured (take (i + 1) routes) p)) (sym (other nay)) (least_same (IsRouteConfigured (take i routes) p) (IsRouteConfigured (take (i + 1) routes) p) (λ m.
          let more = contains_more routes i x (p, m) lt at in (
            λ early. more.1 (inl early),
            λ c. elim (more.0 c) [ inl early ↦ early | inr e ↦ let wrong : true ≡ false = sym (its.1 (ap (λ (y : Prefix × ℕ). y.0) (sym e))) ∙ nay in absurd cc ],
          )) least was)

-- what is least of all that is configured is the route, where no other stands
pub route_of : (routes : List (Prefix × ℕ)) (taken : List Prefix) (p : Prefix) → (Contains taken p → ⊥) → (o : Option ℕ) → IsLeast (IsRouteConfigured routes p) o → IsRouteOf routes taken p o
route_of routes taken p free o least = least_same (IsRouteConfigured routes p) (IsStaticOffer routes taken p) (λ m. (λ has. (free, has), λ offered. offered.1)) o least

-- where nothing is configured for a network, it has no route
pub unconfigured : (routes : List (Prefix × ℕ)) (taken networks : List Prefix) (p : Prefix) → networks ≡ map (λ (x : Prefix × ℕ). x.0) routes → (Contains networks p → ⊥) → IsRouteOf routes taken p None
unconfigured routes taken networks p all absent = λ m offered. absent (subst (λ (ps : List Prefix). Contains ps p) (sym all) (mapped_element (λ (x : Prefix × ℕ). x.0) routes (p, m) offered.1))
