-- The transit network that stands for a prefix.
use Rattle.std.proofs.Common.{◌≡◌, ℕ, List, [], ◌∷◌, ◌++◌, Option, Some, None, refl, sym, ap, subst, ◌∙◌, ◌⊎◌, ⊎_elim, arith}
use Rattle.std.specs.Prelude.{IfSome}
use Rattle.std.specs.List.{Contains}
use Rattle.std.proofs.lemmas.List.Elements.{Contains-append_left, Contains-push, Contains-push_cases}
use Rattle.ospf_types.specs.declared.entry.Vertex.TheVariants.{Network, Router}
use Rattle.ospf_types.specs.declared.prefix.Prefix.{Prefix}
use Rattle.ospf_types.proofs.Elements.{no_element}
use Rattle.intra.specs.declared.area_index.PrefixSource.{PrefixSource}
use Rattle.intra.specs.declared.choose.ReachedNetwork.{ReachedNetwork}
use Rattle.intra.specs.Choosing.{AmongSources, FindsNearest, IsNoFarther}
use Rattle.intra.specs.Inputs.{AreaValue, distance_at}
use Rattle.intra.specs.Offers.{Offering, IsReachedFor, IsNearest}

abbrev reached_at : ℕ → ℕ → ReachedNetwork
reached_at id distance = record { id = id; distance = distance }

-- it is one network at one distance
pub nearest_is_one : (offered : Offering) (a : AreaValue) (p : Prefix) (id distance other d : ℕ) → IsNearest offered a p id distance → IsNearest offered a p other d → (id ≡ other) × (distance ≡ d)
nearest_is_one offered a p id distance other d x y =
    let le = x.nearest other d y.reached in
    let ge = y.nearest id distance x.reached in
    let far : distance ≡ d = omega arith in
    let most = x.greatest other (subst (IsReachedFor offered a p other) (sym far) y.reached) in
    let least = y.greatest id (subst (IsReachedFor offered a p id) far x.reached) in
    (omega arith, far)

module _ (a : AreaValue) (p : Prefix) where
  -- of no sources
  pub nearest_of_none : FindsNearest (AmongSources []) a p None
  nearest_of_none = λ id distance reached. no_element (record { vertex = Network id; metric = 0 }) reached.0

  -- a network that is no farther than the one that was found is no farther than any before it
  below_all : (before : List PrefixSource) (result : ReachedNetwork) (best : Option ReachedNetwork) → FindsNearest (AmongSources before) a p best → IfSome best (λ n. IsNoFarther result n) → (other d : ℕ) → IsReachedFor (AmongSources before) a p other d → IsNoFarther result (reached_at other d)
  below_all before result None found below other d reached = absurd (found other d reached)
  below_all before result (Some b) found below other d reached =
      let first = below.near in
      let then = found.nearest other d reached in
      record {
        near = omega (arith, first, then);
        great = λ e.
            let at : b.distance ≡ d = omega (arith, first, then, e) in
            let here = found.greatest other (subst (IsReachedFor (AmongSources before) a p other) (sym at) reached) in
            let most = below.great (e ∙ sym at) in
            omega (arith, here, most);
      }

  module _ (before : List PrefixSource) (s : PrefixSource) where
    abbrev After : Offering
    After = AmongSources (before ++ s ∷ [])

    -- the source leads to no transit network that is reached
    passed : (best : Option ReachedNetwork) → ((id d : ℕ) → s ≡ record { vertex = Network id; metric = 0 } → distance_at a (Network id) ≡ Some d → ⊥) → FindsNearest (AmongSources before) a p best → FindsNearest After a p best
    passed best other found =
        let back : (id d : ℕ) → IsReachedFor After a p id d → IsReachedFor (AmongSources before) a p id d = λ id d reached.
        (⊎_elim (λ (c : Contains before (record { vertex = Network id; metric = 0 })). c) (λ (e : s ≡ record { vertex = Network id; metric = 0 }). absurd (other id d e reached.1)) (Contains-push_cases before s (record { vertex = Network id; metric = 0 }) reached.0), reached.1) in
        elim best as (λ b. FindsNearest (AmongSources before) a p b → FindsNearest After a p b) [
          | None ↦ λ none id d reached. none id d (back id d reached)
          | Some b ↦ λ near. record {
            reached = (Contains-append_left before (s ∷ []) (record { vertex = Network b.id; metric = 0 }) near.reached.0, near.reached.1);
            nearest = λ id d reached. near.nearest id d (back id d reached);
            greatest = λ id reached. near.greatest id (back id b.distance reached);
          }
        ] found

    -- the source is a stub link
    pub passes_router : (best : Option ReachedNetwork) (router : ℕ) → s.vertex ≡ Router router → FindsNearest (AmongSources before) a p best → FindsNearest After a p best
    passes_router best router is = passed best (λ id d e far. let both : Router router ≡ Network id = sym is ∙ ap (λ (t : PrefixSource). t.vertex) e in absurd cc)

    pub passes_unreached : (best : Option ReachedNetwork) → distance_at a s.vertex ≡ None → FindsNearest (AmongSources before) a p best → FindsNearest After a p best
    passes_unreached best none = passed best (λ id d e far. let both : Some d ≡ None = sym far ∙ ap (λ (t : PrefixSource). distance_at a t.vertex) (sym e) ∙ none in absurd cc)

    -- the source is a transit network that is reached
    pub takes_reached : (best : Option ReachedNetwork) (id d : ℕ) (result : ReachedNetwork) → s.vertex ≡ Network id → s.metric ≡ 0 → distance_at a s.vertex ≡ Some d → (result ≡ reached_at id d) ⊎ (best ≡ Some result) → IsNoFarther result (reached_at id d) → IfSome best (λ n. IsNoFarther result n) → FindsNearest (AmongSources before) a p best → FindsNearest After a p (Some result)
    takes_reached best id d result is zero far one here below found =
        let this : s ≡ record { vertex = Network id; metric = 0 } = λ i. record { vertex = is i; metric = zero i } in
        let all : (other e : ℕ) → IsReachedFor After a p other e → IsNoFarther result (reached_at other e) = λ other e reached.
        ⊎_elim (λ (c : Contains before (record { vertex = Network other; metric = 0 })). below_all before result best found below other e (c, reached.1))
        (λ (same : s ≡ record { vertex = Network other; metric = 0 }).
        let v : Network id ≡ Network other = sym is ∙ ap (λ (t : PrefixSource). t.vertex) same in
        let number : id ≡ other = cc in
        let both : Some d ≡ Some e = sym far ∙ ap (λ (t : PrefixSource). distance_at a t.vertex) same ∙ reached.1 in
        let distance : d ≡ e = cc in
        subst (IsNoFarther result) (λ i. reached_at (number i) (distance i)) here)
        (Contains-push_cases before s (record { vertex = Network other; metric = 0 }) reached.0) in
        record {
          reached = ⊎_elim
              (λ (e : result ≡ reached_at id d). subst (λ (n : ReachedNetwork). IsReachedFor After a p n.id n.distance) (sym e) (subst (Contains (before ++ s ∷ [])) this (Contains-push before s), ap (distance_at a) (sym is) ∙ far))
              (λ (e : best ≡ Some result). let near = subst (FindsNearest (AmongSources before) a p) e found in (Contains-append_left before (s ∷ []) (record { vertex = Network result.id; metric = 0 }) near.reached.0, near.reached.1))
              one;
          nearest = λ other e reached. (all other e reached).near;
          greatest = λ other reached. (all other result.distance reached).great refl;
        }
