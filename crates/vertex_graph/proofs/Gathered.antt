-- Where the links of an LSA lead, in a sorted list without duplicates.
use Rattle.std.proofs.Common.{◌≡◌, ℕ, Bool, List, [], ◌∷◌, map, Option, Some, None, refl, sym, ap, subst, ◌∙◌, ⊎_elim, Ordering}
use Rattle.std.specs.Prelude.{◌↔◌}
use Rattle.std.specs.List.{Contains, filter_map, cons_option, dedup}
use Rattle.std.specs.List.Retain.{IsFiltered, DiffersFromLast}
use Rattle.std.specs.List.Sorted.{IsSorted, IsStrictlySortedBy, IsPermutation}
use Rattle.std.specs.Cmp.{eq_by_cmp_equiv}
use Rattle.std.specs.Ordering.{eq_by_cmp}
use Rattle.std.proofs.lemmas.List.Filters.{dedup_is}
use Rattle.std.proofs.lemmas.List.Kept.{Contains-dedup, Contains-from_dedup, IsStrictlySortedBy-dedup}
use Rattle.std.proofs.lemmas.List.Sorted.{Contains-permutation, IsPermutation-sym}
use Rattle.std.proofs.lemmas.Map.Views.{tells_apart}
use Rattle.ospf_types.specs.declared.entry.Vertex.{Vertex}
use Rattle.ospf_types.specs.declared.entry.Vertex.TheVariants.{Router, Network}
use Rattle.ospf_types.specs.declared.lsa.LinkKind.{LinkKind}
use Rattle.ospf_types.specs.declared.lsa.LinkKind.TheVariants as kind
use Rattle.ospf_types.specs.Lsa.{Body, RouterLink}
use Rattle.ospf_types.proofs.Elements.{no_element, first_element, later_element, first_or_later, mapped_element, mapped_from}
use Rattle.lsa_codec.specs.Readers.{links_of, routers_of, without_tos}
use Rattle.graph_links.specs.declared.link_end.LinkEnd.{LinkEnd}
use Rattle.graph_links.specs.contracts.link_end.LinkEndOrd.TheImpl as end_order
use Rattle.graph_links.specs.contracts.link_end.LinkEndPartialEq.TheImpl as end_equality
use Rattle.graph_links.specs.EndOrder.{end_cmp, listed_end}
use Rattle.vertex_graph.specs.Ends.{end_by, end_of, end_of_link, LeadsTo, AreEnds}
use Rattle.graph_links.proofs.EndOrders.{end_total, end_exact, end_cmp_is, end_tied_is}

-- the TOS entries of a link do not count
by_kind : (k : LinkKind) (l : RouterLink) → end_by k (record { id = l.id; detail = l.detail; kind = k; metric = l.metric; tos = [] }) ≡ end_by k l
by_kind kind.PointToPoint l = refl
by_kind kind.Transit l = refl
by_kind kind.Stub l = refl
by_kind kind.Virtual l = refl

end_without_tos : (l : RouterLink) → end_of_link (without_tos l) ≡ end_of l
end_without_tos l = by_kind l.kind l

pub ends_without_tos : (ls : List RouterLink) → filter_map end_of_link (map without_tos ls) ≡ filter_map end_of ls
ends_without_tos [] = refl
ends_without_tos (l ∷ ls) = λ i. cons_option (end_without_tos l i) (ends_without_tos ls i)

-- what is given of some element is in the list of what is given
module _ {X Y : Type 0} (f : X → Option Y) where
  pub given_from : (xs : List X) (y : Y) → Contains (filter_map f xs) y → (x : X) × Contains xs x × (f x ≡ Some y)
  given_from [] y c = absurd (no_element y c)
  given_from (x ∷ xs) y c =
      let later : Contains (filter_map f xs) y → (z : X) × Contains (x ∷ xs) z × (f z ≡ Some y) = λ h. let r = given_from xs y h in (r.0, later_element x r.0 xs r.1, r.2) in
      elim (f x) as (λ o. f x ≡ o → Contains (cons_option o (filter_map f xs)) y → (z : X) × Contains (x ∷ xs) z × (f z ≡ Some y)) [
        | None ↦ λ e h. later h
        | Some w ↦ λ e h. ⊎_elim (λ (s : y ≡ w). (x, first_element x xs, e ∙ ap Some (sym s))) later (first_or_later w y (filter_map f xs) h)
      ] refl c

  pub given : (xs : List X) (x : X) (y : Y) → Contains xs x → f x ≡ Some y → Contains (filter_map f xs) y
  given [] x y c e = absurd (no_element x c)
  given (z ∷ xs) x y c e =
      ⊎_elim
      (λ (s : x ≡ z). subst (λ (o : Option Y). Contains (cons_option o (filter_map f xs)) y) (sym (ap f (sym s) ∙ e)) (first_element y (filter_map f xs)))
      (λ (h : Contains xs x). elim (f z) as (λ o. Contains (cons_option o (filter_map f xs)) y) [
        | None ↦ given xs x y h e
        | Some w ↦ later_element w y (filter_map f xs) (given xs x y h e)
      ])
      (first_or_later z x xs c)

-- the list has where the vertex leads
abbrev pub HasAll : Vertex → Body → List LinkEnd → Type 0
HasAll v body raw = (e : LinkEnd) → Contains raw e ↔ LeadsTo v body e

pub router_has : (r : ℕ) (body : Body) → HasAll (Router r) body (filter_map end_of (links_of body))
router_has r body e = (given_from end_of (links_of body) e, λ h. given end_of (links_of body) h.0 e h.1 h.2)

pub network_has : (n : ℕ) (body : Body) → HasAll (Network n) body (map listed_end (routers_of body))
network_has n body e = (
  λ c. let from = mapped_from listed_end (routers_of body) e c in (from.0, from.1, sym from.2),
  λ h. subst (Contains (map listed_end (routers_of body))) (sym h.2) (mapped_element listed_end (routers_of body) h.0 h.1),
)

-- the list and the vertex by other names
pub has_all_of_eq : (v w : Vertex) (body : Body) (xs ys : List LinkEnd) → v ≡ w → xs ≡ ys → HasAll w body ys → HasAll v body xs
has_all_of_eq v w body xs ys same list all = subst (λ (u : Vertex). HasAll u body xs) (sym same) (subst (HasAll w body) (sym list) all)

-- sorted, without duplicates, they are the ends of the vertex
pub gathered : (v : Vertex) (body : Body) (raw sorted kept : List LinkEnd) → HasAll v body raw → IsPermutation raw sorted → IsSorted end_order.ghosts.cmp sorted
    → IsFiltered (DiffersFromLast (end_equality.eq-value).it) [] sorted kept → AreEnds v body kept
gathered v body raw sorted kept all moved in_order once = record {
  in_order = subst (IsStrictlySortedBy end_cmp) (sym is) (IsStrictlySortedBy-dedup end_total (λ x y. refl) sorted (subst (λ (R : LinkEnd → LinkEnd → Ordering). IsSorted R sorted) end_cmp_is in_order));
  exact = λ e. (
    λ c. (all e).0 (Contains-permutation sorted raw e (IsPermutation-sym raw sorted moved) (Contains-from_dedup same sorted e (subst (λ (es : List LinkEnd). Contains es e) is c))),
    λ leads. subst (λ (es : List LinkEnd). Contains es e) (sym is) (Contains-dedup (eq_by_cmp_equiv end_total) (tells_apart end_exact) sorted e (Contains-permutation raw sorted e moved ((all e).1 leads))),
  );
}
  where
    same : LinkEnd → LinkEnd → Bool
    same = eq_by_cmp end_cmp

    is : kept ≡ dedup same sorted
    is = dedup_is same sorted kept (subst (λ (E : LinkEnd → LinkEnd → Bool). IsFiltered (DiffersFromLast E) [] sorted kept) end_tied_is once)
