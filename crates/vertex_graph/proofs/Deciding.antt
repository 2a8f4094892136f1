-- Each link of a graph is there or not.
use Rattle.std.proofs.Common.{◌≡◌, ℕ, ◌<◌, Bool, true, false, cond, eqb, List, [], ◌∷◌, map, Some, None, refl, sym, ap, subst, ◌∙◌, ◌⊎◌, inl, inr, ⊎_elim, arith}
use Rattle.std.specs.Prelude.{◌↔◌}
use Rattle.std.specs.FinMap.{get}
use Rattle.std.specs.List.{Contains, filter, dedup}
use Rattle.std.specs.List.Sorted.{IsStrictlySortedBy}
use Rattle.std.specs.Str.{bytes_eq}
use Rattle.std.proofs.lemmas.Bool.{cases_Bool, cases_eq, cases_lt}
use Rattle.std.proofs.lemmas.Bool.Decides.{not_from_Decides}
use Rattle.std.proofs.lemmas.List.Kept.{IsStrictlySortedBy-filter}
use Rattle.std.proofs.lemmas.Slice.Eq.{bytes_eq-Decides}
use Rattle.ospf_types.specs.declared.entry.Vertex.{Vertex}
use Rattle.ospf_types.specs.declared.entry.Vertex.TheVariants.{Router, Network}
use Rattle.ospf_types.specs.declared.label.Label.{Label}
use Rattle.ospf_types.specs.declared.label.Label.TheVariants.{Over, At, Plain}
use Rattle.ospf_types.proofs.Elements.{no_element, first_element, later_element, first_or_later}
use Rattle.graph_links.specs.declared.link_end.LinkEnd.{LinkEnd}
use Rattle.graph_links.specs.declared.link.Up.{Up}
use Rattle.graph_links.specs.EndOrder.{end_cmp}
use Rattle.vertex_graph.specs.Graphs.{GraphValue, LinksOf, HasEnds}
use Rattle.graph_links.specs.Pairs.{Names, IsOutLabel, AreDetailsTo, IsPairLink}
use Rattle.graph_links.proofs.Details.{details_of_ends, one_list_of_details}
use Rattle.vertex_graph.proofs.PairLinks.{pair_of_link, link_of_pair}

-- it holds or it does not
abbrev pub IsDecided : Type 0 → Type 0
IsDecided P = P ⊎ (P → ⊥)

cases_vertex : (v w : Vertex) → IsDecided (v ≡ w)
cases_vertex (Router r) (Router s) = elim (cases_eq r s) [ inl e ↦ inl (ap Router e) | inr n ↦ inr (λ e. n cc) ]
cases_vertex (Router r) (Network n) = inr (λ e. cc)
cases_vertex (Network n) (Router r) = inr (λ e. cc)
cases_vertex (Network n) (Network m) = elim (cases_eq n m) [ inl e ↦ inl (ap Network e) | inr n ↦ inr (λ e. n cc) ]

cases_up : (a b : Up) → IsDecided (a ≡ b)
cases_up a b = elim (cases_eq a.id b.id) [
  | inr n ↦ inr (λ e. n (ap (λ (u : Up). u.id) e))
  | inl id ↦ elim (cases_eq a.address b.address) [
    | inr n ↦ inr (λ e. n (ap (λ (u : Up). u.address) e))
    | inl address ↦ inl (λ i. record { id = id i; address = address i })
  ]
]

cases_numbers : (xs ys : List ℕ) → IsDecided (xs ≡ ys)
cases_numbers xs ys = elim (cases_Bool (bytes_eq xs ys)) [ inl passes ↦ inl ((bytes_eq-Decides xs ys).0 passes) | inr fails ↦ inr (not_from_Decides (bytes_eq xs ys) (bytes_eq-Decides xs ys) fails) ]

-- both hold or not
both_decided : (P Q : Type 0) → IsDecided P → IsDecided Q → IsDecided (P × Q)
both_decided P Q (inl p) (inl q) = inl (p, q)
both_decided P Q (inl p) (inr n) = inr (λ h. n h.1)
both_decided P Q (inr n) q = inr (λ h. n h.0)

-- some element passes or none does
some_decided : {X : Type 0} (P : X → Type 0) → ((x : X) → IsDecided (P x)) → (xs : List X) → IsDecided ((x : X) × Contains xs x × P x)
some_decided P decided [] = inr (λ h. no_element h.0 h.1)
some_decided {X} P decided (x ∷ xs) = elim (decided x) [
  | inl here ↦ inl (x, first_element x xs, here)
  | inr not_here ↦ elim (some_decided P decided xs) [
    | inl later ↦ inl (later.0, later_element x later.0 xs later.1, later.2)
    | inr none ↦ inr (λ h. ⊎_elim (λ (e : h.0 ≡ x). not_here (subst P e h.2)) (λ (c : Contains xs h.0). none (h.0, c, h.2)) (first_or_later x h.0 xs h.1))
  ]
]

names_decided : (ends : List LinkEnd) (v : Vertex) → IsDecided (Names ends v)
names_decided ends v = some_decided (λ (e : LinkEnd). e.to ≡ v) (λ e. cases_vertex e.to v) ends

has_up_decided : (ups : List Up) (up : Up) → IsDecided (Contains ups up)
has_up_decided ups up = elim (some_decided (λ (u : Up). u ≡ up) (λ u. cases_up u up) ups) [
  | inl has ↦ inl (subst (Contains ups) has.2 has.1)
  | inr none ↦ inr (λ c. none (up, c, refl))
]

label_decided : (root : ℕ) (ups : List Up) (from detail : ℕ) (label : Label) → IsDecided (IsOutLabel root ups from detail label)
label_decided root ups from detail (Over id) = both_decided (from ≡ root) (Contains ups (record { id = id; address = detail })) (cases_eq from root) (has_up_decided ups (record { id = id; address = detail }))
label_decided root ups from detail Plain = elim (cases_eq from root) [ inl e ↦ inr (λ n. n e) | inr n ↦ inl n ]
label_decided root ups from detail (At addresses) = inr (λ h. h)

at_vertex : Vertex → LinkEnd → Bool
at_vertex v e = elim (cases_vertex e.to v) [ inl is ↦ true | inr other ↦ false ]

at_vertex_is : (v : Vertex) (e : LinkEnd) → (at_vertex v e ≡ true) ↔ (e.to ≡ v)
unfolding at_vertex
at_vertex_is v e =
    elim (cases_vertex e.to v) as (λ d. (elim d [ inl is ↦ true | inr other ↦ false ] ≡ true) ↔ (e.to ≡ v)) [
      | inl is ↦ (λ t. is, λ h. refl)
      | inr other ↦ (λ t. absurd cc, λ h. absurd (other h))
    ]

-- what a filter keeps
kept_from : (p : LinkEnd → Bool) (xs : List LinkEnd) (e : LinkEnd) → Contains (filter p xs) e → Contains xs e × (p e ≡ true)
kept_from p [] e c = absurd (no_element e c)
kept_from p (x ∷ xs) e c =
    let later : Contains (filter p xs) e → Contains (x ∷ xs) e × (p e ≡ true) = λ h. let r = kept_from p xs e h in (later_element x e xs r.0, r.1) in
    elim (p x) as (λ b. p x ≡ b → Contains (cond b (x ∷ filter p xs) (filter p xs)) e → Contains (x ∷ xs) e × (p e ≡ true)) [
      | true ↦ λ t h. ⊎_elim (λ (s : e ≡ x). (subst (Contains (x ∷ xs)) (sym s) (first_element x xs), ap p s ∙ t)) later (first_or_later x e (filter p xs) h)
      | false ↦ λ f h. later h
    ] refl c

kept : (p : LinkEnd → Bool) (xs : List LinkEnd) (e : LinkEnd) → Contains xs e → p e ≡ true → Contains (filter p xs) e
kept p [] e c t = absurd (no_element e c)
kept p (x ∷ xs) e c t =
    ⊎_elim
    (λ (s : e ≡ x). subst (λ (b : Bool). Contains (cond b (x ∷ filter p xs) (filter p xs)) e) (sym (ap p (sym s) ∙ t)) (subst (Contains (x ∷ filter p xs)) (sym s) (first_element x (filter p xs))))
    (λ (h : Contains xs e). elim (p x) as (λ b. Contains (cond b (x ∷ filter p xs) (filter p xs)) e) [
      | true ↦ later_element x e (filter p xs) (kept p xs e h t)
      | false ↦ kept p xs e h t
    ])
    (first_or_later x e xs c)

-- the addresses of a vertex at another are a list
details_there : (v : Vertex) (ends : List LinkEnd) → IsStrictlySortedBy end_cmp ends → (addresses : List ℕ) × AreDetailsTo v ends addresses
details_there v ends sorted =
    let here : List LinkEnd = filter (at_vertex v) ends in (
      dedup eqb (map (λ (e : LinkEnd). e.detail) here),
      details_of_ends v ends here (IsStrictlySortedBy-filter end_cmp (at_vertex v) ends sorted) (λ e. (
        λ c. let k = kept_from (at_vertex v) ends e c in (k.0, (at_vertex_is v e).0 k.1),
        λ h. kept (at_vertex v) ends e h.0 ((at_vertex_is v e).1 h.1),
      )),
    )

at_decided : (v : Vertex) (ends : List LinkEnd) → IsStrictlySortedBy end_cmp ends → (label : Label) → IsDecided ((addresses : List ℕ) × AreDetailsTo v ends addresses × (label ≡ At addresses))
at_decided v ends sorted (Over id) = inr (λ h. let apart = h.2 in absurd cc)
at_decided v ends sorted Plain = inr (λ h. let apart = h.2 in absurd cc)
at_decided v ends sorted (At addresses) =
    let there = details_there v ends sorted in
    elim (cases_numbers there.0 addresses) [
      | inl same ↦ inl (there.0, there.1, ap At (sym same))
      | inr other ↦ inr (λ h. let is : addresses ≡ h.0 = cc (h.2) in other (one_list_of_details v ends there.0 h.0 there.1 h.1 ∙ sym is))
    ]

positive_decided : (n : ℕ) → IsDecided (0 < n)
positive_decided n = elim (cases_lt 0 n) [ inl lt ↦ inl lt | inr le ↦ inr (λ lt. omega arith) ]

-- a link of two vertices is there or not
pair_decided : (root : ℕ) (ups : List Up) (v w : Vertex) (ends back : List LinkEnd) (cost : ℕ) (label : Label) → IsStrictlySortedBy end_cmp back → IsDecided (IsPairLink root ups v ends w back cost label)
pair_decided root ups (Router from) w ends back cost label sorted =
    elim (some_decided (λ (e : LinkEnd). (e.to ≡ w) × ((e.metric ≡ cost) × ((0 < cost) × (IsOutLabel root ups from e.detail label × Names back (Router from)))))
    (λ e. both_decided _ _ (cases_vertex e.to w) (both_decided _ _ (cases_eq e.metric cost) (both_decided _ _ (positive_decided cost) (both_decided _ _ (label_decided root ups from e.detail label) (names_decided back (Router from))))))
    ends) [
      | inl is ↦ inl (is.0, is.1, is.2.0, is.2.1.0, is.2.1.1.0, is.2.1.1.1.0, is.2.1.1.1.1)
      | inr none ↦ inr (λ h. none (h.0, h.1, (h.2, (h.3, (h.4, (h.5, h.6))))))
    ]
pair_decided root ups (Network from) (Router to) ends back cost label sorted =
    elim (both_decided _ _ (names_decided ends (Router to)) (both_decided _ _ (cases_eq cost 0) (both_decided _ _ (names_decided back (Network from)) (at_decided (Network from) back sorted label)))) [
      | inl is ↦ inl (is.0, is.1.0, is.1.1.0, is.1.1.1)
      | inr none ↦ inr (λ h. none (h.0, (h.1, (h.2, h.3))))
    ]
pair_decided root ups (Network from) (Network to) ends back cost label sorted = inr (λ h. h)

-- each link of a graph is there or not
pub link_decided : (g : GraphValue) → HasEnds g → (v w : Vertex) (cost : ℕ) (label : Label) → LinksOf g v w cost label ⊎ (LinksOf g v w cost label → ⊥)
link_decided g has v w cost label =
    elim (get g.ends v) as (λ o. get g.ends v ≡ o → IsDecided (LinksOf g v w cost label)) [
      | None ↦ λ gone. inr (λ l. let pair = pair_of_link g has v w cost label l in let own = pair.2 in absurd cc)
      | Some ends ↦ λ here. elim (get g.ends w) as (λ o. get g.ends w ≡ o → IsDecided (LinksOf g v w cost label)) [
        | None ↦ λ gone. inr (λ l. let pair = pair_of_link g has v w cost label l in let own = pair.3 in absurd cc)
        | Some back ↦ λ there. elim (pair_decided g.root g.interfaces v w ends back cost label (has.in_order w back there)) [
          | inl is ↦ inl (link_of_pair g v w ends back cost label here there is)
          | inr none ↦ inr (λ l.
              let pair = pair_of_link g has v w cost label l in
              let own : pair.0 ≡ ends = let at = pair.2 in cc in
              let other : pair.1 ≡ back = let at = pair.3 in cc in
              none (subst (λ (es : List LinkEnd). IsPairLink g.root g.interfaces v es w back cost label) own (subst (λ (bs : List LinkEnd). IsPairLink g.root g.interfaces v pair.0 w bs cost label) other pair.4)))
        ]
      ] refl
    ] refl
