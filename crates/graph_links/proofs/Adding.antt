-- The elements added to a list, and the added ways of a router.
use Rattle.std.proofs.Common.{◌≡◌, ℕ, ◌<◌, ◌≤◌, ◌+◌, List, [], ◌∷◌, ◌++◌, length, get_or, take, sym, subst, ◌⊎◌, inl, inr, ⊎_elim}
use Rattle.std.specs.Prelude.{◌↔◌}
use Rattle.std.specs.List.{Contains}
use Rattle.std.proofs.lemmas.List.{take_more, take_all}
use Rattle.std.proofs.lemmas.List.Elements.{Contains-append_left, Contains-append_right, Contains-append_cases, Contains-push_cases}
use Rattle.ospf_types.specs.declared.label.Label.{Label}
use Rattle.ospf_types.specs.declared.label.Label.TheVariants.{Over, At, Plain}
use Rattle.ospf_types.proofs.Elements.{no_element, first_element}
use Rattle.graph_links.specs.declared.link_end.LinkEnd.{LinkEnd}
use Rattle.graph_links.specs.declared.link.GraphLink.{GraphLink}
use Rattle.graph_links.specs.declared.link.Up.{Up}
use Rattle.graph_links.specs.declared.parallel_links.ParallelLink.{ParallelLink}
use Rattle.graph_links.specs.Pairs.{AddsToList, IsOutLabel, IsWay, IsWayOver, label_over}

module _ {X : Type 0} where
  -- where there is one to be added, it goes to the end
  pub adds_one : (xs : List X) (x : X) (Is : X → Type 0) → Is x → ((l : X) → Is l → l ≡ x) → AddsToList xs (xs ++ x ∷ []) Is
  adds_one xs x Is here only l = (
    λ c. ⊎_elim (λ (old : Contains xs l). inl old) (λ (e : x ≡ l). inr (subst Is e here)) (Contains-push_cases xs x l c),
    λ h. ⊎_elim (λ (old : Contains xs l). Contains-append_left xs (x ∷ []) l old) (λ (i : Is l). subst (Contains (xs ++ x ∷ [])) (sym (only l i)) (Contains-append_right xs (x ∷ []) x (first_element x []))) h,
  )

  -- these are added, and then those
  pub adds_both : (xs ys zs : List X) (P Q R : X → Type 0) → AddsToList xs ys P → AddsToList ys zs Q → ((l : X) → R l ↔ (P l ⊎ Q l)) → AddsToList xs zs R
  adds_both xs ys zs P Q R first then join l = (
    λ c. ⊎_elim (λ (y : Contains ys l). ⊎_elim (λ (x : Contains xs l). inl x) (λ (p : P l). inr ((join l).1 (inl p))) ((first l).0 y)) (λ (q : Q l). inr ((join l).1 (inr q))) ((then l).0 c),
    λ h. ⊎_elim (λ (x : Contains xs l). (then l).1 (inl ((first l).1 (inl x)))) (λ (r : R l). ⊎_elim (λ (p : P l). (then l).1 (inl ((first l).1 (inr p)))) (λ (q : Q l). (then l).1 (inr q)) ((join l).0 r)) h,
  )

  -- all of a list
  pub adds_list : (xs ys : List X) (P : X → Type 0) → ((l : X) → Contains ys l ↔ P l) → AddsToList xs (xs ++ ys) P
  adds_list xs ys P are l = (
    λ c. ⊎_elim (λ (early : Contains xs l). inl early) (λ (late : Contains ys l). inr ((are l).0 late)) (Contains-append_cases xs ys l c),
    λ h. ⊎_elim (λ (early : Contains xs l). Contains-append_left xs ys l early) (λ (p : P l). Contains-append_right xs ys l ((are l).1 p)) h,
  )

-- added links, said another way
pub adds_same : (xs ys : List GraphLink) (P Q : GraphLink → Type 0) → ((l : GraphLink) → P l ↔ Q l) → AddsToList xs ys P → AddsToList xs ys Q
adds_same xs ys P Q same adds l = (
  λ c. ⊎_elim (λ (x : Contains xs l). inl x) (λ (p : P l). inr ((same l).0 p)) ((adds l).0 c),
  λ h. ⊎_elim (λ (x : Contains xs l). (adds l).1 (inl x)) (λ (q : Q l). (adds l).1 (inr ((same l).1 q))) h,
)

module _ (root router : ℕ) (detail : ℕ) where
  -- a label rests on some of the interfaces or on others
  label_either : (us vs : List Up) (label : Label) → IsOutLabel root (us ++ vs) router detail label → IsOutLabel root us router detail label ⊎ IsOutLabel root vs router detail label
  label_either us vs (Over id) h =
      ⊎_elim (λ (c : Contains us (record { id = id; address = detail })). inl (h.0, c)) (λ (c : Contains vs (record { id = id; address = detail })). inr (h.0, c)) (Contains-append_cases us vs (record { id = id; address = detail }) h.1)
  label_either us vs Plain h = inl h
  label_either us vs (At addresses) h = absurd h

  label_left : (us vs : List Up) (label : Label) → IsOutLabel root us router detail label → IsOutLabel root (us ++ vs) router detail label
  label_left us vs (Over id) h = (h.0, Contains-append_left us vs (record { id = id; address = detail }) h.1)
  label_left us vs Plain h = h
  label_left us vs (At addresses) h = h

  label_right : (us vs : List Up) (label : Label) → IsOutLabel root vs router detail label → IsOutLabel root (us ++ vs) router detail label
  label_right us vs (Over id) h = (h.0, Contains-append_right us vs (record { id = id; address = detail }) h.1)
  label_right us vs Plain h = h
  label_right us vs (At addresses) h = h

-- a way uses some of the interfaces or others
pub over_either : (root router : ℕ) (us vs : List Up) (e : LinkEnd) (w : ParallelLink) → IsWay root (us ++ vs) router e w ↔ (IsWay root us router e w ⊎ IsWay root vs router e w)
over_either root router us vs e w = (
  λ h. ⊎_elim (λ (i : IsOutLabel root us router e.detail (label_over w.interface)). inl (h.0, h.1, i)) (λ (i : IsOutLabel root vs router e.detail (label_over w.interface)). inr (h.0, h.1, i)) (label_either root router e.detail us vs (label_over w.interface) h.2),
  λ h. ⊎_elim (λ (i : IsWay root us router e w). (i.0, i.1, label_left root router e.detail us vs (label_over w.interface) i.2)) (λ (i : IsWay root vs router e w). (i.0, i.1, label_right root router e.detail us vs (label_over w.interface) i.2)) h,
)

-- a way over one end more
pub over_one_more : (root router : ℕ) (ups : List Up) (es : List LinkEnd) (e : LinkEnd) (w : ParallelLink) → IsWayOver root ups router (es ++ e ∷ []) w ↔ (IsWayOver root ups router es w ⊎ IsWay root ups router e w)
over_one_more root router ups es e w = (
  λ h. ⊎_elim (λ (c : Contains es h.0). inl (h.0, c, h.2)) (λ (s : e ≡ h.0). inr (subst (λ (x : LinkEnd). IsWay root ups router x w) (sym s) h.2)) (Contains-push_cases es e h.0 h.1),
  λ h. ⊎_elim (λ (o : IsWayOver root ups router es w). (o.0, Contains-append_left es (e ∷ []) o.0 o.1, o.2)) (λ (i : IsWay root ups router e w). (e, Contains-append_right es (e ∷ []) e (first_element e []), i)) h,
)

-- the loop over interfaces, one on
pub over_on : (root : ℕ) (e : LinkEnd) (ups : List Up) (i : ℕ) (none : Up) (xs ys zs : List ParallelLink) → i < length ups
    → AddsToList xs ys (IsWay root (take i ups) root e) → AddsToList ys zs (IsWay root (get_or ups i none ∷ []) root e) → AddsToList xs zs (IsWay root (take (i + 1) ups) root e)
over_on root e ups i none xs ys zs lt first then =
    adds_both xs ys zs (IsWay root (take i ups) root e) (IsWay root (get_or ups i none ∷ []) root e) (IsWay root (take (i + 1) ups) root e) first then
    (λ w. subst (λ (us : List Up). IsWay root us root e w ↔ (IsWay root (take i ups) root e w ⊎ IsWay root (get_or ups i none ∷ []) root e w)) (sym (take_more ups i none lt)) (over_either root root (take i ups) (get_or ups i none ∷ []) e w))

-- and at its end
pub over_all : (root : ℕ) (e : LinkEnd) (ups : List Up) (i : ℕ) (xs ys : List ParallelLink) → length ups ≤ i → AddsToList xs ys (IsWay root (take i ups) root e) → AddsToList xs ys (IsWay root ups root e)
over_all root e ups i xs ys le adds = subst (λ (us : List Up). AddsToList xs ys (IsWay root us root e)) (take_all i ups le) adds

-- the ways are those over these ends
abbrev pub AreWaysBy : ℕ → List Up → ℕ → List LinkEnd → List ParallelLink → Type 0
AreWaysBy root ups router ends ways = (w : ParallelLink) → Contains ways w ↔ IsWayOver root ups router ends w

pub ways_none : (root router : ℕ) (ups : List Up) (ways : List ParallelLink) → ways ≡ [] → AreWaysBy root ups router [] ways
ways_none root router ups ways none w = (
  λ c. absurd (no_element w (subst (λ (ws : List ParallelLink). Contains ws w) none c)),
  λ h. absurd (no_element h.0 h.1),
)

-- the loop over ends, one on
pub ways_on : (root router : ℕ) (ups : List Up) (es : List LinkEnd) (i : ℕ) (d : LinkEnd) (ways ways_new : List ParallelLink) → i < length es
    → AreWaysBy root ups router (take i es) ways → AddsToList ways ways_new (IsWay root ups router (get_or es i d)) → AreWaysBy root ups router (take (i + 1) es) ways_new
ways_on root router ups es i d ways ways_new lt before then w =
    let more : IsWayOver root ups router (take (i + 1) es) w ↔ (IsWayOver root ups router (take i es) w ⊎ IsWay root ups router (get_or es i d) w) =
    subst (λ (fs : List LinkEnd). IsWayOver root ups router fs w ↔ (IsWayOver root ups router (take i es) w ⊎ IsWay root ups router (get_or es i d) w)) (sym (take_more es i d lt)) (over_one_more root router ups (take i es) (get_or es i d) w) in (
      λ c. more.1 (elim ((then w).0 c) [ inl was ↦ inl ((before w).0 was) | inr one ↦ inr one ]),
      λ h. (then w).1 (elim (more.0 h) [ inl was ↦ inl ((before w).1 was) | inr one ↦ inr one ]),
    )

-- and at its end
pub ways_all : (root router : ℕ) (ups : List Up) (es : List LinkEnd) (i : ℕ) (ways : List ParallelLink) → length es ≤ i → AreWaysBy root ups router (take i es) ways → AreWaysBy root ups router es ways
ways_all root router ups es i ways le are = subst (λ (fs : List LinkEnd). AreWaysBy root ups router fs ways) (take_all i es le) are
