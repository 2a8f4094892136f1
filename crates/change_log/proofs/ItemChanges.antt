-- The table by the changes, one after the other.
--   items_both: one list after the other
--   items_follow: the differences of a table lead to the next one
--   items_all: the whole table leads to it from nothing

use Rattle.std.proofs.Common.{◌≡◌, ◌≢◌, ℕ, Bool, true, false, cond, T, ◌&&◌, List, [], ◌∷◌, ◌++◌, map, Option, Some, None, refl, sym, ap, subst, ◌∙◌, inl, inr}
use Rattle.std.specs.declared.cmp.Ordering.{Ordering}
use Rattle.std.specs.declared.cmp.Ordering.TheVariants.{Less, Equal, Greater}
use Rattle.std.specs.Ordering.{is_lt, is_eq, eq_by_cmp}
use Rattle.std.specs.FinMap.{get, insert, empty, entries, entries_sorted, find, is_sorted, same_map, get-empty, get-entries}
use Rattle.std.specs.FinMap.Entries.{below_all}
use Rattle.std.specs.List.{Contains, flat_map}
use Rattle.std.proofs.lemmas.Cmp.{eq_by_cmp_equiv}
use Rattle.ospf_types.specs.declared.key.Dest.{Dest}
use Rattle.ospf_types.specs.declared.prefix.Prefix.{Prefix}
use Rattle.ospf_types.specs.Network.{network_cmp}
use Rattle.ospf_types.proofs.Elements.{no_element, first_or_later}
use Rattle.ospf_types.proofs.Orders.{network_total, network_exact}
use Rattle.route_choice.proofs.KeyedMaps.{apart_by_order, one_or_other, set_here, set_elsewhere, gone_here, gone_elsewhere}
use Rattle.route_table.specs.declared.table.Item.{Item}
use Rattle.summary_lists.specs.Lists.{Metrics}
use Rattle.change_log.specs.Lines.{Change}
use Rattle.event_core.specs.Following.{AreChanges}
use Rattle.change_log.specs.Changes.{Items, item_set, change_to, network_change, due_change, area_changes, items_after, items_from}
use Rattle.change_log.proofs.Deciding.{same_items}

pub items_both : (m : Items) (xs ys : List Change) → items_from m (xs ++ ys) ≡ items_from (items_from m xs) ys
items_both m [] ys = refl
items_both m (x ∷ xs) ys = items_both (items_after m x) xs ys

-- ---- networks with the items that they have now

set_to : (m : Items) (n : Prefix) (o : Option Item) → get (items_after m (change_to n o)) n ≡ o
set_to m n (Some i) = set_here network_total m n i
set_to m n None = gone_here network_total m n

set_else : (m : Items) (n q : Prefix) (o : Option Item) → q ≢ n → get (items_after m (change_to n o)) q ≡ get m q
set_else m n q (Some i) other = set_elsewhere network_total network_exact m n q i other
set_else m n q None other = gone_elsewhere network_total network_exact m n q other

module _ (items : Items) where
  reaches : (ns : List Prefix) (m : Items) (q : Prefix) → ((Contains ns q → ⊥) → get m q ≡ get items q) → get (items_from m (map (network_change items) ns)) q ≡ get items q
  reaches [] m q h = h (λ c. no_element q c)
  reaches (n ∷ ns) m q h = reaches ns (items_after m (network_change items n)) q (λ absent. elim (one_or_other network_total network_exact n q) [
    | inl e ↦ subst (λ (x : Prefix). get (items_after m (network_change items n)) x ≡ get items x) (sym e) (set_to m n (get items n))
    | inr other ↦ set_else m n q (get items n) other ∙ h (λ c. elim (first_or_later n q ns c) [ inl e ↦ other e | inr later ↦ absent later ])
  ])

-- ---- what is due is none of the table

due_leaves : (m : Items) (area : ℕ) (x : Dest × Option ℕ) → items_after m (due_change area x) ≡ m
due_leaves m area (d, Some metric) = refl
due_leaves m area (d, None) = refl

area_leaves : (m : Items) (area : ℕ) (ms : Metrics) → items_from m (map (due_change area) ms) ≡ m
area_leaves m area [] = refl
area_leaves m area (x ∷ ms) = ap (λ (n : Items). items_from n (map (due_change area) ms)) (due_leaves m area x) ∙ area_leaves m area ms

pub summaries_leave : (m : Items) (due : List (ℕ × Metrics)) → items_from m (flat_map area_changes due) ≡ m
summaries_leave m [] = refl
summaries_leave m (e ∷ due) =
    items_both m (area_changes e) (flat_map area_changes due) ∙ ap (λ (n : Items). items_from n (flat_map area_changes due)) (area_leaves m e.0 e.1) ∙ summaries_leave m due

-- ---- from one table to the next

pub items_follow : (old new : Items) (networks : List Prefix) (due : List (ℕ × Metrics)) → AreChanges old new networks
    → items_from old (map (network_change new) networks ++ flat_map area_changes due) ≡ new
items_follow old new networks due changes =
    let named : List Change = map (network_change new) networks in
    items_both old named (flat_map area_changes due) ∙ summaries_leave (items_from old named) due
    ∙ same_map network_total network_exact (items_from old named) new (λ q. reaches new networks old q (λ absent. same_items (get old q) (get new q) (λ other. absent ((changes.exact q).1 (λ e. other (sym e))))))

-- ---- the whole table, from nothing

front : (a b : Bool) → T (a && b) → T a
front true b both = tt
front false b both = both

rest : (a b : Bool) → T (a && b) → T b
rest true b both = both
rest false b both = absurd both

less : (o : Ordering) → T (is_lt o) → is_eq o ≡ false
less Less lt = refl
less Equal lt = absurd lt
less Greater lt = absurd lt

-- a network before all of these is none of them
before_all : (p : Prefix) (es : List (Prefix × Item)) → T (below_all network_cmp p es) → find network_cmp p es ≡ None
before_all p [] h = refl
before_all p (e ∷ es) h = ap (λ b. cond b (Some e.1) (find network_cmp p es)) (less (network_cmp p e.0) (front _ _ h)) ∙ before_all p es (rest _ _ h)

abbrev or_else : Option Item → Option Item → Option Item
or_else (Some i) o = Some i
or_else None o = o

all_set : (es : List (Prefix × Item)) → T (is_sorted network_cmp es) → (m : Items) (q : Prefix) → get (items_from m (map item_set es)) q ≡ or_else (find network_cmp q es) (get m q)
all_set [] sorted m q = refl
all_set (e ∷ es) sorted m q =
    let after : Items = insert m e.0 e.1 in
    all_set es (rest _ _ sorted) after q ∙ elim (one_or_other network_total network_exact e.0 q) [
      | inl is ↦
          let none : find network_cmp q es ≡ None = ap (λ (p : Prefix). find network_cmp p es) is ∙ before_all e.0 es (front _ _ sorted) in
          let tie : eq_by_cmp network_cmp q e.0 ≡ true = ap (λ (p : Prefix). eq_by_cmp network_cmp p e.0) is ∙ (eq_by_cmp_equiv network_total).refl e.0 in
          ap (λ o. or_else o (get after q)) none ∙ ap (get after) is ∙ set_here network_total m e.0 e.1 ∙ ap (λ b. or_else (cond b (Some e.1) (find network_cmp q es)) (get m q)) (sym tie)
      | inr other ↦
          ap (or_else (find network_cmp q es)) (set_elsewhere network_total network_exact m e.0 q e.1 other)
          ∙ ap (λ b. or_else (cond b (Some e.1) (find network_cmp q es)) (get m q)) (sym (apart_by_order network_exact e.0 q other))
    ]

or_none : (o : Option Item) → or_else o None ≡ o
or_none (Some i) = refl
or_none None = refl

pub items_all : (items : Items) (due : List (ℕ × Metrics)) → items_from empty (map item_set (entries items) ++ flat_map area_changes due) ≡ items
items_all items due =
    let all : List Change = map item_set (entries items) in
    items_both empty all (flat_map area_changes due) ∙ summaries_leave (items_from empty all) due
    ∙ same_map network_total network_exact (items_from empty all) items
    (λ q. all_set (entries items) (entries_sorted items) empty q ∙ ap (or_else (find network_cmp q (entries items))) (get-empty network_cmp q) ∙ or_none (find network_cmp q (entries items)) ∙ sym (get-entries items q))
