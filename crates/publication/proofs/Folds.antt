-- The results of the updates of a publication. Those of a whole table depend on nothing before
-- them.
use Rattle.std.proofs.Common.{◌≡◌, ◌⊎◌, List, [], ◌∷◌, ◌++◌, map, fold, Option, Some, None, refl, sym, ap, ◌∙◌, subst, inl, inr, append_assoc}
use Rattle.std.specs.Prelude.{Contains}
use Rattle.std.proofs.lemmas.List.Sums.{fold-append}
use Rattle.std.specs.FinMap.{FinMap, empty, entries, get, get-empty}
use Rattle.event_state.specs.declared.base.Base.{Base}
use Rattle.ospf_types.specs.Network.{Network, network_cmp}
use Rattle.ospf_types.proofs.Elements.{mapped_element, mapped_from}
use Rattle.ospf_types.proofs.Orders.{network_total, network_exact}
use Rattle.event_state.proofs.Sorted.{value_at, value_from}
use Rattle.route_table.specs.declared.table.Item.{Item}
use Rattle.route_table.specs.declared.delta.Change.{Change}
use Rattle.route_table.specs.declared.delta.Change.TheVariants.{Clear}
use Rattle.route_table.specs.Tables.{TableValue}
use Rattle.route_table.specs.Deltas.{changed, changes_to, Lead}
use Rattle.route_table.proofs.Folding.{give}
use Rattle.publication.specs.Lines.{HistoryLine}
use Rattle.publication.specs.Published.{IsTableFor}
use Rattle.publication.specs.Updates.{updated, gifts, all_of, those_of, ends, whole, deltas, IsRightState}
use Rattle.publication.specs.declared.published_table.PublishedState.{PublishedState}
use Rattle.publication.specs.declared.published_table.Update.{Update}
use Rattle.publication.specs.declared.published_table.Update.TheVariants as update

abbrev Items : Type 0
Items = FinMap network_cmp Item

-- no update changes the base
keeps_one : (f : PublishedState) (u : Update) → (updated f u).base ≡ f.base
keeps_one f (update.Change c) = refl
keeps_one f (update.List l) = refl

keeps_base : (f : PublishedState) (us : List Update) → (fold updated f us).base ≡ f.base
keeps_base f [] = refl
keeps_base f (u ∷ us) = keeps_base (updated f u) us ∙ keeps_one f u

-- changes change the table alone
changes_fold : (f : PublishedState) (cs : List Change) → fold updated f (map (λ c. update.Change c) cs) ≡ record f { table = fold changed f.table cs }
changes_fold f [] = refl
changes_fold f (c ∷ cs) = changes_fold (updated f (update.Change c)) cs

-- changes that lead to the items of a table, and then its list
ends_right : (f : PublishedState) (t : TableValue) (cs : List (Network × Option Item)) (line : HistoryLine) → Lead f.table.items t.items cs → IsTableFor f.base line.list t
    → IsRightState line f.base (fold updated f (gifts cs ++ ends t.serial line))
ends_right f t cs line lead right =
    let table : fold changed f.table (changes_to cs) ≡ record f.table { items = t.items } = give f.table t.items cs lead in
    let g : fold updated f (gifts cs) ≡ record f { table = record f.table { items = t.items } } = changes_fold f (changes_to cs) ∙ ap (λ (u : TableValue). record f { table = u }) table in
    let all : fold updated f (gifts cs ++ ends t.serial line) ≡ record { table = t; front = line; base = f.base } =
    fold-append updated f (gifts cs) (ends t.serial line) ∙ ap (λ (h : PublishedState). fold updated h (ends t.serial line)) g in
    subst (IsRightState line f.base) (sym all) (record { right = right; front = refl; base_is = refl })

abbrev no_items : Items
no_items = empty

-- all items lead from nothing to them
pub nothing_leads : (items : Items) → Lead no_items items (all_of items)
nothing_leads items = record { given = given; others = λ p. others p (get items p) refl }
  where
    given : (p : Network) (o : Option Item) → Contains (all_of items) (p, o) → get items p ≡ o
    given p o has =
        let from = mapped_from (λ (e : Network × Item). (e.0, Some e.1)) (entries items) (p, o) has in
        ap (λ (x : Network × Option Item). get items x.0) (sym from.2) ∙ value_from items from.0.0 from.0.1 network_total from.1 ∙ ap (λ (x : Network × Option Item). x.1) from.2

    others : (p : Network) (o : Option Item) → get items p ≡ o → (get items p ≡ get no_items p) ⊎ Contains (all_of items) (p, get items p)
    others p None is = inl (is ∙ sym (get-empty network_cmp p))
    others p (Some i) is = inr (subst (λ (o : Option Item). Contains (all_of items) (p, o)) (sym is) (mapped_element (λ (e : Network × Item). (e.0, Some e.1)) (entries items) (p, i) (value_at items p i network_exact is)))

-- one more of the networks that are left
pub appended_one : (before after all : List Update) (c : Network × Option Item) (left : List (Network × Option Item)) → before ++ gifts (c ∷ left) ≡ all → after ≡ before ++ gifts (c ∷ []) → after ++ gifts left ≡ all
appended_one before after all c left whole is = ap (λ (us : List Update). us ++ gifts left) is ∙ append_assoc before (gifts (c ∷ [])) (gifts left) ∙ whole

-- a whole table, after whatever is pending
pub gives_whole : (f : PublishedState) (pending : List Update) (t : TableValue) (line : HistoryLine) → IsTableFor f.base line.list t → IsRightState line f.base (fold updated f (pending ++ whole t line))
gives_whole f pending t line right =
    let g = fold updated f pending in
    let h = updated g (update.Change Clear) in
    let base : h.base ≡ f.base = keeps_base f pending in
    let end = ends_right h t (all_of t.items) line (nothing_leads t.items) (subst (λ (b : Base). IsTableFor b line.list t) (sym base) right) in
    let e = fold-append updated f pending (whole t line) in
    subst (λ (z : Base × PublishedState). IsRightState line z.0 z.1) (λ i. (base i, sym e i)) end

-- the changes, if nothing is pending
pub gives_changes : (f : PublishedState) (networks : List Network) (t : TableValue) (line : HistoryLine) → Lead f.table.items t.items (those_of t.items networks) → IsTableFor f.base line.list t
    → IsRightState line f.base (fold updated f (deltas networks t line))
gives_changes f networks t line lead right = ends_right f t (those_of t.items networks) line lead right
