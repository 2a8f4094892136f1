-- Right tables of one list are equal, and the differences of two tables lead from one to the other.
use Rattle.std.proofs.Common.{◌≡◌, ◌⊎◌, ℕ, List, Option, Some, None, refl, sym, ap, ◌∙◌, inl, inr}
use Rattle.std.specs.Prelude.{Contains}
use Rattle.std.specs.Coded.{Coded, coded_option}
use Rattle.std.specs.FinMap.{FinMap, get, same_map}
use Rattle.ospf_types.specs.Inputs.{Inputs}
use Rattle.ospf_types.specs.Network.{Network, network_cmp}
use Rattle.ospf_types.proofs.Elements.{mapped_element, mapped_from}
use Rattle.ospf_types.proofs.Orders.{network_total, network_exact}
use Rattle.route_choice.proofs.KeyedMaps.{listed_or_not}
use Rattle.ospf_types.proofs.Stable.{same_value}
use Rattle.route_table.specs.declared.table.Item.{Item}
use Rattle.route_table.specs.declared.table.Item.TheVariants as item
use Rattle.route_table.specs.contracts.table.Item as item_contract
use Rattle.route_table.specs.Tables.{TableValue}
use Rattle.route_table.specs.Deltas.{Lead}
use Rattle.route_table.specs.Right.{IsRoutingTable}
use Rattle.event_core.specs.Following.{AreChanges}
use Rattle.publication.specs.Updates.{those_of}

abbrev Items : Type 0
Items = FinMap network_cmp Item

item_code : Coded (Option Item)
item_code = coded_option item_contract.the_row.coded

module _ (s : Inputs) (n : ℕ) (t u : TableValue) (one : IsRoutingTable s n t) (two : IsRoutingTable s n u) where
  stands_in : (p : Network) (i : Item) → get t.items p ≡ Some i → get u.items p ≡ Some i
  stands_in p (item.Route e) is = (two.routes p e).1 ((one.routes p e).0 is)
  stands_in p item.Discard is = (two.discards p).1 ((one.discards p).0 is)

same_at : (o q : Option Item) → ((i : Item) → o ≡ Some i → q ≡ Some i) → ((i : Item) → q ≡ Some i → o ≡ Some i) → o ≡ q
same_at None None there back = refl
same_at None (Some i) there back = back i refl
same_at (Some i) q there back = sym (there i refl)

-- two right tables of one list have the same items
pub same_items : (s : Inputs) (n : ℕ) (t u : TableValue) → IsRoutingTable s n t → IsRoutingTable s n u → t.items ≡ u.items
same_items s n t u one two = same_map network_total network_exact t.items u.items (λ p. same_at (get t.items p) (get u.items p) (stands_in s n t u one two p) (stands_in s n u t two one p))

-- the networks whose item differs lead from the old table to the new one
pub changes_lead : (old new : Items) (networks : List Network) → AreChanges old new networks → Lead old new (those_of new networks)
changes_lead old new networks changes = record { given = given; others = others }
  where
    given : (p : Network) (o : Option Item) → Contains (those_of new networks) (p, o) → get new p ≡ o
    given p o has =
        let from = mapped_from (λ (q : Network). (q, get new q)) networks (p, o) has in
        ap (λ (x : Network × Option Item). get new x.0) (sym from.2) ∙ ap (λ (x : Network × Option Item). x.1) from.2

    others : (p : Network) → (get new p ≡ get old p) ⊎ Contains (those_of new networks) (p, get new p)
    others p = elim (listed_or_not network_total network_exact p networks) [
      | inl has ↦ inr (mapped_element (λ (q : Network). (q, get new q)) networks p has)
      | inr absent ↦ inl (same_value item_code (get new p) (get old p) (λ other. absent ((changes.exact p).1 other)))
    ]
