use Rattle.std.proofs.Common.{◌≡◌, ℕ, Option, List, [], ◌∷◌, refl, sym, ap, subst, ◌∙◌}
use Rattle.std.specs.List.Sorted.{IsStrictlySortedBy}
use Rattle.std.specs.Map.{keys_of}
use Rattle.ospf_types.specs.Masks.{masked}
use Rattle.ospf_types.specs.Network.{Network, network_cmp}
use Rattle.route_table.specs.declared.table.Item.{Item}
use Rattle.test_state.proofs.table.a_change_adds_replaces_and_removes.Goals as goal

abbrev at : ℕ → ℕ → Network
at address length = record { address = masked address length; length = length }

abbrev three : Network → Network → Network → List Network
three p q r = p ∷ q ∷ r ∷ []

ascending : IsStrictlySortedBy network_cmp (three (at 167772160 16) (at 184549376 8) (at 201326592 8))
unfolding IsStrictlySortedBy
ascending = ((refl, (refl, tt)), ((refl, tt), (tt, tt)))

abbrev network_of : Network × Option Item → Network
network_of new = new.0

pub change-requires : goal.change-requires
change-requires g c =
    let keys : keys_of c.in_ok-changes.changes.items ≡ three (at 167772160 16) (at 184549376 8) (at 201326592 8) =
    ap keys_of c.in_ok-changes.ensures.items ∙ (λ i. three ((ap network_of c.new-longer.ensures ∙ c.in_ok-network.ensures) i) ((ap network_of c.new-discarded.ensures ∙ c.in_ok-network-2.ensures) i) ((ap network_of c.new-gone.ensures ∙ c.in_ok-network-3.ensures) i)) in
    subst (IsStrictlySortedBy network_cmp) (sym keys) ascending
