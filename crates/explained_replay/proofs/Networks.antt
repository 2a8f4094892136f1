-- The networks that contain an address, the longest first.
use Rattle.std.proofs.Common.{◌≡◌, ℕ, zero, suc, ◌<◌, ◌≤◌, ◌-◌, List, [], ◌++◌, append_assoc, append-nil, ap, sym, ◌∙◌, arith, refl, sub-one}
use Rattle.std.specs.List.{flat_map}
use Rattle.ospf_types.specs.Address.{network_around}
use Rattle.ospf_types.specs.Network.{Network}
use Rattle.explained_replay.specs.Explanations.{networks_below}

-- the longest, and the others
pub longest_first : (text : Network → List ℕ) (address bits : ℕ) → 0 < bits
    → flat_map text (networks_below address bits) ≡ text (network_around address (bits - 1)) ++ flat_map text (networks_below address (bits - 1))
unfolding networks_below
longest_first text address zero some = absurd (omega arith)
longest_first text address (suc n) some = rw (sub-one (suc n)) refl

-- none is left
pub none_below : (text : Network → List ℕ) (address bits : ℕ) → bits ≤ 0 → flat_map text (networks_below address bits) ≡ []
unfolding networks_below
none_below text address zero none = refl
none_below text address (suc n) none = absurd (omega arith)

-- the printed text of one network, while the others are left
pub network_printed : (text : Network → List ℕ) (address bits : ℕ) (now next whole : List ℕ) → now ++ flat_map text (networks_below address bits) ≡ whole → 0 < bits
    → next ≡ now ++ text (network_around address (bits - 1)) → next ++ flat_map text (networks_below address (bits - 1)) ≡ whole
network_printed text address bits now next whole so_far some printed =
    ap (λ l. l ++ flat_map text (networks_below address (bits - 1))) printed ∙ append_assoc now (text (network_around address (bits - 1))) (flat_map text (networks_below address (bits - 1)))
    ∙ ap (λ l. now ++ l) (sym (longest_first text address bits some)) ∙ so_far

pub all_networks_printed : (text : Network → List ℕ) (address bits : ℕ) (now whole : List ℕ) → now ++ flat_map text (networks_below address bits) ≡ whole → bits ≤ 0 → now ≡ whole
all_networks_printed text address bits now whole so_far none = sym (append-nil now) ∙ ap (λ l. now ++ l) (sym (none_below text address bits none)) ∙ so_far
