-- The stub links that join the two ends of a point-to-point link, found by hosts and masks (RFC
-- 2328, 12.4.1.1).
use Rattle.std.specs.Prelude.{ℕ, ◌≡◌, ◌==◌, ◌&&◌, ◌++◌, Bool, if◌then◌else◌, List, [], ◌∷◌, bit_and}
use Rattle.std.specs.List.{list_any, fold}
use Rattle.std.specs.BTreeSet.{contains}
use Rattle.std.specs.Ordering.{nat_cmp}
use Rattle.ospf_types.specs.declared.lsa.Link.{Link}
use Rattle.captured_config.specs.declared.hosts.Hosts.{Hosts}
use Rattle.captured_config.specs.Interfaces.{is_stub, lies_in}

-- a stub link to the host with the address
abbrev pub leads_to_host : (address : ℕ) → Link → Bool
leads_to_host address l = is_stub l.kind && (lies_in address l && (l.detail == 4294967295))

abbrev pub has_host : Hosts → (address : ℕ) → Bool
has_host hosts address = contains nat_cmp hosts.addresses (bit_and address 4294967295)

-- the hosts that these links lead to
abbrev pub AreHosts : List Link → Hosts → Type 0
AreHosts own hosts = (address : ℕ) → has_host hosts address ≡ list_any (leads_to_host address) own

-- both addresses lie in one network with this mask
abbrev pub agree : (address peer mask : ℕ) → Bool
agree address peer mask = bit_and peer mask == bit_and address mask

-- the masks, and this one, without duplicates
abbrev pub with_mask : List ℕ → ℕ → List ℕ
with_mask masks mask = if list_any (λ m. m == mask) masks then masks else masks ++ mask ∷ []

-- a stub link to a network that the address lies in
abbrev pub leads_around : (address : ℕ) → Link → Bool
leads_around address l = is_stub l.kind && lies_in address l

abbrev pub with_mask_around : (address : ℕ) → List ℕ → Link → List ℕ
with_mask_around address masks l = if leads_around address l then with_mask masks l.detail else masks

-- the masks of the networks that the address lies in
abbrev pub masks_around : (address : ℕ) → List Link → List ℕ
masks_around address own = fold (with_mask_around address) [] own
