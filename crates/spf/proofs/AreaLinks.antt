-- The links of an area are such as the tree needs.
use Rattle.std.proofs.Common.{◌≡◌, ℕ, ◌<◌, ◌≤◌, List, refl, subst, arith}
use Rattle.std.specs.Prelude.{Contains}
use Rattle.ospf_types.specs.declared.entry.Vertex.{Vertex}
use Rattle.ospf_types.specs.declared.entry.Vertex.TheVariants.{Router, Network}
use Rattle.ospf_types.specs.declared.label.Label.{Label}
use Rattle.ospf_types.specs.declared.label.Label.TheVariants.{Over, At, Plain}
use Rattle.ospf_types.specs.Lsa.{RouterLink}
use Rattle.ospf_types.specs.Links.{View, IsVertexOf, IsLabel, IsLinkOf}
use Rattle.spf.specs.Trees.{IsOntoRouter, IsOverInterface, AreLinks, AreCosts, HaveAddresses}

module _ (w : View) where
  -- out of a router a link has a cost
  costly : (router : ℕ) (to : Vertex) (cost : ℕ) (label : Label) → IsLinkOf w (Router router) to cost label → 0 < cost
  costly router (Router t) cost label taken = taken.8
  costly router (Network t) cost label taken = taken.8

  -- out of a network a link leads to a router, at no cost
  onto : (network : ℕ) (to : Vertex) (cost : ℕ) (label : Label) → IsLinkOf w (Network network) to cost label → IsOntoRouter to cost label
  onto network (Router t) cost label taken = record { router = t; addresses = taken.2; leads = refl; free = taken.4; labelled = taken.7 }
  onto network (Network t) cost label taken = absurd taken

  -- a label of the root names an interface
  interface_of : (detail : ℕ) (label : Label) → IsLabel w w.root detail label → (i : ℕ) × (label ≡ Over i)
  interface_of detail (Over i) is = (i, refl)
  interface_of detail Plain is = absurd (is refl)
  interface_of detail (At addresses) is = absurd is

  -- out of the root a link leads over an interface
  over : (to : Vertex) (cost : ℕ) (label : Label) → IsLinkOf w (Router w.root) to cost label → IsOverInterface (IsVertexOf w (Router w.root)) label
  over (Router t) cost label taken = let i = interface_of taken.2.detail label taken.9 in record { has = (taken.0, taken.1, taken.3); interface = i.0; labelled = i.1 }
  over (Network t) cost label taken = let i = interface_of taken.2.detail label taken.9 in record { has = (taken.0, taken.1, taken.3); interface = i.0; labelled = i.1 }

  -- the links of an area are such as the tree needs
  pub area_links : AreLinks (IsLinkOf w) w.root (IsVertexOf w (Router w.root))
  area_links = record { out_of_router = costly; out_of_network = onto; out_of_root = over }

  -- Where metrics are bounded, and the list has each router, links cost no more than the bound.
  pub area_costs : (most : ℕ) (routers : List ℕ) → ((router flags : ℕ) (links : List RouterLink) (l : RouterLink) → w.HasRouter router flags links → Contains links l → l.metric ≤ most)
      → ((router flags : ℕ) (links : List RouterLink) → w.HasRouter router flags links → Contains routers router) → AreCosts (IsLinkOf w) most routers
  area_costs most routers metrics all = record { bounded = cost_within; listed = listed_router }
    where
      cost_within : (router : ℕ) (to : Vertex) (cost : ℕ) (label : Label) → IsLinkOf w (Router router) to cost label → cost ≤ most
      cost_within router (Router t) cost label taken = omega (arith, metrics router taken.0 taken.1 taken.2 taken.3 taken.4, taken.7)
      cost_within router (Network t) cost label taken = omega (arith, metrics router taken.0 taken.1 taken.2 taken.3 taken.4, taken.7)

      listed_router : (router : ℕ) (to : Vertex) (cost : ℕ) (label : Label) → IsLinkOf w (Router router) to cost label → Contains routers router
      listed_router router (Router t) cost label taken = all router taken.0 taken.1 taken.3
      listed_router router (Network t) cost label taken = all router taken.0 taken.1 taken.3

  -- Where a router has one list of links, as where its LSAs have one key, each link out of a
  -- network has an address.
  module _ (one : (router flags other : ℕ) (xs ys : List RouterLink) → w.HasRouter router flags xs → w.HasRouter router other ys → xs ≡ ys) where
    -- the Link Data of the link back is an address on the network
    address_of : (network : ℕ) (to : Vertex) (cost : ℕ) (label : Label) (addresses : List ℕ) → IsLinkOf w (Network network) to cost label → label ≡ At addresses → (address : ℕ) × Contains addresses address
    address_of network (Router t) cost label addresses taken is =
        let named = taken.8 in
        let same : named.1 ≡ taken.1 = one t named.0 taken.0 named.1 taken.1 named.3 taken.5 in
        let own : Contains taken.1 named.2 = subst (λ (ls : List RouterLink). Contains ls named.2) same named.4 in
        let list : taken.2 ≡ addresses = cc (taken.7, is) in
        (named.2.detail, subst (λ (known : List ℕ). Contains known named.2.detail) list ((taken.6.same named.2.detail).1 (named.2, own, named.5, named.6, refl)))
    address_of network (Network t) cost label addresses taken is = absurd taken

    -- each link out of a network has an address
    pub area_addresses : HaveAddresses (IsLinkOf w)
    area_addresses = record { address = λ network to cost addresses taken. address_of network to cost (At addresses) addresses taken refl }
