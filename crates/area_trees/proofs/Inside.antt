-- The graph and tree of an area are as defined: its vertices, links, distances and next hops (RFC
-- 2328, 16.1).
use Rattle.std.proofs.Common.{◌≡◌, ℕ, List, Option, Some, None, refl, sym, ap, subst, ◌∙◌, inl, inr}
use Rattle.std.specs.Prelude.{◌↔◌}
use Rattle.std.specs.FinMap.{get}
use Rattle.std.specs.List.{Contains}
use Rattle.ospf_types.specs.declared.entry.Vertex.{Vertex}
use Rattle.ospf_types.specs.declared.entry.Vertex.TheVariants.{Router, Network}
use Rattle.ospf_types.specs.declared.hop.NextHop.{NextHop}
use Rattle.ospf_types.specs.declared.key.Key.{Key}
use Rattle.ospf_types.specs.declared.label.Label.{Label}
use Rattle.ospf_types.specs.declared.label.Label.TheVariants.{Over, At, Plain}
use Rattle.ospf_types.specs.Inputs.{Inputs, Area}
use Rattle.ospf_types.specs.Intra.{IsDistanceIn, IsHopIn}
use Rattle.ospf_types.specs.Links.{IsRouter, IsNetworkLsa, IsNetwork, IsVertex, IsLabel, IsLink, ListsRouter, view_of}
use Rattle.ospf_types.specs.Lsa.{Lsa, Body, RouterLink, RouterLinks, NetworkLinks, key_of, kind_of}
use Rattle.ospf_types.proofs.Elements.{no_element}
use Rattle.lsa_codec.specs.Spelling.{IsLegal, IsLegalBody}
use Rattle.lsdb.specs.Databases.{Database}
use Rattle.vertex_graph.specs.LinkEnd.{LinkEnd}
use Rattle.vertex_graph.specs.Up.{Up}
use Rattle.vertex_graph.specs.Ends.{AreEnds}
use Rattle.vertex_graph.specs.Graphs.{LinksOf, HasRoot, HasEnds}
use Rattle.vertex_graph.specs.Pairs.{Names, IsOutLabel, IsPairLink}
use Rattle.vertex_graph.proofs.PairLinks.{pair_of_link, link_of_pair}
use Rattle.spf.specs.Changes.{SameLinks}
use Rattle.spf.specs.Parts.{hops_of}
use Rattle.spf.specs.Trees.{IsTree}
use Rattle.spf.specs.TreeValues.{listed_hops}
use Rattle.spf.proofs.SameLinks.{tree_same}
use Rattle.spf.proofs.Values.{value_at}
use Rattle.area_trees.specs.Areas.{IsStanding, LeadsByBody, IsGraphOf, IsAreaTree, IsAreaOf, AreaGraphValue, AreaTreeValue, router_key, network_key, body_at}
use Rattle.area_trees.proofs.Held.{under_key, among_values, held_by, used_of}
use Rattle.area_trees.proofs.Leading.{leads_some, some_leads, named_there, link_there, link_named, end_at, end_there, details_there, addresses_there, router_there, router_named, IsTo}
use Rattle.area_trees.proofs.Standing.{there, is_there, one_standing, used_network, some_router, some_network}

-- a router-LSA is under its router's own key
router_key_is : (l : Lsa) (router flags : ℕ) (links : List RouterLink) → IsLegal l → l.header.router ≡ router → l.body ≡ RouterLinks flags links → key_of l ≡ router_key router
router_key_is l router flags links legal by is =
    let kind : l.header.kind ≡ 1 = legal.kind ∙ ap kind_of is in
    let own = subst (IsLegalBody l.header) is legal.body in
    let id : l.header.id ≡ router = own.own ∙ by in
    λ i. record { kind = kind i; id = id i; router = by i }

-- and a network-LSA under its Link State ID and its Advertising Router
network_key_is : (l : Lsa) (id advertiser mask : ℕ) (routers : List ℕ) → IsLegal l → l.header.id ≡ id → l.header.router ≡ advertiser → l.body ≡ NetworkLinks mask routers → key_of l ≡ network_key id advertiser
network_key_is l id advertiser mask routers legal at by is =
    let kind : l.header.kind ≡ 2 = legal.kind ∙ ap kind_of is in
    λ i. record { kind = kind i; id = at i; router = by i }

-- ---- the graph of a database

-- a vertex has its ends in order, and a network leads only to routers
module _ {d : Database} {v : AreaGraphValue} (is : IsGraphOf d v) where
  -- where a vertex leads by what represents it
  led : (w : Vertex) (b : Body) → IsStanding d w (Some b) → (ends : List LinkEnd) × (get v.graph.ends w ≡ Some ends) × AreEnds w b ends
  led w b stands =
      let at = is.leads w in
      leads_some w b (get v.graph.ends w) (subst (λ (o : Option Body). LeadsByBody w o (get v.graph.ends w)) (one_standing d w at.0 (Some b) at.1 stands) at.2)

  leading : (w : Vertex) (ends : List LinkEnd) → get v.graph.ends w ≡ Some ends → (b : Body) × IsStanding d w (Some b) × AreEnds w b ends
  leading w ends here =
      let at = is.leads w in
      let from = some_leads w at.0 ends (subst (LeadsByBody w at.0) here at.2) in
      (from.0, subst (IsStanding d w) from.1 at.1, from.2)

  pub graph_ends : HasEnds v.graph
  graph_ends = record {
    in_order = λ w ends here. (leading w ends here).2.in_order;
    listed = λ n ends e here c.
        let from = leading (Network n) ends here in
        let to = (from.2.exact e).0 c in
        (to.0, to.2);
  }

-- ---- an area

module _ {s : Inputs} {a : Area} {d : Database} {ups : List Up} (area : IsAreaOf s a d ups) where
  -- an LSA of the area is under its own key
  held_in : (l : Lsa) → Contains a.lsas l → get d (key_of l) ≡ Some l
  held_in l h =
      let w = under_key d l (subst (λ (ls : List Lsa). Contains ls l) area.lsas h) in
      ap (get d) (sym (area.sound.under_own_key w.0 l w.1)) ∙ w.1

  held_from : (key : Key) (l : Lsa) → get d key ≡ Some l → Contains a.lsas l
  held_from key l e = subst (λ (ls : List Lsa). Contains ls l) (sym area.lsas) (among_values d key l e)

  -- a router of the area is one for which a router-LSA stands
  pub router_in : (r flags : ℕ) (links : List RouterLink) → IsRouter a r flags links ↔ IsStanding d (Router r) (Some (RouterLinks flags links))
  router_in r flags links = (
    λ is.
        let l = is.lsa.0 in
        let found = held_in l is.lsa.1.held in
        let key = router_key_is l r flags links (area.sound.legal (key_of l) l found) is.lsa.2 is.lsa.3 in
        ap Some (sym is.lsa.3) ∙ sym (used_of d (key_of l) l found is.lsa.1.usable) ∙ ap (body_at d) key,
    λ stands.
        let w = held_by d (router_key r) (RouterLinks flags links) (sym stands) in
        let key = area.sound.under_own_key (router_key r) w.0 w.1 in
        record { lsa = (w.0, record { held = held_from (router_key r) w.0 w.1; usable = w.2 }, ap (λ (k : Key). k.router) (sym key), w.3) },
  )

  network_lsa : (n advertiser mask : ℕ) (routers : List ℕ) → IsNetworkLsa a n advertiser mask routers ↔ (body_at d (network_key n advertiser) ≡ Some (NetworkLinks mask routers))
  network_lsa n advertiser mask routers = (
    λ is.
        let l = is.lsa.0 in
        let found = held_in l is.lsa.1.held in
        let key = network_key_is l n advertiser mask routers (area.sound.legal (key_of l) l found) is.lsa.2 is.lsa.3 is.lsa.4 in
        ap (body_at d) (sym key) ∙ used_of d (key_of l) l found is.lsa.1.usable ∙ ap Some is.lsa.4,
    λ used.
        let w = held_by d (network_key n advertiser) (NetworkLinks mask routers) used in
        let key = area.sound.under_own_key (network_key n advertiser) w.0 w.1 in
        record { lsa = (w.0, record { held = held_from (network_key n advertiser) w.0 w.1; usable = w.2 }, ap (λ (k : Key). k.id) (sym key), ap (λ (k : Key). k.router) (sym key), w.3) },
  )

  -- a transit network of the area is one for which a network-LSA stands
  pub network_in : (n mask : ℕ) (routers : List ℕ) → IsNetwork a n mask routers ↔ IsStanding d (Network n) (Some (NetworkLinks mask routers))
  network_in n mask routers = (
    λ is.
        let used = (network_lsa n is.chosen.0 mask routers).0 is.chosen.1 in
        inl (
          is.chosen.0,
          (
            is_there _ _ used,
            λ other some.
                let b = there (body_at d (network_key n other)) some in
                let body = used_network area.sound n other b.0 b.1 in
                is.chosen.2 other body.0 body.1 ((network_lsa n other body.0 body.1).1 (b.1 ∙ ap Some body.2)),
          ),
          sym used,
        ),
    λ stands. elim stands [
      | inl one ↦ record {
        chosen = (one.0, (network_lsa n one.0 mask routers).1 (sym one.2), λ other m rs lsa. one.1.1 other (is_there _ _ ((network_lsa n other m rs).0 lsa)));
      }
      | inr none ↦ absurd (let wrong : Some (NetworkLinks mask routers) ≡ None = none.1 in cc)
    ],
  )

  -- a label in the view of the area is one by its root and its interfaces
  out_label : (from detail : ℕ) (label : Label) → IsLabel (view_of s a) from detail label → IsOutLabel s.router ups from detail label
  out_label from detail (Over id) is = (is.0, (area.interfaces (record { id = id; address = detail })).1 is.1)
  out_label from detail Plain is = is
  out_label from detail (At addresses) is = is

  label_out : (from detail : ℕ) (label : Label) → IsOutLabel s.router ups from detail label → IsLabel (view_of s a) from detail label
  label_out from detail (Over id) is = (is.0, (area.interfaces (record { id = id; address = detail })).0 is.1)
  label_out from detail Plain is = is
  label_out from detail (At addresses) is = is

  module _ {v : AreaGraphValue} (graph : IsGraphOf d v) where
    router_led : (r flags : ℕ) (links : List RouterLink) → IsRouter a r flags links → (ends : List LinkEnd) × (get v.graph.ends (Router r) ≡ Some ends) × AreEnds (Router r) (RouterLinks flags links) ends
    router_led r flags links is = led graph (Router r) (RouterLinks flags links) ((router_in r flags links).0 is)

    network_led : (n mask : ℕ) (routers : List ℕ) → IsNetwork a n mask routers → (ends : List LinkEnd) × (get v.graph.ends (Network n) ≡ Some ends) × AreEnds (Network n) (NetworkLinks mask routers) ends
    network_led n mask routers is = led graph (Network n) (NetworkLinks mask routers) ((network_in n mask routers).0 is)

    router_leads : (r : ℕ) (ends : List LinkEnd) → get v.graph.ends (Router r) ≡ Some ends → (flags : ℕ) × (links : List RouterLink) × IsRouter a r flags links × AreEnds (Router r) (RouterLinks flags links) ends
    router_leads r ends here =
        let from = leading graph (Router r) ends here in
        let body = some_router area.sound r from.0 from.1 in (
          body.0,
          body.1,
          (router_in r body.0 body.1).1 (subst (λ (b : Body). IsStanding d (Router r) (Some b)) body.2 from.1),
          subst (λ (b : Body). AreEnds (Router r) b ends) body.2 from.2,
        )

    network_leads : (n : ℕ) (ends : List LinkEnd) → get v.graph.ends (Network n) ≡ Some ends → (mask : ℕ) × (routers : List ℕ) × IsNetwork a n mask routers × AreEnds (Network n) (NetworkLinks mask routers) ends
    network_leads n ends here =
        let from = leading graph (Network n) ends here in
        let body = some_network area.sound n from.0 from.1 in (
          body.0,
          body.1,
          (network_in n body.0 body.1).1 (subst (λ (b : Body). IsStanding d (Network n) (Some b)) body.2 from.1),
          subst (λ (b : Body). AreEnds (Network n) b ends) body.2 from.2,
        )

    -- a network that lists a router has an end at it
    listed_by : (network router : ℕ) → ListsRouter (view_of s a) network router → (ends : List LinkEnd) × (get v.graph.ends (Network network) ≡ Some ends) × Names ends (Router router)
    listed_by network router lists =
        let at = network_led network lists.0 lists.1 lists.2 in
        (at.0, at.1, router_there at.2 router lists.3)

    lists_by : (network router : ℕ) (ends : List LinkEnd) → get v.graph.ends (Network network) ≡ Some ends → Names ends (Router router) → ListsRouter (view_of s a) network router
    lists_by network router ends here named =
        let at = network_leads network ends here in
        (at.0, at.1, at.2, router_named at.3 router named)

    -- a link of the area is one that the ends of its two vertices make
    pair_in : (x y : Vertex) (cost : ℕ) (label : Label) → IsLink s a x y cost label
        → (ends : List LinkEnd) × (back : List LinkEnd) × (get v.graph.ends x ≡ Some ends) × (get v.graph.ends y ≡ Some back) × IsPairLink s.router ups x ends y back cost label
    pair_in (Router from) (Router to) cost label taken =
        let own = router_led from taken.0 taken.1 taken.3 in
        let named = taken.10 in
        let other = router_led to named.0 named.1 named.3 in
        let l = taken.2 in (
          own.0,
          other.0,
          own.1,
          other.1,
          (
            end_at (Router to) l.detail l.metric,
            end_there own.2 (Router to) l taken.4 (taken.5, taken.6),
            refl,
            taken.7,
            taken.8,
            out_label from l.detail label taken.9,
            named_there other.2 (Router from) named.2 named.4 (named.5, named.6),
          ),
        )
    pair_in (Router from) (Network to) cost label taken =
        let own = router_led from taken.0 taken.1 taken.3 in
        let other = listed_by to from taken.10 in
        let l = taken.2 in (
          own.0,
          other.0,
          own.1,
          other.1,
          (
            end_at (Network to) l.detail l.metric,
            end_there own.2 (Network to) l taken.4 (taken.5, taken.6),
            refl,
            taken.7,
            taken.8,
            out_label from l.detail label taken.9,
            other.2,
          ),
        )
    pair_in (Network from) (Router to) cost label taken =
        let own = listed_by from to taken.3 in
        let other = router_led to taken.0 taken.1 taken.5 in
        let named = taken.8 in
        let back = router_led to named.0 named.1 named.3 in
        let same : back.0 ≡ other.0 = let one = back.1 in let two = other.1 in cc in (
          own.0,
          other.0,
          own.1,
          other.1,
          (
            own.2,
            taken.4,
            subst (λ (es : List LinkEnd). Names es (Network from)) same (named_there back.2 (Network from) named.2 named.4 (named.5, named.6)),
            (taken.2, details_there other.2 from taken.2 taken.6, taken.7),
          ),
        )
    pair_in (Network from) (Network to) cost label taken = absurd taken

    -- and what the ends of two vertices make is a link of the area
    link_in : (x y : Vertex) (ends back : List LinkEnd) (cost : ℕ) (label : Label) → get v.graph.ends x ≡ Some ends → get v.graph.ends y ≡ Some back
        → IsPairLink s.router ups x ends y back cost label → IsLink s a x y cost label
    link_in (Router from) (Router to) ends back cost label here at taken =
        let own = router_leads from ends here in
        let other = router_leads to back at in
        let l = link_there own.3 taken.0 taken.1 in
        let leads = subst (λ (t : Vertex). IsTo t l.0) taken.2 l.2 in
        let named = link_named other.3 (Router from) taken.6 in (
          own.0,
          own.1,
          l.0,
          own.2,
          l.1,
          leads.0,
          leads.1,
          l.4 ∙ taken.3,
          taken.4,
          label_out from l.0.detail label (subst (λ (n : ℕ). IsOutLabel s.router ups from n label) (sym l.3) taken.5),
          (other.0, other.1, named.0, other.2, named.1, named.2.0, named.2.1),
        )
    link_in (Router from) (Network to) ends back cost label here at taken =
        let own = router_leads from ends here in
        let l = link_there own.3 taken.0 taken.1 in
        let leads = subst (λ (t : Vertex). IsTo t l.0) taken.2 l.2 in (
          own.0,
          own.1,
          l.0,
          own.2,
          l.1,
          leads.0,
          leads.1,
          l.4 ∙ taken.3,
          taken.4,
          label_out from l.0.detail label (subst (λ (n : ℕ). IsOutLabel s.router ups from n label) (sym l.3) taken.5),
          lists_by to from back at taken.6,
        )
    link_in (Network from) (Router to) ends back cost label here at taken =
        let other = router_leads to back at in
        let named = link_named other.3 (Network from) taken.2 in (
          other.0,
          other.1,
          taken.3.0,
          lists_by from to ends here taken.0,
          taken.1,
          other.2,
          addresses_there other.3 from taken.3.0 taken.3.1,
          taken.3.2,
          (other.0, other.1, named.0, other.2, named.1, named.2.0, named.2.1),
        )
    link_in (Network from) (Network to) ends back cost label here at taken = absurd taken

  module _ {t : AreaTreeValue} (is : IsAreaTree s.router d ups t) where
    -- root and interfaces of the graph belong to the area
    given : (x y : Vertex) (ends back : List LinkEnd) (cost : ℕ) (label : Label) → IsPairLink t.area.graph.root t.area.graph.interfaces x ends y back cost label → IsPairLink s.router ups x ends y back cost label
    given x y ends back cost label taken =
        subst (λ (r : ℕ). IsPairLink r ups x ends y back cost label) is.root_is (subst (λ (us : List Up). IsPairLink t.area.graph.root us x ends y back cost label) is.interfaces taken)

    kept : (x y : Vertex) (ends back : List LinkEnd) (cost : ℕ) (label : Label) → IsPairLink s.router ups x ends y back cost label → IsPairLink t.area.graph.root t.area.graph.interfaces x ends y back cost label
    kept x y ends back cost label taken =
        subst (λ (us : List Up). IsPairLink t.area.graph.root us x ends y back cost label) (sym is.interfaces) (subst (λ (r : ℕ). IsPairLink r ups x ends y back cost label) (sym is.root_is) taken)

    -- the links of the graph belong to the area
    pub links_in : SameLinks (LinksOf t.area.graph) (IsLink s a)
    links_in from to cost label = (
      λ taken.
          let pair = pair_of_link t.area.graph (graph_ends is.graph) from to cost label taken in
          link_in is.graph from to pair.0 pair.1 cost label pair.2 pair.3 (given from to pair.0 pair.1 cost label pair.4),
      λ taken.
          let pair = pair_in is.graph from to cost label taken in
          link_of_pair t.area.graph from to pair.0 pair.1 cost label pair.2 pair.3 (kept from to pair.0 pair.1 cost label pair.4),
    )

    -- and the root is a vertex of the graph where it is one of the area
    pub root_in : HasRoot t.area.graph ↔ IsVertex a (Router s.router)
    root_in = (
      λ has.
          let at = subst (λ (r : ℕ). get t.area.graph.ends (Router r) ≡ Some has.2.0) is.root_is has.2.1 in
          let from = router_leads is.graph s.router has.2.0 at in
          (from.0, from.1, from.2),
      λ has.
          let at = router_led is.graph s.router has.0 has.1 has.2 in
          (0, _, (at.0, ap (λ (r : ℕ). get t.area.graph.ends (Router r)) is.root_is ∙ at.1, refl, refl)),
    )

    -- so the tree belongs to the area
    pub tree_in : IsTree (IsLink s a) s.router (IsVertex a (Router s.router)) (get t.tree.distances) (hops_of t.tree.hops)
    tree_in =
        tree_same s.router links_in root_in (get t.tree.distances) (hops_of t.tree.hops)
        (subst (λ (r : ℕ). IsTree (LinksOf t.area.graph) r (HasRoot t.area.graph) (get t.tree.distances) (hops_of t.tree.hops)) is.root_is is.tree.tree)

    -- its distances and next hops belong to the area
    pub distance_in : (v : Vertex) (n : ℕ) → IsDistanceIn s a v n ↔ (get t.tree.distances v ≡ Some n)
    distance_in v n = (λ at. value_at tree_in.distances v n at, λ at. tree_in.distances.right v n at)

    pub hop_in : (v : Vertex) (h : NextHop) → IsHopIn s a v h ↔ Contains (listed_hops (get t.tree.hops v)) h
    hop_in v h = (
      λ is_hop.
          let w = (tree_in.right v h).1 is_hop in
          subst (λ (o : Option (List NextHop)). Contains (listed_hops o) h) (sym w.1) w.2,
      λ c. (tree_in.right v h).0 (listed_from (get t.tree.hops v) refl c),
    )
      where
        listed_from : (o : Option (List NextHop)) → get t.tree.hops v ≡ o → Contains (listed_hops o) h → hops_of t.tree.hops v h
        listed_from None none c = absurd (no_element h c)
        listed_from (Some hops) here c = (hops, here, c)
