-- Where a vertex leads by its LSA, link by link.
use Rattle.std.proofs.Common.{◌≡◌, ℕ, List, Option, Some, None, refl, sym, ap, subst, ◌∙◌}
use Rattle.std.specs.List.{Contains}
use Rattle.ospf_types.specs.declared.entry.Vertex.{Vertex}
use Rattle.ospf_types.specs.declared.entry.Vertex.TheVariants.{Router, Network}
use Rattle.ospf_types.specs.declared.lsa.LinkKind.{LinkKind}
use Rattle.ospf_types.specs.declared.lsa.LinkKind.TheVariants.{PointToPoint, Transit, Stub, Virtual}
use Rattle.ospf_types.specs.Links.{AreAddressesOn}
use Rattle.ospf_types.specs.Lsa.{Body, RouterLink, RouterLinks, NetworkLinks}
use Rattle.vertex_graph.specs.LinkEnd.{LinkEnd}
use Rattle.vertex_graph.specs.EndOrder.{listed_end}
use Rattle.vertex_graph.specs.Ends.{end_by, end_of, AreEnds}
use Rattle.vertex_graph.specs.Graphs.{number_of}
use Rattle.vertex_graph.specs.Pairs.{Names, AreDetailsTo}
use Rattle.area_trees.specs.Areas.{LeadsByBody}

-- ---- a body leads somewhere, and no body nowhere

pub leads_some : (v : Vertex) (b : Body) (o : Option (List LinkEnd)) → LeadsByBody v (Some b) o → (ends : List LinkEnd) × (o ≡ Some ends) × AreEnds v b ends
leads_some v b (Some ends) leads = (ends, refl, leads)
leads_some v b None leads = absurd leads

pub some_leads : (v : Vertex) (o : Option Body) (ends : List LinkEnd) → LeadsByBody v o (Some ends) → (b : Body) × (o ≡ Some b) × AreEnds v b ends
some_leads v (Some b) ends leads = (b, refl, leads)
some_leads v None ends leads = absurd cc

-- ---- links that lead to a vertex

-- the kind of a router's links to the vertex
abbrev pub kind_to : Vertex → LinkKind
kind_to (Router r) = PointToPoint
kind_to (Network n) = Transit

abbrev pub end_at : Vertex → ℕ → ℕ → LinkEnd
end_at t detail metric = record { to = t; detail = detail; metric = metric }

-- the link leads to the vertex
abbrev pub IsTo : Vertex → RouterLink → Type 0
IsTo t l = (l.kind ≡ kind_to t) × (l.id ≡ number_of t)

end_of_to : (t : Vertex) (l : RouterLink) → IsTo t l → end_of l ≡ Some (end_at t l.detail l.metric)
end_of_to (Router r) l to = ap (λ (k : LinkKind). end_by k l) to.0 ∙ ap (λ (n : ℕ). Some (end_at (Router n) l.detail l.metric)) to.1
end_of_to (Network n) l to = ap (λ (k : LinkKind). end_by k l) to.0 ∙ ap (λ (n : ℕ). Some (end_at (Network n) l.detail l.metric)) to.1

-- the link has this end
abbrev HasEnd : RouterLink → LinkEnd → Type 0
HasEnd l e = IsTo e.to l × (l.detail ≡ e.detail) × (l.metric ≡ e.metric)

same_end : (x y : LinkEnd) → Some x ≡ Some y → x ≡ y
same_end x y e = cc

to_of_kind : (k : LinkKind) (l : RouterLink) (e : LinkEnd) → l.kind ≡ k → end_by k l ≡ Some e → HasEnd l e
to_of_kind PointToPoint l e kind is =
    subst (HasEnd l) (same_end (end_at (Router l.id) l.detail l.metric) e is) ((kind, refl), refl, refl)
to_of_kind Transit l e kind is =
    subst (HasEnd l) (same_end (end_at (Network l.id) l.detail l.metric) e is) ((kind, refl), refl, refl)
to_of_kind Stub l e kind is = absurd cc
to_of_kind Virtual l e kind is = absurd cc

module _ {r flags : ℕ} {links : List RouterLink} {ends : List LinkEnd} (are : AreEnds (Router r) (RouterLinks flags links) ends) where
  -- an end stands for each link to a vertex
  pub end_there : (t : Vertex) (l : RouterLink) → Contains links l → IsTo t l → Contains ends (end_at t l.detail l.metric)
  end_there t l c to = (are.exact (end_at t l.detail l.metric)).1 (l, c, end_of_to t l to)

  pub named_there : (t : Vertex) (l : RouterLink) → Contains links l → IsTo t l → Names ends t
  named_there t l c to = (end_at t l.detail l.metric, end_there t l c to, refl)

  -- and each end stands for one
  pub link_there : (e : LinkEnd) → Contains ends e → (l : RouterLink) × Contains links l × IsTo e.to l × (l.detail ≡ e.detail) × (l.metric ≡ e.metric)
  link_there e c =
      let w = (are.exact e).0 c in
      let has = to_of_kind w.0.kind w.0 e refl w.2 in
      (w.0, w.1, has.0, has.1, has.2)

  pub link_named : (t : Vertex) → Names ends t → (l : RouterLink) × Contains links l × IsTo t l
  link_named t named =
      let w = link_there named.0 named.1 in
      (w.0, w.1, subst (λ (v : Vertex). IsTo v w.0) named.2 w.2)

  -- the addresses on a network are the Link Data of the ends there
  pub details_there : (n : ℕ) (addresses : List ℕ) → AreAddressesOn n links addresses → AreDetailsTo (Network n) ends addresses
  details_there n addresses on = record {
    ascending = on.ascending;
    same = λ address. (
      λ c. let w = (on.same address).0 c in (end_at (Network n) w.0.detail w.0.metric, end_there (Network n) w.0 w.1 (w.2, w.3), refl, w.4),
      λ end.
          let w = link_there end.0 end.1 in
          let to = subst (λ (v : Vertex). IsTo v w.0) end.2 w.2 in
          (on.same address).1 (w.0, w.1, to.0, to.1, w.3 ∙ end.3),
    );
  }

  pub addresses_there : (n : ℕ) (addresses : List ℕ) → AreDetailsTo (Network n) ends addresses → AreAddressesOn n links addresses
  addresses_there n addresses are_to = record {
    ascending = are_to.ascending;
    same = λ address. (
      λ c.
          let end = (are_to.same address).0 c in
          let w = link_there end.0 end.1 in
          let to = subst (λ (v : Vertex). IsTo v w.0) end.2 w.2 in
          (w.0, w.1, to.0, to.1, w.3 ∙ end.3),
      λ w. (are_to.same address).1 (end_at (Network n) w.0.detail w.0.metric, end_there (Network n) w.0 w.1 (w.2, w.3), refl, w.4),
    );
  }

module _ {n mask : ℕ} {routers : List ℕ} {ends : List LinkEnd} (are : AreEnds (Network n) (NetworkLinks mask routers) ends) where
  pub router_there : (router : ℕ) → Contains routers router → Names ends (Router router)
  router_there router c = (listed_end router, (are.exact (listed_end router)).1 (router, c, refl), refl)

  pub router_named : (router : ℕ) → Names ends (Router router) → Contains routers router
  router_named router named =
      let w = (are.exact named.0).0 named.1 in
      let number : w.0 ≡ router = ap number_of (ap (λ (e : LinkEnd). e.to) (sym w.2) ∙ named.2) in
      subst (Contains routers) number w.1
