-- What callers of a tree use: it is right before the changes that the graph names, and its building
-- is work for each vertex that is reached.
use Rattle.std.proofs.Common.{◌≡◌, ◌≢◌, ℕ, List, Some, None, sym, subst, ◌∙◌, inl, inr, arith}
use Rattle.std.specs.Prelude.{◌↔◌}
use Rattle.std.specs.FinMap.{get}
use Rattle.std.specs.List.{Contains}
use Rattle.ospf_types.specs.declared.entry.Vertex.{Vertex}
use Rattle.ospf_types.specs.declared.entry.Vertex.TheVariants.{Router}
use Rattle.ospf_types.specs.declared.hop.NextHop.{NextHop}
use Rattle.ospf_types.specs.Distances.{IsHop}
use Rattle.vertex_graph.specs.GraphLink.{GraphLink}
use Rattle.vertex_graph.specs.Graphs.{GraphValue, graph_view, LinksOf, HasRoot, AreExact}
use Rattle.vertex_queue.proofs.Elements.{cases_vertex}
use Rattle.spf.specs.Changes.{link_value, SameLinks, AreDecided}
use Rattle.spf.specs.Parts.{HadRoot, LinksBefore, hops_of}
use Rattle.spf.specs.Trees.{AreLinks, HaveAddresses, IsTree}
use Rattle.spf.specs.TreeValues.{TreeValue, IsTreeOf, IsTreeBefore, IsReachedIn, HasOtherHops, IsWorkDone, IsWorkForAll, blank_value}
use Rattle.spf.proofs.AreaLinks.{area_addresses}
use Rattle.spf.proofs.Before.{earlier_is}
use Rattle.spf.proofs.Blank.{unset, hopless}
use Rattle.spf.proofs.Hops.{has_hop, no_hop_of_root}
use Rattle.spf.proofs.OptionCases.{cases_value}
use Rattle.spf.proofs.CarriedOut.{graph_links}
use Rattle.spf.proofs.SameLinks.{same_back, tree_same, links_same}
use Rattle.spf.proofs.Values.{root_zero, root_has, within_path}

module _ {before after : GraphValue} {gone come : List GraphLink} (decided_before : AreDecided (LinksOf before)) (decided_after : AreDecided (LinksOf after)) (exact : AreExact before after gone come) where
  -- the links before belong to the graph before
  links_before : SameLinks (LinksOf before) (LinksBefore after gone come)
  links_before = same_back (earlier_is (LinksOf after) gone come (LinksOf before) decided_before decided_after (record {
    went = λ from to cost label. exact.went (link_value from to cost label);
    came = λ from to cost label. exact.came (link_value from to cost label);
  }))

  -- The tree of a graph is right before the changes that the graph names.
  pub right_before : {t : TreeValue} → before.root ≡ after.root → IsTreeOf before t → IsTreeBefore after gone come t
  right_before {t} same_root is = record {
    fresh = is.fresh;
    links = links_same after.root links_before root_too (subst (λ (r : ℕ). AreLinks (LinksOf before) r (HasRoot before)) same_root (graph_links before));
    tree = tree_same after.root links_before root_too (get t.distances) (hops_of t.hops) tree;
    came = λ l c. ((exact.came l).0 c).0;
  }
    where
      tree : IsTree (LinksOf before) after.root (HasRoot before) (get t.distances) (hops_of t.hops)
      tree = subst (λ (r : ℕ). IsTree (LinksOf before) r (HasRoot before) (get t.distances) (hops_of t.hops)) same_root is.tree

      root_too : HasRoot before ↔ HadRoot after.root (get t.distances)
      root_too = (λ has. root_zero tree.distances has, λ at. root_has tree.distances (Router after.root) 0 at)

-- each link out of a network of a graph has an address, since a router has one list of links
pub graph_addresses : (g : GraphValue) → HaveAddresses (LinksOf g)
graph_addresses g = area_addresses (graph_view g) (λ router flags other xs ys x y.
    let same : Some x.0 ≡ Some y.0 = sym x.1 ∙ y.1 in
    cc)

module _ {g : GraphValue} {t : TreeValue} (is : IsTreeOf g t) where
  -- each reached vertex but the root has a next hop
  pub hop_of : (v : Vertex) → IsReachedIn g t v → (h : NextHop) × hops_of t.hops v h
  hop_of v reached =
      let hop = has_hop (graph_links g) (get t.distances) (graph_addresses g) is.tree.distances v reached.0.0 reached.0.1 reached.1 in
      (hop.0, (is.tree.right v hop.0).1 hop.1)

  -- and what has one is reached, and not the root
  reached_of_hop : (v : Vertex) (h : NextHop) → hops_of t.hops v h → IsReachedIn g t v
  reached_of_hop v h x =
      let hop = (is.tree.right v h).0 x in
      let within = within_path is.tree.distances v hop.path.0 hop.path.1 in (
        (within.number, within.is),
        λ same. no_hop_of_root (LinksOf g) g.root (HasRoot g) h (subst (λ w. IsHop (LinksOf g) g.root (HasRoot g) w h) same hop),
      )

  -- A vertex with next hops is reached.
  reached_of_other : (v : Vertex) → HasOtherHops blank_value t v → IsReachedIn g t v
  reached_of_other v other = elim (cases_vertex v (Router g.root)) [
    | inl is_root ↦ absurd (other (λ h. (λ x. absurd ((reached_of_hop v h x).1 is_root), λ x. absurd (hopless v h x))))
    | inr not_root ↦ elim (cases_value (get t.distances v)) [
      | inl at ↦ (at, not_root)
      | inr none ↦ absurd (other (λ h. (
        λ x. let at = (reached_of_hop v h x).0 in let differ : Some at.0 ≡ None = sym at.1 ∙ none in absurd cc,
        λ x. absurd (hopless v h x),
      )))
    ]
  ]

  module _ {taken hop_sets : ℕ} (work : IsWorkDone g blank_value t taken hop_sets) where
    -- a blank tree has no distances
    farther : (v : Vertex) → IsReachedIn g t v → get t.distances v ≢ get blank_value.distances v
    farther v reached same = unset v reached.0.0 (sym same ∙ reached.0.1)

    -- and no next hops
    other_hops : (v : Vertex) → IsReachedIn g t v → HasOtherHops blank_value t v
    other_hops v reached same = let hop = hop_of v reached in hopless v hop.0 ((same hop.0).0 hop.1)

    -- So just what is reached is written.
    built : (v : Vertex) → Contains work.written v ↔ IsReachedIn g t v
    built v = (
      λ c. elim ((work.written_exact v).0 c) [ inl other ↦ reached_of_other v other | inr away ↦ absurd (unset v away.0.0.0 away.0.0.1) ],
      λ reached. (work.written_exact v).1 (inl (other_hops v reached)),
    )

    -- And building a tree takes each reached vertex but the root twice, and writes next hops for
    -- each.
    pub built_work : IsWorkForAll g t taken hop_sets
    built_work =
        let least = work.taken_least work.written work.written work.written_apart work.written_apart (λ v c. let r = (built v).0 c in (r, farther v r)) (λ v c. let r = (built v).0 c in (r, λ same. farther v r same.0)) in
        let most = work.taken_twice_most work.written (λ v r. (built v).1 r) in
        record {
          reached = work.written;
          reached_apart = work.written_apart;
          reached_exact = built;
          taken_are = omega (arith, least, most);
          sets_are = work.sets_are;
        }
