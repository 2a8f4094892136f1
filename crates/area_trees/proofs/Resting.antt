-- Where no LSA is used otherwise, the graph and the tree of an area are right as they are, and that
-- is no work.
use Rattle.std.proofs.Common.{◌≡◌, ◌≢◌, ℕ, List, [], ◌∷◌, length, Option, Some, None, inl, inr, refl, sym, subst, ◌∙◌, arith}
use Rattle.std.specs.Prelude.{Contains, IsSome}
use Rattle.std.specs.List.{AllPairs}
use Rattle.std.specs.List.Sorted.{IsStrictlySortedBy}
use Rattle.ospf_types.specs.Lsa.{Body}
use Rattle.ospf_types.specs.Vertices.{vertex_cmp}
use Rattle.ospf_types.specs.declared.entry.Vertex.{Vertex}
use Rattle.ospf_types.specs.declared.entry.Vertex.TheVariants.{Router, Network}
use Rattle.ospf_types.specs.declared.key.Key.{Key}
use Rattle.ospf_types.proofs.Elements.{no_element, first_element}
use Rattle.lsdb.specs.Databases.{Database}
use Rattle.vertex_graph.specs.Graphs.{GraphValue, AreExact}
use Rattle.vertex_graph.specs.GraphLink.{GraphLink}
use Rattle.vertex_graph.specs.Up.{Up}
use Rattle.spf.specs.TreeValues.{TreeValue, IsBounded, IsWorkDone, AreChanged}
use Rattle.area_trees.specs.Areas.{AreaGraphValue, AreaTreeValue, DifferAmong, IsAreaTree, IsGraphOf, IsStanding, body_at, network_key, router_key}

-- the tree as it is, of which nothing changed
abbrev pub rested : TreeValue → TreeValue
rested t = record { distances = t.distances; hops = t.hops; changed = []; spent = t.spent }

module _ (before after : Database) (none : DifferAmong before after []) where
  same : (key : Key) → body_at after key ≡ body_at before key
  same key = none key (no_element key)

  standing_rests : (v : Vertex) (body : Option Body) → IsStanding before v body → IsStanding after v body
  standing_rests (Router r) body is = is ∙ sym (same (router_key r))
  standing_rests (Network n) body (inl w) =
      inl (w.0, (subst IsSome (sym (same (network_key n w.0))) w.1.0, λ other used. w.1.1 other (subst IsSome (same (network_key n other)) used)), w.2 ∙ sym (same (network_key n w.0)))
  standing_rests (Network n) body (inr w) = inr (λ r used. w.0 r (subst IsSome (same (network_key n r)) used), w.1)

  pub graph_rests : (v : AreaGraphValue) → IsGraphOf before v → IsGraphOf after v
  graph_rests v is = record {
    networks = λ id router. (
      λ c. subst IsSome (sym (same (network_key id router))) ((is.networks id router).0 c),
      λ used. (is.networks id router).1 (subst IsSome (same (network_key id router)) used),
    );
    leads = λ w. let at = is.leads w in (at.0, standing_rests w at.0 at.1, at.2);
  }

pub rests : {before : Database} {ups : List Up} (after : Database) (root : ℕ) (v : AreaTreeValue) → IsGraphOf after v.area → IsAreaTree root before ups v
    → IsAreaTree root after ups (record { area = v.area; tree = rested v.tree; spent = v.spent })
rests after root v graph is = record {
  graph = graph;
  root_is = is.root_is;
  interfaces = is.interfaces;
  tree = record { fresh = is.tree.fresh; tree = is.tree.tree };
  fresh = is.fresh;
}

-- a list in which nothing is
none_left : {X : Type 0} (xs : List X) → ((x : X) → Contains xs x → ⊥) → length xs ≡ 0
none_left [] none = refl
none_left (x ∷ xs) none = absurd (none x (first_element x xs))

no_pairs : {X : Type 0} (R : X → X → Type 0) → AllPairs R []
no_pairs R i j d lt within = absurd (omega arith)

pub same_graph : (g : GraphValue) → AreExact g g [] []
same_graph g = record {
  went = λ l. (λ c. absurd (no_element l c), λ h. absurd (h.1 h.0));
  came = λ l. (λ c. absurd (no_element l c), λ h. absurd (h.1 h.0));
  went_once = no_pairs (λ (k l : GraphLink). k ≢ l);
  came_once = no_pairs (λ (k l : GraphLink). k ≢ l);
}

pub no_bounds : (g : GraphValue) (t : TreeValue) → IsBounded g [] [] t 0 0
no_bounds g t = record {
  taken_most = λ first second heads first_out second_out owed. omega arith;
  sets_most = λ first second heads first_out second_out owed. omega arith;
}

none_sorted : IsStrictlySortedBy vertex_cmp []
unfolding IsStrictlySortedBy
none_sorted = tt

pub none_changed : (t : TreeValue) → AreChanged t (rested t) []
none_changed t = record {
  in_order = none_sorted;
  exact = λ v. (λ c. absurd (no_element v c), λ differs. absurd (differs (refl, λ h. (λ x. x, λ x. x))));
}

pub no_work : (g : GraphValue) (t : TreeValue) → IsWorkDone g t (rested t) 0 0
no_work g t = record {
  taken_least = λ moved differing apart others moves differs.
      let first = none_left moved (λ v c. (moves v c).1 refl) in
      let second = none_left differing (λ v c. (differs v c).1 (refl, λ h. (λ x. x, λ x. x))) in
      omega (arith, first, second);
  taken_twice_most = λ reached all. omega arith;
  written = [];
  written_apart = no_pairs (λ (v w : Vertex). v ≢ w);
  written_exact = λ v. (
    λ c. absurd (no_element v c),
    λ w. elim w [
      | inl other ↦ absurd (other (λ h. (λ x. x, λ x. x)))
      | inr gone ↦ let wrong : Some gone.0.0.0 ≡ None = sym gone.0.0.1 ∙ gone.1 in absurd cc
    ],
  );
  sets_are = refl;
}
