-- The tree of one area follows a state.
--   ups_kept: interfaces that stay leave those that are up
--   tree_by_keys, tree_by_interfaces: the tree belongs to the state after
--   keys_named: the LSAs of an area differ in no more than the keys of the area
use Rattle.std.proofs.Common.{◌≡◌, ℕ, true, List, [], ◌∷◌, length, refl, sym, ap, subst, ◌∙◌, inl, inr, arith}
use Rattle.std.specs.Prelude.{◌==◌, ◌↔◌, option_map}
use Rattle.std.specs.List.{Contains}
use Rattle.std.specs.FinMap.{entries}
use Rattle.std.proofs.lemmas.Bool.Decides.{eqb_tells}
use Rattle.ospf_types.specs.declared.config.Interface.{Interface}
use Rattle.ospf_types.specs.declared.key.Key.{Key}
use Rattle.ospf_types.specs.declared.key.Scope.{Scope}
use Rattle.ospf_types.specs.declared.key.Scope.TheVariants.{Area}
use Rattle.ospf_types.specs.Lsa.{Body}
use Rattle.ospf_types.proofs.Elements.{no_element}
use Rattle.ospf_types.proofs.RangeChanges.{router_kept as same_router}
use Rattle.vertex_graph.specs.Up.{Up}
use Rattle.area_trees.specs.Areas.{AreaTreeValue, IsAreaTree, DifferAmong, body_at}
use Rattle.event_state.specs.States.{State, database_of}
use Rattle.route_layers.specs.Trees.{lsas_in, AreUpsOf, IsTreeFor, StatesDifferAmong}
use Rattle.route_layers.proofs.Places.{body_used, interface_at, interface_from}
use Rattle.route_layers.proofs.Standing.{alike_tree}

-- a list of no length is empty
pub nothing : {X : Type 0} (xs : List X) → (length xs == 0) ≡ true → xs ≡ []
nothing [] e = refl
nothing (x ∷ xs) e = elim (eqb_tells (length (x ∷ xs)) 0) [ inl t ↦ absurd (omega (arith, t.1)) | inr t ↦ absurd (let f = t.0 in cc) ]

module _ (s t : State) (keys : List (Scope × Key)) (ids : List ℕ) (differ : StatesDifferAmong keys ids true s t) where
  pub router_kept : t.config.router ≡ s.config.router
  router_kept = same_router t.config s.config differ.areas

  -- the LSAs of a scope differ in no more than is named
  pub bodies_differ : (at : Scope) (key : Key) → (Contains keys (at, key) → ⊥) → body_at (lsas_in (database_of t at)) key ≡ body_at (lsas_in (database_of s at)) key
  bodies_differ at key not = body_used t at key ∙ ap (option_map (λ (used : ℕ × Body). used.1)) (differ.usable at key not) ∙ sym (body_used s at key)

  pub keys_named : (area : ℕ) (named : List Key) → ((key : Key) → Contains named key ↔ Contains keys (Area area, key)) → DifferAmong (lsas_in (database_of s (Area area))) (lsas_in (database_of t (Area area))) named
  keys_named area named are key not = bodies_differ (Area area) key (λ c. not ((are key).1 c))

  -- interfaces that are not named stay
  pub interface_kept : (id : ℕ) (i : Interface) → (Contains ids id → ⊥) → Contains (entries t.interfaces) (id, i) ↔ Contains (entries s.interfaces) (id, i)
  interface_kept id i not = (
    λ c. interface_at s.interfaces id i (sym (differ.interfaces id not) ∙ interface_from t.interfaces id i c),
    λ c. interface_at t.interfaces id i (differ.interfaces id not ∙ interface_from s.interfaces id i c),
  )

  not_among : {X : Type 0} (xs : List X) → xs ≡ [] → (x : X) → Contains xs x → ⊥
  not_among xs none x c = no_element x (subst (λ ys. Contains ys x) none c)

  ups_kept : ids ≡ [] → (area : ℕ) (ups : List Up) → AreUpsOf s area ups → AreUpsOf t area ups
  ups_kept none area ups are u = (
    λ c. let w = (are u).0 c in (w.0, (interface_kept u.id w.0 (not_among ids none u.id)).1 w.1, w.2, w.3, w.4),
    λ w. (are u).1 (w.0, (interface_kept u.id w.0 (not_among ids none u.id)).0 w.1, w.2, w.3, w.4),
  )

  -- the tree of the LSAs after, and of the interfaces before, belongs to the state after, where no
  -- interfaces are named
  pub tree_by_keys : ids ≡ [] → (area : ℕ) (ups : List Up) (x : AreaTreeValue) → AreUpsOf s area ups → IsAreaTree s.config.router (lsas_in (database_of t (Area area))) ups x → IsTreeFor t area x
  tree_by_keys none area ups x are is = (ups, ups_kept none area ups are, subst (λ (r : ℕ). IsAreaTree r (lsas_in (database_of t (Area area))) ups x) (sym router_kept) is)

  -- and so belongs to the LSAs before, and of the interfaces after, where no LSAs are named
  pub tree_by_interfaces : keys ≡ [] → (area : ℕ) (ups : List Up) (x : AreaTreeValue) → AreUpsOf t area ups → IsAreaTree s.config.router (lsas_in (database_of s (Area area))) ups x → IsTreeFor t area x
  tree_by_interfaces none area ups x are is = (
    ups,
    are,
    subst (λ (r : ℕ). IsAreaTree r (lsas_in (database_of t (Area area))) ups x) (sym router_kept)
        (alike_tree (lsas_in (database_of s (Area area))) (lsas_in (database_of t (Area area))) (λ key. bodies_differ (Area area) key (not_among keys none (Area area, key))) s.config.router ups x is),
  )
