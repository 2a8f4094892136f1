-- The graph of an area follows its database: what is not named keeps what represents it, and what
-- is named is given.
use Rattle.std.proofs.Common.{◌≡◌, ◌≢◌, ℕ, ◌<◌, ◌≤◌, true, List, [], ◌∷◌, length, map, get_or, Option, Some, None, refl, sym, ap, subst, ◌∙◌, inl, inr, ⊎_elim, is_some, arith}
use Rattle.std.specs.Prelude.{◌↔◌, Contains, IsSome, option_map, option_and_then}
use Rattle.std.specs.FinMap.{get, empty, get-empty, keys, len, entries, len-entries, contains_key-keys}
use Rattle.std.specs.List.{AllPairs}
use Rattle.std.specs.List.Sorted.{IsStrictlySortedBy}
use Rattle.std.proofs.lemmas.List.{length-map, get_or-map}
use Rattle.std.proofs.lemmas.Map.Entries.{length-keys_of}
use Rattle.std.proofs.lemmas.Map.Keys.{IsDistinct-from_sorted}
use Rattle.std.proofs.lemmas.Map.Made.{AllPairs-from_IsDistinct}
use Rattle.std.proofs.lemmas.Map.Views.{tells_apart, Contains-from_any}
use Rattle.lsdb.specs.Contents.{contents_of, IsOrder}
use Rattle.lsdb.specs.Databases.{Database, DatabaseValue}
use Rattle.ospf_types.specs.declared.entry.Vertex.{Vertex}
use Rattle.ospf_types.specs.declared.entry.Vertex.TheVariants.{Router, Network}
use Rattle.ospf_types.specs.declared.key.Key.{Key}
use Rattle.ospf_types.specs.Keys.{key_cmp}
use Rattle.ospf_types.specs.Lsa.{Body, Lsa}
use Rattle.ospf_types.specs.Vertices.{vertex_cmp}
use Rattle.ospf_types.proofs.Elements.{no_element, first_element, later_element, first_or_later, mapped_from}
use Rattle.ospf_types.proofs.Orders.{key_exact}
use Rattle.spf.specs.VertexSet.{HasNoDoubles}
use Rattle.spf.proofs.Counting.{no_longer}
use Rattle.spf.proofs.Elements.{cases_contains}
use Rattle.vertex_graph.specs.LinkEnd.{LinkEnd}
use Rattle.vertex_graph.specs.Graphs.{GraphValue, Handed, AreApartHanded, AreFewAfter, IsThereAfter, IsReplaced}
use Rattle.vertex_graph.proofs.VertexTests.{is_vertex, vertex_laws, vertex_same}
use Rattle.area_trees.specs.Areas.{AreNetworksOf, AreStanding, AreaGraphValue, DifferAmong, IsGraphOf, IsStanding, IsUsed, LeadsByBody, body_at, network_key, router_key, vertex_of}

-- ---- the graph of no LSAs

-- the body of an LSA that is used
abbrev pub body_of : Option Lsa → Option Body
body_of o = option_map (λ (used : ℕ × Body). used.1) (option_and_then contents_of o)

body_empty : (key : Key) → body_at empty key ≡ None
body_empty key = ap body_of (get-empty key_cmp key)

unused_empty : (key : Key) → IsUsed empty key → ⊥
unused_empty key used = let some : IsSome (body_at empty key) = used in let none : is_some {T = Body} None ≡ true = subst (λ (o : Option Body). IsSome o) (body_empty key) some in cc

empty_stands : (v : Vertex) → IsStanding empty v None
empty_stands (Router router) = sym (body_empty (router_key router))
empty_stands (Network id) = inr (λ router. unused_empty (network_key id router), refl)

pub graph_of_none : (v : AreaGraphValue) → v.graph.ends ≡ empty → ((id router : ℕ) → Contains v.networks (id, router) → ⊥) → IsGraphOf empty v
graph_of_none v no_ends none = record {
  networks = λ id router. (λ c. absurd (none id router c), λ used. absurd (unused_empty (network_key id router) used));
  leads = λ w. (None, empty_stands w, ap (λ ends. get ends w) no_ends ∙ get-empty vertex_cmp w);
}

-- what the graph leads to is all that it says of a database
pub graph_same : (d : Database) (v w : AreaGraphValue) → w.graph.ends ≡ v.graph.ends → w.networks ≡ v.networks → IsGraphOf d v → IsGraphOf d w
graph_same d v w ends networks is = record {
  networks = subst (AreNetworksOf d) (sym networks) is.networks;
  leads = λ u. let l = is.leads u in (l.0, l.1, subst (LeadsByBody u l.0) (ap (λ es. get es u) (sym ends)) l.2);
}

-- ---- what is given for each vertex

pub standing_of : (d : Database) (vs : List Vertex) (hs : List Handed) → AreStanding d vs hs → (v : Vertex) → Contains vs v → (body : Option Body) × Contains hs (v, body) × IsStanding d v body
standing_of d [] hs all v c = absurd (no_element v c)
standing_of d (w ∷ vs) [] all v c = absurd all
standing_of d (w ∷ vs) (h ∷ hs) all v c =
    ⊎_elim
    (λ (same : v ≡ w).
    let named : h ≡ (v, h.1) = λ i. ((all.0 ∙ sym same) i, h.1) in
    (h.1, subst (λ (g : Handed). Contains (h ∷ hs) g) named (first_element h hs), subst (λ (u : Vertex). IsStanding d u h.1) (sym same) all.1))
    (λ (later : Contains vs v). let r = standing_of d vs hs all.2 v later in (r.0, later_element h (v, r.0) hs r.1, r.2))
    (first_or_later w v vs c)

pub handed_stands : (d : Database) (vs : List Vertex) (hs : List Handed) → AreStanding d vs hs → (v : Vertex) (body : Option Body) → Contains hs (v, body) → Contains vs v × IsStanding d v body
handed_stands d vs [] all v body c = absurd (no_element (v, body) c)
handed_stands d [] (h ∷ hs) all v body c = absurd all
handed_stands d (w ∷ vs) (h ∷ hs) all v body c =
    ⊎_elim
    (λ (same : (v, body) ≡ h).
    let vertex : w ≡ v = sym all.0 ∙ ap (λ (g : Handed). g.0) (sym same) in
    (subst (λ (u : Vertex). Contains (w ∷ vs) u) vertex (first_element w vs), subst (λ (g : Vertex × Option Body). IsStanding d g.0 g.1) (λ i. (vertex i, (sym same i).1)) all.1))
    (λ (later : Contains hs (v, body)). let r = handed_stands d vs hs all.2 v body later in (later_element w v vs r.0, r.1))
    (first_or_later h (v, body) hs c)

names_are : (d : Database) (vs : List Vertex) (hs : List Handed) → AreStanding d vs hs → map (λ (h : Handed). h.0) hs ≡ vs
names_are d [] [] all = refl
names_are d [] (h ∷ hs) all = absurd all
names_are d (v ∷ vs) [] all = absurd all
names_are d (v ∷ vs) (h ∷ hs) all = λ i. all.0 i ∷ names_are d vs hs all.2 i

-- no vertex is given twice
pub apart_handed : (d : Database) (vs : List Vertex) (hs : List Handed) → IsStrictlySortedBy vertex_cmp vs → AreStanding d vs hs → AreApartHanded hs
apart_handed d vs hs sorted all = λ i j first less within same.
    let first_of : Handed → Vertex = λ h. h.0 in
    let names : map first_of hs ≡ vs = names_are d vs hs all in
    let apart : AllPairs (λ v w. v ≢ w) vs = AllPairs-from_IsDistinct (λ v w. (vertex_same v w, λ e. subst (λ u. is_vertex v u ≡ true) e (vertex_laws.refl v))) vs (IsDistinct-from_sorted vertex_cmp vs sorted) in
    let long : length vs ≡ length hs = ap length (sym names) ∙ length-map hs first_of in
    let at : (k : ℕ) → k < length hs → get_or vs k first.0 ≡ (get_or hs k first).0 = λ k lt. ap (λ us. get_or us k first.0) (sym names) ∙ get_or-map first_of hs k first first.0 lt in
    apart i j first.0 less (omega (arith, within, long)) (at i (omega (arith, less, within)) ∙ same ∙ sym (at j within))

-- ---- keys of a database

-- a key with an LSA is a key of the database
key_there : (d : Database) (key : Key) → IsSome (get d key) → Contains (keys d) key
key_there d key there = Contains-from_any (tells_apart key_exact) key (keys d) (sym (contains_key-keys d key) ∙ there)

-- an LSA that is used is there
used_there : (d : Database) (key : Key) → IsUsed d key → IsSome (get d key)
used_there d key used = elim (get d key) as (λ o. IsSome (body_of o) → IsSome o) [ None ↦ λ h. absurd cc | Some l ↦ λ h. refl ] used

-- a database differs from none only in its own keys
pub differ_from_none : (d : DatabaseValue) → IsOrder d → DifferAmong empty d.lsas d.order
differ_from_none d order key apart =
    let none : get d.lsas key ≡ None = elim (get d.lsas key) as (λ o. get d.lsas key ≡ o → o ≡ None) [
      | None ↦ λ at. refl
      | Some l ↦ λ at. absurd (apart ((order.there key).1 (subst (λ (o : Option Lsa). IsSome o) (sym at) refl)))
    ] refl in
    ap body_of (none ∙ sym (get-empty key_cmp key))

-- different routers have different keys
keys_apart : (routers : List ℕ) → HasNoDoubles routers → HasNoDoubles (map router_key routers)
keys_apart routers apart = λ i j d less within same.
    let j_in : j < length routers = omega (arith, within, length-map routers router_key) in
    let i_in : i < length routers = omega (arith, less, j_in) in
    let equal : router_key (get_or routers i 0) ≡ router_key (get_or routers j 0) = sym (get_or-map router_key routers i 0 d i_in) ∙ same ∙ get_or-map router_key routers j 0 d j_in in
    apart i j 0 less j_in (ap (λ (k : Key). k.router) equal)

-- ---- from one database to the next

module _ (before after : Database) (changed : List Key) (differ : DifferAmong before after changed) where
  -- a vertex that no key names keeps the LSA that represented it
  stands_still : (v : Vertex) → ((k : Key) → Contains changed k → vertex_of k ≡ Some v → ⊥) → (body : Option Body) → IsStanding before v body → IsStanding after v body
  stands_still (Router router) unnamed body is = is ∙ sym (differ (router_key router) (λ c. unnamed (router_key router) c refl))
  stands_still (Network id) unnamed body is =
      let same : (router : ℕ) → body_at after (network_key id router) ≡ body_at before (network_key id router) = λ router. differ (network_key id router) (λ c. unnamed (network_key id router) c refl) in
      let used : (router : ℕ) → IsUsed after (network_key id router) → IsUsed before (network_key id router) = λ router. subst (λ (o : Option Body). IsSome o) (same router) in
      elim is [
        | inl h ↦ inl (h.0, (subst (λ (o : Option Body). IsSome o) (sym (same h.0)) h.1.0, λ other is_used. h.1.1 other (used other is_used)), h.2 ∙ sym (same h.0))
        | inr h ↦ inr (λ router is_used. h.0 router (used router is_used), h.1)
      ]

  module _ (vs : List Vertex) (exact : (v : Vertex) → Contains vs v ↔ ((k : Key) × Contains changed k × (vertex_of k ≡ Some v))) (hs : List Handed) (all : AreStanding after vs hs) (old : AreaGraphValue) (is : IsGraphOf before old) where
    module _ (new : GraphValue) (replaced : IsReplaced old.graph new hs) where
      leads_handed : (w : Vertex) (body : Option Body) → Contains hs (w, body) → LeadsByBody w body (get new.ends w)
      leads_handed w None c = replaced.away w c
      leads_handed w (Some body) c = let there = replaced.there w body c in subst (LeadsByBody w (Some body)) (sym there.1) there.2

      -- the graph belongs to the database after
      pub graph_after : (networks : List (ℕ × ℕ)) → AreNetworksOf after networks → IsGraphOf after (record { graph = new; networks = networks })
      graph_after networks are = record {
        networks = are;
        leads = λ w. elim (cases_contains vs w) [
          | inl named ↦ let s = standing_of after vs hs all w named in (s.0, s.2, leads_handed w s.0 s.1)
          | inr unnamed ↦
              let was = is.leads w in (
                was.0,
                stands_still w (λ k c names. unnamed ((exact w).1 (k, c, names))) was.0 was.1,
                subst (LeadsByBody w was.0) (sym (replaced.others w (λ given c. unnamed (handed_stands after vs hs all w given c).0))) was.2,
              )
        ];
      }

    -- ---- routers are few, since each has an LSA

    some_leads : (w : Vertex) (body : Option Body) (ends : Option (List LinkEnd)) → LeadsByBody w body ends → IsSome ends → IsSome body
    some_leads w (Some body) ends leads some = refl
    some_leads w None ends leads some = let gone : is_some {T = List LinkEnd} None ≡ true = subst (λ (o : Option (List LinkEnd)). IsSome o) leads some in absurd cc

    used_after : (router : ℕ) → IsThereAfter old.graph hs (Router router) → IsUsed after (router_key router)
    used_after router there =
        ⊎_elim
        (λ (h : (body : Body) × Contains hs (Router router, Some body)). subst (λ (o : Option Body). IsSome o) (handed_stands after vs hs all (Router router) (Some h.0) h.1).1 refl)
        (λ (h : ((given : Option Body) → Contains hs (Router router, given) → ⊥) × IsSome (get old.graph.ends (Router router))).
        let was = is.leads (Router router) in
        let some : IsSome was.0 = some_leads (Router router) was.0 (get old.graph.ends (Router router)) was.2 h.1 in
        let unnamed : Contains changed (router_key router) → ⊥ = λ c. let s = standing_of after vs hs all (Router router) ((exact (Router router)).1 (router_key router, c, refl)) in h.0 s.0 s.1 in
        subst (λ (o : Option Body). IsSome o) (was.1 ∙ sym (differ (router_key router) unnamed)) some)
        there

    pub few_after : (limit : ℕ) → len after ≤ limit → limit ≤ 16384 → AreFewAfter old.graph hs
    few_after limit within most = λ routers apart there.
        let fits : length (map router_key routers) ≤ length (keys after) = no_longer (map router_key routers) (keys after) (keys_apart routers apart) (λ k c.
        let at = mapped_from router_key routers k c in
        key_there after k (used_there after k (subst (IsUsed after) at.2 (used_after at.0 (there at.0 at.1))))) in
        omega (arith, fits, within, most, length-map routers router_key, length-keys_of (entries after), len-entries after)
