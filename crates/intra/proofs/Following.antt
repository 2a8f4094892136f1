-- How steps that follow named LSAs, vertices and routers go together, one after another.
use Rattle.std.proofs.Common.{◌≡◌, ◌≢◌, ℕ, Bool, true, false, nat_eq, List, [], ◌∷◌, ◌++◌, length, Option, Some, None, refl, sym, ap, subst, ◌∙◌, ◌⊎◌, inl, inr, arith}
use Rattle.std.specs.Prelude.{◌↔◌, is_some, if◌then◌else◌}
use Rattle.std.specs.FinMap.{get}
use Rattle.std.specs.List.{Contains}
use Rattle.std.proofs.lemmas.Bool.{cases_eq, eqb-true}
use Rattle.ospf_types.specs.declared.entry.Vertex.{Vertex}
use Rattle.ospf_types.specs.declared.entry.Vertex.TheVariants.{Router, Network}
use Rattle.ospf_types.specs.declared.key.Key.{Key}
use Rattle.ospf_types.specs.declared.key.Scope.{Scope}
use Rattle.ospf_types.specs.declared.key.Scope.TheVariants.{Area}
use Rattle.ospf_types.specs.declared.prefix.Prefix.{Prefix}
use Rattle.ospf_types.specs.Lsa.{Body}
use Rattle.lsdb.specs.Databases.{Database}
use Rattle.spf.specs.HandedOn.{IsOfSome}
use Rattle.area_trees.specs.Areas.{body_at, vertex_of, router_key, network_key, IsUsed, IsStanding}
use Rattle.ospf_types.specs.declared.hop.NextHop.{NextHop}
use Rattle.intra.specs.Inputs.{AreaValue, distance_at, hops_at}
use Rattle.intra.specs.ReachedRouter.{ReachedValue, is_abr_or_asbr, has_bits, reached_by}
use Rattle.intra.specs.Indexes.{IndexValue, IsIndex, IsAreaIndexOf, IsOfferedFor, ArePrefixesAffected}
use Rattle.intra.specs.Intras.{AreaIntraValue}
use Rattle.intra.specs.Following.{LsasDifferAmong, NamesVertex, NamesIn, IsVertexCurrent, IsIndexUpdated, HasOffered, IsIndexFollowed, AreRoutersUpdated, IsRouterNamed, flags_in, router_now, with_index_of}
use Rattle.ospf_types.proofs.VertexOrder.{vertex_total, vertex_exact}
use Rattle.route_choice.proofs.Adding.{more_one}
pub use Rattle.route_choice.proofs.KeyedMaps.{one_or_other}

-- ---- the index follows

-- nothing was to be followed
pub taken_none : (d : Database) (names : Vertex → Type 0) (a : AreaIntraValue) (ps : List Prefix) → IsIndex a.index → ((v : Vertex) → names v → ⊥) → IsIndexUpdated d names a a ps ps
taken_none d names a ps is none = record {
  id = refl;
  reached = refl;
  index = is;
  each = λ v. inr (refl, none v);
  touched = record { kept = λ p c. c; others = λ p c v metric. (λ s. s, λ s. s) };
}

-- one after the other
pub taken_then : (d : Database) (P Q R : Vertex → Type 0) (old mid new : AreaIntraValue) (before between after : List Prefix) → ((v : Vertex) → R v → P v ⊎ Q v)
    → IsIndexUpdated d P old mid before between → IsIndexUpdated d Q mid new between after → IsIndexUpdated d R old new before after
taken_then d P Q R old mid new before between after parts first second = record {
  id = second.id ∙ first.id;
  reached = second.reached ∙ first.reached;
  index = second.index;
  each = λ v. elim (second.each v) [
    | inl current ↦ inl current
    | inr other ↦ elim (first.each v) [
      | inl current ↦ inl (current.0, current.1, subst (IsOfferedFor v current.0) (sym other.0) current.2)
      | inr before ↦ inr (other.0 ∙ before.0, λ named. elim (parts v named) [ inl p ↦ before.1 p | inr q ↦ other.1 q ])
    ]
  ];
  touched = record {
    kept = λ p c. second.touched.kept p (first.touched.kept p c);
    others = λ p absent v metric.
        let late = second.touched.others p absent v metric in
        let early = first.touched.others p (λ c. absent (second.touched.kept p c)) v metric in
        (λ s. early.0 (late.0 s), λ s. late.1 (early.1 s));
  };
}

-- the index took what one vertex offers now
pub taken_one : (d : Database) (vertex : Vertex) (names : Vertex → Type 0) (old new : AreaIntraValue) (before after : List Prefix) → ((v : Vertex) → names v → v ≡ vertex)
    → new.id ≡ old.id → new.reached ≡ old.reached → IsIndex new.index → IsVertexCurrent d new.index vertex
    → ((w : Vertex) → w ≢ vertex → get new.index.offered w ≡ get old.index.offered w) → ArePrefixesAffected old.index new.index before after → IsIndexUpdated d names old new before after
taken_one d vertex names old new before after only id reached index current others touched = record {
  id = id;
  reached = reached;
  index = index;
  each = λ v. elim (one_or_other vertex_total vertex_exact vertex v) [
    | inl e ↦ inl (subst (IsVertexCurrent d new.index) (sym e) current)
    | inr other ↦ inr (others v other, λ named. other (only v named))
  ];
  touched = touched;
}

-- a key names one vertex
pub one_named : (area : ℕ) (named : Scope × Key) (v w : Vertex) → NamesVertex area named v → NamesVertex area named w → w ≡ v
one_named area named v w first second = let same : Some w ≡ Some v = sym second.1 ∙ first.1 in cc

module _ (before after : Database) (v : Vertex) (same : (key : Key) → vertex_of key ≡ Some v → body_at after key ≡ body_at before key) where
  -- what represents a vertex stays where no LSA that can stand for it is used otherwise
  pub standing_kept : (body : Option Body) → IsStanding before v body → IsStanding after v body
  standing_kept body stands = at v same body stands
    where
      at : (w : Vertex) → ((key : Key) → vertex_of key ≡ Some w → body_at after key ≡ body_at before key) → (o : Option Body) → IsStanding before w o → IsStanding after w o
      at (Router r) alike o is = is ∙ sym (alike (router_key r) refl)
      at (Network n) alike o is =
          let used : (router : ℕ) → IsUsed before (network_key n router) ≡ IsUsed after (network_key n router) =
          λ router. ap (λ (b : Option Body). is_some b ≡ true) (sym (alike (network_key n router) refl)) in
          elim is [
            | inl some ↦ inl (
              some.0,
              (subst (λ (T : Type 0). T) (used some.0) some.1.0, λ other u. some.1.1 other (subst (λ (T : Type 0). T) (sym (used other)) u)),
              some.2 ∙ sym (alike (network_key n some.0) refl),
            )
            | inr none ↦ inr (λ router u. none.0 router (subst (λ (T : Type 0). T) (sym (used router)) u), none.1)
          ]

-- an index that took what all named LSAs offer now belongs to the database
pub index_followed : (keys : List (Scope × Key)) (area : ℕ) (was is : Database) (old new : AreaIntraValue) (before after : List Prefix) → IsAreaIndexOf was old.index → LsasDifferAmong keys area was is
    → IsIndexUpdated is (IsOfSome keys (NamesVertex area)) old new before after → IsAreaIndexOf is new.index
index_followed keys area was is old new before after right differ taken = record {
  index = taken.index;
  offered = λ v. elim (taken.each v) [
    | inl current ↦ current
    | inr other ↦
        let at = right.offered v in (
          at.0,
          standing_kept was is v (λ key of. differ key (λ named. other.1 ((Area area, key), named, (refl, of)))) at.0 at.1,
          subst (IsOfferedFor v at.0) (sym other.0) at.2,
        )
  ];
}

-- ---- the prefixes that are offered

pub offered_none : (i : IndexValue) (names : Vertex → Type 0) (ps : List Prefix) → ((v : Vertex) → names v → ⊥) → HasOffered i names ps ps
offered_none i names ps none = record { kept = λ p c. c; offered = λ v named. absurd (none v named) }

pub offered_then : (i : IndexValue) (P Q R : Vertex → Type 0) (before between after : List Prefix) → ((v : Vertex) → R v → P v ⊎ Q v)
    → HasOffered i P before between → HasOffered i Q between after → HasOffered i R before after
offered_then i P Q R before between after parts first second = record {
  kept = λ p c. second.kept p (first.kept p c);
  offered = λ v named p metric c. elim (parts v named) [ inl early ↦ second.kept p (first.offered v early p metric c) | inr late ↦ second.offered v late p metric c ];
}

pub offered_fewer : (i : IndexValue) (P R : Vertex → Type 0) (before after : List Prefix) → ((v : Vertex) → R v → P v) → HasOffered i P before after → HasOffered i R before after
offered_fewer i P R before after part has = record { kept = has.kept; offered = λ v named. has.offered v (part v named) }

-- of an empty list nothing is named
pub none_of_empty : {X : Type 0} (xs : List X) (n : ℕ) (x : X) → n ≡ length xs → nat_eq n 0 ≡ true → Contains xs x → ⊥
none_of_empty xs n x len empty c = let none = eqb-true n 0 empty in let within = c.1 in absurd (omega arith)

-- what was gathered in all
pub gathered : (root : ℕ) (d : Database) (vertices : List (ℕ × Vertex)) (interfaces : List ℕ) (names own : Vertex → Type 0) (old new : AreaIntraValue) (before first second after : List Prefix)
    → IsIndexUpdated d names old new before first → HasOffered new.index (IsOfSome vertices (NamesIn new.id)) first second → HasOffered new.index own second after
    → ((id : ℕ) → Contains interfaces id → own (Router root)) → IsIndexFollowed root vertices interfaces old new before after
gathered root d vertices interfaces names own old new before first second after taken named last touched = record {
  id = taken.id;
  reached = taken.reached;
  touched = record {
    kept = λ p c. last.kept p (named.kept p (taken.touched.kept p c));
    others = λ p absent. taken.touched.others p (λ c. absent (last.kept p (named.kept p c)));
  };
  named = λ v c p metric s. last.kept p (named.offered v ((old.id, v), c, (λ i. (sym taken.id i, v))) p metric ((taken.index v p metric).0 s));
  own = λ id c p metric s. last.offered (Router root) (touched id c) p metric ((taken.index (Router root) p metric).0 s);
}

-- ---- routers

-- of a router without these bits nothing is to be kept
pub no_bits : (root router : ℕ) (flags distance : Option ℕ) (hops : List NextHop) → has_bits flags ≡ false → reached_by root router flags distance hops ≡ None
no_bits root router None distance hops plain = refl
no_bits root router (Some f) None hops plain = refl
no_bits root router (Some f) (Some d) hops plain =
    elim (nat_eq router root) as (λ b. ◌≡◌ {A = Option ReachedValue} (if b then None else (if is_abr_or_asbr f then Some (record { flags = f; distance = d; hops = hops }) else None)) None) [
      | true ↦ refl
      | false ↦ ap (λ (b : Bool). if b then Some (record { flags = f; distance = d; hops = hops }) else None) plain
    ]

module _ (root : ℕ) (a : AreaValue) where
  -- nothing was to be updated
  pub updated_none : (names : ℕ → Type 0) (i : AreaIntraValue) (rs : List ℕ) → ((r : ℕ) → names r → ⊥) → AreRoutersUpdated root a names i i rs rs
  updated_none names i rs none = record {
    id = refl;
    index = refl;
    each = λ r. inr (refl, none r);
    exact = λ r. (λ c. inl c, λ w. elim w [ inl c ↦ c | inr other ↦ absurd (other refl) ]);
  }

  -- the router is updated, and reported where something else is kept
  pub updated_one : (router : ℕ) (old new : AreaIntraValue) (rs after : List ℕ) → new.id ≡ old.id → new.index ≡ old.index → get new.reached router ≡ router_now root a old.index router
      → ((r : ℕ) → r ≢ router → get new.reached r ≡ get old.reached r)
      → ((after ≡ rs) × (get new.reached router ≡ get old.reached router)) ⊎ ((after ≡ rs ++ router ∷ []) × (get new.reached router ≢ get old.reached router))
      → AreRoutersUpdated root a (λ r. r ≡ router) old new rs after
  updated_one router old new rs after id index is others told = record {
    id = id;
    index = index;
    each = λ r. elim (cases_eq r router) [
      | inl e ↦ inl (subst (λ (x : ℕ). get new.reached x ≡ router_now root a old.index x) (sym e) is, e)
      | inr other ↦ inr (others r other, other)
    ];
    exact = λ r. elim told [
      | inl same ↦ subst (λ (l : List ℕ). Contains l r ↔ (Contains rs r ⊎ (get new.reached r ≢ get old.reached r))) (sym same.0) (
        λ c. inl c,
        λ w. elim w [
          | inl c ↦ c
          | inr other ↦ absurd (other (elim (cases_eq r router) [ inl e ↦ subst (λ (x : ℕ). get new.reached x ≡ get old.reached x) (sym e) same.1 | inr apart ↦ others r apart ]))
        ],
      )
      | inr pushed ↦ more_one (λ (x : ℕ). get new.reached x ≢ get old.reached x) rs after router pushed.0 (λ x. (
        λ other. elim (cases_eq x router) [ inl e ↦ e | inr apart ↦ absurd (other (others x apart)) ],
        λ e. subst (λ (y : ℕ). get new.reached y ≢ get old.reached y) (sym e) pushed.1,
      )) r
    ];
  }

  -- a vertex of which nothing is kept, and by its bits nothing is to be
  pub updated_out : (v : Vertex) (i : AreaIntraValue) (rs : List ℕ) → has_bits (flags_in i.index v) ≡ false → ((router : ℕ) → v ≡ Router router → get i.reached router ≡ None) → AreRoutersUpdated root a (λ r. v ≡ Router r) i i rs rs
  updated_out v i rs plain none = record {
    id = refl;
    index = refl;
    each = λ r. elim (one_or_other vertex_total vertex_exact (Router r) v) [
      | inl e ↦ inl (none r e ∙ sym (no_bits root r (flags_in i.index (Router r)) (distance_at a (Router r)) (hops_at a (Router r)) (subst (λ (w : Vertex). has_bits (flags_in i.index w) ≡ false) e plain)), e)
      | inr other ↦ inr (refl, other)
    ];
    exact = λ r. (λ c. inl c, λ w. elim w [ inl c ↦ c | inr other ↦ absurd (other refl) ]);
  }

  -- one after the other
  pub updated_then : (P Q R : ℕ → Type 0) (old mid new : AreaIntraValue) (before between after : List ℕ) → ((r : ℕ) → R r ↔ (P r ⊎ Q r))
      → AreRoutersUpdated root a P old mid before between → AreRoutersUpdated root a Q mid new between after → AreRoutersUpdated root a R old new before after
  updated_then P Q R old mid new before between after parts first second = record {
    id = second.id ∙ first.id;
    index = second.index ∙ first.index;
    each = each;
    exact = λ r. (
      λ c. elim ((second.exact r).0 c) [
        | inr late ↦ elim (settled r) [ inl e ↦ absurd (late e) | inr e ↦ inr (λ same. late (same ∙ sym e)) ]
        | inl held ↦ elim ((first.exact r).0 held) [
          | inl was ↦ inl was
          | inr early ↦ elim (settled r) [ inl e ↦ inr (λ same. early (sym e ∙ same)) | inr e ↦ absurd (early e) ]
        ]
      ],
      λ w. elim w [
        | inl was ↦ (second.exact r).1 (inl ((first.exact r).1 (inl was)))
        | inr differs ↦ elim (settled r) [
          | inl e ↦ (second.exact r).1 (inl ((first.exact r).1 (inr (λ same. differs (e ∙ same)))))
          | inr e ↦ (second.exact r).1 (inr (λ same. differs (same ∙ e)))
        ]
      ],
    );
  }
    where
      value : (r : ℕ) → router_now root a mid.index r ≡ router_now root a old.index r
      value r = ap (λ (i : IndexValue). router_now root a i r) first.index

      each : (r : ℕ) → ((get new.reached r ≡ router_now root a old.index r) × R r) ⊎ ((get new.reached r ≡ get old.reached r) × (R r → ⊥))
      each r = elim (second.each r) [
        | inl is ↦ inl (is.0 ∙ value r, (parts r).1 (inr is.1))
        | inr kept ↦ elim (first.each r) [
          | inl is ↦ inl (kept.0 ∙ is.0, (parts r).1 (inl is.1))
          | inr was ↦ inr (kept.0 ∙ was.0, λ named. elim ((parts r).0 named) [ inl p ↦ was.1 p | inr q ↦ kept.1 q ])
        ]
      ]

      -- one of the two left it as it was
      settled : (r : ℕ) → (get new.reached r ≡ get mid.reached r) ⊎ (get mid.reached r ≡ get old.reached r)
      settled r = elim (second.each r) [
        | inr kept ↦ inl kept.0
        | inl is ↦ elim (first.each r) [
          | inl at ↦ inl (is.0 ∙ value r ∙ sym at.0)
          | inr was ↦ inr was.0
        ]
      ]

  pub updated_by : (P R : ℕ → Type 0) (old new : AreaIntraValue) (before after : List ℕ) → ((r : ℕ) → R r ↔ P r) → AreRoutersUpdated root a P old new before after → AreRoutersUpdated root a R old new before after
  updated_by P R old new before after same updated = record {
    id = updated.id;
    index = updated.index;
    each = λ r. elim (updated.each r) [
      | inl is ↦ inl (is.0, (same r).1 is.1)
      | inr kept ↦ inr (kept.0, λ named. kept.1 ((same r).0 named))
    ];
    exact = updated.exact;
  }

-- ---- all of an area

-- under other names of equal lists and numbers
pub by_keys : (root : ℕ) (a : AreaValue) (keys given : List (Scope × Key)) (area id : ℕ) (old new : AreaIntraValue) (before after : List ℕ) → id ≡ area → given ≡ keys
    → AreRoutersUpdated root a (λ r. IsOfSome given (NamesVertex id) (Router r)) old new before after → AreRoutersUpdated root a (λ r. IsOfSome keys (NamesVertex area) (Router r)) old new before after
by_keys root a keys given area id old new before after same all updated =
    subst (λ (n : ℕ). AreRoutersUpdated root a (λ r. IsOfSome keys (NamesVertex n) (Router r)) old new before after) same
    (subst (λ (ks : List (Scope × Key)). AreRoutersUpdated root a (λ r. IsOfSome ks (NamesVertex id) (Router r)) old new before after) all updated)

pub by_vertices : (root : ℕ) (a : AreaValue) (vertices given : List (ℕ × Vertex)) (area id : ℕ) (old new : AreaIntraValue) (before after : List ℕ) → id ≡ area → given ≡ vertices
    → AreRoutersUpdated root a (λ r. IsOfSome given (NamesIn id) (Router r)) old new before after → AreRoutersUpdated root a (λ r. IsOfSome vertices (NamesIn area) (Router r)) old new before after
by_vertices root a vertices given area id old new before after same all updated =
    subst (λ (n : ℕ). AreRoutersUpdated root a (λ r. IsOfSome vertices (NamesIn n) (Router r)) old new before after) same
    (subst (λ (vs : List (ℕ × Vertex)). AreRoutersUpdated root a (λ r. IsOfSome vs (NamesIn id) (Router r)) old new before after) all updated)

module _ (root : ℕ) (d : Database) (a : AreaValue) (keys : List (Scope × Key)) (vertices : List (ℕ × Vertex)) (interfaces : List ℕ) (names own : Vertex → Type 0) (old mid by_key new : AreaIntraValue)
    (before first second after : List Prefix) (r_before r_mid r_after : List ℕ)
    (taken : IsIndexUpdated d names old mid before first) (keyed : AreRoutersUpdated root a (λ r. IsOfSome keys (NamesVertex old.id) (Router r)) mid by_key r_before r_mid)
    (settled : AreRoutersUpdated root a (λ r. IsOfSome vertices (NamesIn old.id) (Router r)) by_key new r_mid r_after) where
  -- what the index makes of the area, before its routers are updated
  mid_is : mid ≡ with_index_of old new
  mid_is = λ i. record { id = taken.id i; index = sym (settled.index ∙ keyed.index) i; reached = taken.reached i }

  pub area_gathered : HasOffered by_key.index (IsOfSome vertices (NamesIn by_key.id)) first second → HasOffered new.index own second after → ((id : ℕ) → Contains interfaces id → own (Router root))
      → IsIndexFollowed root vertices interfaces old (with_index_of old new) before after
  area_gathered named last touched =
      let here : IsIndexFollowed root vertices interfaces old mid before after =
      gathered root d vertices interfaces names own old mid before first second after taken
      (subst (λ (i : IndexValue). HasOffered i (IsOfSome vertices (NamesIn mid.id)) first second) keyed.index (subst (λ (id : ℕ). HasOffered by_key.index (IsOfSome vertices (NamesIn id)) first second) keyed.id named))
      (subst (λ (i : IndexValue). HasOffered i own second after) (settled.index ∙ keyed.index) last) touched in
      subst (λ (m : AreaIntraValue). IsIndexFollowed root vertices interfaces old m before after) mid_is here

  pub area_updated : AreRoutersUpdated root a (IsRouterNamed keys vertices old.id) (with_index_of old new) new r_before r_after
  area_updated =
      subst (λ (m : AreaIntraValue). AreRoutersUpdated root a (IsRouterNamed keys vertices old.id) m new r_before r_after) mid_is
      (updated_then root a (λ r. IsOfSome keys (NamesVertex old.id) (Router r)) (λ r. IsOfSome vertices (NamesIn old.id) (Router r)) (IsRouterNamed keys vertices old.id) mid by_key new r_before r_mid r_after
      (λ r. (λ n. n, λ n. n)) keyed settled)
