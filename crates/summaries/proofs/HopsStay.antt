-- Each next hop of an entry of an area leaves over an interface of that area, and so into no other
-- area.
--   hop_over: a next hop of a vertex of the area
--   entry_area, entry_over: the area of a network's entry, and its next hops
--   preferred_over: the next hops of the preferred entry of an AS boundary router
--   may_enter: a route of another area, at a finite cost, may be advertised
use Rattle.std.proofs.Common.{◌≡◌, ◌≢◌, ℕ, ◌<◌, List, [], ◌∷◌, Some, None, sym, ap, subst, ◌∙◌, inl, inr}
use Rattle.std.specs.Prelude.{Contains}
use Rattle.ospf_types.specs.declared.config.Interface.{Interface}
use Rattle.ospf_types.specs.declared.entry.Entry.{Entry}
use Rattle.ospf_types.specs.declared.entry.Vertex.{Vertex}
use Rattle.ospf_types.specs.declared.entry.Vertex.TheVariants.{Router, Network}
use Rattle.ospf_types.specs.declared.hop.NextHop.{NextHop}
use Rattle.ospf_types.specs.declared.hop.Path.{Path}
use Rattle.ospf_types.specs.declared.label.Label.{Label}
use Rattle.ospf_types.specs.declared.label.Label.TheVariants.{Over, At, Plain}
use Rattle.ospf_types.specs.declared.prefix.Prefix.{Prefix}
use Rattle.ospf_types.specs.Boundary.{Preference, BoundaryOffers, IsPreferred}
use Rattle.ospf_types.specs.Distances.{TakenLink, Leads, FirstOnly, FirstOf, IsFirst}
use Rattle.ospf_types.specs.Inputs.{Inputs, Area}
use Rattle.ospf_types.specs.Inter.{InterOffers, LSInfinity}
use Rattle.ospf_types.specs.Intra.{AreaCost, IntraOffers, IsHopIn, TransitOffers, StubOffers, OwnStubOffers}
use Rattle.ospf_types.specs.Links.{IsLink}
use Rattle.ospf_types.specs.Routes.{IsEntry}
use Rattle.ospf_types.specs.Summaries.{interface_of, MayEnter, HasHop}
use Rattle.ospf_types.proofs.Examined.{examined_once}

-- the next hop leaves over an interface of the area with that Area ID
abbrev pub IsOver : Inputs → ℕ → NextHop → Type 0
IsOver s area h = (i : Interface) × Contains s.interfaces (interface_of h, i) × (i.area ≡ area)

-- ---- the first link of a path

module _ (s : Inputs) (a : Area) where
  only : (v : Vertex) (cost : ℕ) (label : Label) (h : NextHop) → IsLink s a (Router s.router) v cost label → FirstOnly v label h → IsOver s a.id h
  only (Router r) cost (Over id) h link first = let up = link.9.1 in subst (IsOver s a.id) (sym first) (up.0, up.1.held, up.1.here)
  only (Network n) cost (Over id) h link first = let up = link.9.1 in subst (IsOver s a.id) (sym first) (up.0, up.1.held, up.1.here)
  only (Router r) cost (At addresses) h link first = absurd first
  only (Router r) cost Plain h link first = absurd first
  only (Network n) cost (At addresses) h link first = absurd first
  only (Network n) cost Plain h link first = absurd first

  onward : (v : Vertex) (cost : ℕ) (label next : Label) (h : NextHop) → IsLink s a (Router s.router) v cost label → FirstOf v label next h → IsOver s a.id h
  onward (Router r) cost (Over id) next h link first = let up = link.9.1 in subst (IsOver s a.id) (sym first) (up.0, up.1.held, up.1.here)
  onward (Network n) cost (Over id) (At addresses) h link first = let up = link.9.1 in subst (IsOver s a.id) (sym first.2) (up.0, up.1.held, up.1.here)
  onward (Network n) cost (Over id) (Over other) h link first = absurd first
  onward (Network n) cost (Over id) Plain h link first = absurd first
  onward (Router r) cost (At addresses) next h link first = absurd first
  onward (Router r) cost Plain next h link first = absurd first
  onward (Network n) cost (At addresses) next h link first = absurd first
  onward (Network n) cost Plain next h link first = absurd first

  first_over : (way : List TakenLink) (to : Vertex) (h : NextHop) → Leads (IsLink s a) s.router (Router s.router) way to → IsFirst way h → IsOver s a.id h
  first_over [] to h leads first = absurd first
  first_over (t ∷ []) to h leads first = only t.to t.cost t.label h leads.0 first
  first_over (t ∷ u ∷ way) to h leads first = onward t.to t.cost t.label u.label h leads.0 first

  -- a next hop of a vertex of the area leaves over an interface of the area
  pub hop_over : (to : Vertex) (h : NextHop) → IsHopIn s a to h → IsOver s a.id h
  hop_over to h hop = let p = hop.path in first_over p.0 to h p.1.1 p.3

-- ---- what is offered

module _ (s : Inputs) where
  -- of that area, a path over one of its interfaces
  abbrev IsOverIn : ℕ → Path → Type 0
  IsOverIn area path = (b : Area) × Contains s.areas b × (b.id ≡ area) × IsOver s area path.hop

  to_area : (b : Area) (area : ℕ) (path : Path) (h : NextHop) → Contains s.areas b → b.id ≡ area → IsOver s b.id h → path.hop ≡ h → IsOverIn area path
  to_area b area path h here same over is = (b, here, same, subst (IsOver s area) (sym is) (subst (λ n. IsOver s n h) same over))

  transit_over : (b : Area) (p : Prefix) (cost : ℕ) (path : Path) → TransitOffers s b p cost path → IsOver s b.id path.hop
  transit_over b p cost path w = subst (λ (q : Path). IsOver s b.id q.hop) (sym w.4) (hop_over s b (Network w.0) w.1 w.3)

  stub_over : (b : Area) (p : Prefix) (cost : ℕ) (path : Path) → StubOffers s b p cost path → IsOver s b.id path.hop
  stub_over b p cost path w = subst (λ (q : Path). IsOver s b.id q.hop) (sym w.8) (hop_over s b (Router w.0) w.3 w.6.1)

  own_stub_over : (b : Area) (p : Prefix) (cost : ℕ) (path : Path) → OwnStubOffers s b p cost path → IsOver s b.id path.hop
  own_stub_over b p cost path w = subst (λ (q : Path). IsOver s b.id q.hop) (sym w.5) (w.1, w.3.held, w.3.here)

  intra_over : (p : Prefix) (key : AreaCost) (path : Path) → IntraOffers s p key path → IsOverIn key.1 path
  intra_over p key path o =
      let over : IsOver s o.0.id path.hop = elim o.3 [
        | inl transit ↦ transit_over o.0 p key.0 path transit
        | inr others ↦ elim others [ inl stub ↦ stub_over o.0 p key.0 path stub | inr own ↦ own_stub_over o.0 p key.0 path own ]
      ] in
      to_area o.0 key.1 path path.hop o.1 o.2 over (λ _. path.hop)

  inter_over : (p : Prefix) (cost : ℕ) (path : Path) (o : InterOffers s p cost path) → IsOverIn o.0.id path
  inter_over p cost path o =
      let usable = o.8 in
      to_area o.0 o.0.id path o.5 usable.examined.area (λ _. o.0.id) (hop_over s o.0 (Router o.1.header.router) o.5 usable.border.1.reached.1) (ap (λ (q : Path). q.hop) o.11)

  boundary_over : (router : ℕ) (k : Preference) (h : NextHop) → BoundaryOffers s router k h → IsOver s k.area h
  boundary_over router k h o = elim o [
    | inl inside ↦ subst (λ n. IsOver s n h) inside.2 (hop_over s inside.0 (Router router) h inside.3.reached.1)
    | inr inter ↦
        let w = inter.1.offered in
        let over : IsOver s k.area w.4 = subst (λ n. IsOver s n w.4) w.5 (hop_over s w.0 (Router w.1.header.router) w.4 w.9.border.1.reached.1) in
        subst (IsOver s k.area) (ap (λ (q : Path). q.hop) (sym w.11) ∙ inter.2) over
  ]

  -- ---- entries

  -- the next hops of the preferred entry of an AS boundary router
  pub preferred_over : (router : ℕ) (k : Preference) (hops : List NextHop) → IsPreferred s router k hops → (h : NextHop) → Contains hops h → IsOver s k.area h
  preferred_over router k hops best h c = boundary_over router k h ((best.union h).0 c)

  -- what an entry of this area is
  record IsOfArea (area : ℕ) (e : Entry) : Type 0 where
    configured : (b : Area) × Contains s.areas b × (b.id ≡ area)
    over : (path : Path) → Contains e.paths path → IsOver s area path.hop

  of_area : (p : Prefix) (e : Entry) (area : ℕ) → IsEntry s p e → e.area ≡ Some area → IsOfArea area e
  of_area p e area entry is = elim entry.best [
    | inl w ↦
        let best = w.1 in
        let both : Some w.0.1 ≡ Some area = sym (ap (λ (x : Entry). x.area) w.2) ∙ is in
        let same : w.0.1 ≡ area = cc in
        let found = intra_over p w.0 best.stands.0 best.stands.1 in record {
          configured = (found.0, found.1, found.2 ∙ same);
          over = λ path c. subst (λ n. IsOver s n path.hop) same (intra_over p w.0 path ((best.union path).0 c)).3;
        }
    | inr others ↦ elim others [
      | inl w ↦
          let best = w.2 in
          let both : Some w.1.id ≡ Some area = sym (ap (λ (x : Entry). x.area) w.4) ∙ is in
          let same : w.1.id ≡ area = cc in record {
            configured = (w.1, w.3.area, same);
            over = λ path c.
                let o = (best.union path).0 c in
                subst (λ n. IsOver s n path.hop) (examined_once s o.0 w.1 o.8.examined w.3 ∙ same) (inter_over p w.0 path o).3;
          }
      | inr w ↦ let both : None ≡ Some area = sym (ap (λ (x : Entry). x.area) w.2) ∙ is in absurd cc
    ]
  ]

  -- the area of a network's entry is one of those
  pub entry_area : (p : Prefix) (e : Entry) (area : ℕ) → IsEntry s p e → e.area ≡ Some area → (b : Area) × Contains s.areas b × (b.id ≡ area)
  entry_area p e area entry is = (of_area p e area entry is).configured

  -- and its next hops
  pub entry_over : (p : Prefix) (e : Entry) (area : ℕ) → IsEntry s p e → e.area ≡ Some area → (h : NextHop) → HasHop e h → IsOver s area h
  entry_over p e area entry is h w = subst (IsOver s area) w.2 ((of_area p e area entry is).over w.0 w.1)

  -- a route of another area, at a finite cost, may be advertised
  pub may_enter : ((id : ℕ) (i j : Interface) → Contains s.interfaces (id, i) → Contains s.interfaces (id, j) → i ≡ j)
      → (a : Area) (area cost : ℕ) (has : NextHop → Type 0) → ((h : NextHop) → has h → IsOver s area h) → area ≢ a.id → cost < LSInfinity → MayEnter s a area cost has
  may_enter one a area cost has over foreign finite = record {
    foreign = foreign;
    split = λ h there into.
        let from = over h there in
        foreign (sym from.2 ∙ ap (λ (i : Interface). i.area) (one (interface_of h) from.0 into.0 from.1 into.1) ∙ into.2);
    finite = finite;
  }
