-- The links of a graph between two vertices are those that the ends of the two make.
use Rattle.std.proofs.Common.{◌≡◌, ℕ, List, map, Option, Some, None, refl, sym, ◌∙◌, ap, subst}
use Rattle.std.specs.Prelude.{◌↔◌, Contains}
use Rattle.std.specs.FinMap.{get}
use Rattle.ospf_types.specs.declared.entry.Vertex.{Vertex}
use Rattle.ospf_types.specs.declared.entry.Vertex.TheVariants.{Router, Network}
use Rattle.ospf_types.specs.declared.label.Label.{Label}
use Rattle.ospf_types.specs.declared.label.Label.TheVariants.{Over, At, Plain}
use Rattle.ospf_types.specs.declared.lsa.LinkKind.{LinkKind}
use Rattle.ospf_types.specs.declared.lsa.LinkKind.TheVariants.{PointToPoint, Transit}
use Rattle.ospf_types.specs.Links.{IsLabel, HasAddressOn, AreAddressesOn, ListsRouter}
use Rattle.ospf_types.specs.Lsa.{RouterLink}
use Rattle.ospf_types.proofs.Elements.{no_element, mapped_element, mapped_from}
use Rattle.graph_links.specs.declared.link_end.LinkEnd.{LinkEnd}
use Rattle.vertex_graph.specs.Graphs.{GraphValue, graph_view, link_to, link_of, number_of, LinksOf, HasEnds}
use Rattle.graph_links.specs.Pairs.{Names, IsOutLabel, AreDetailsTo, IsPairLink}
use Rattle.graph_links.specs.Sides.{Leading, LinksBy, ends_or}
use Rattle.graph_links.proofs.PairAlike.{pair_names, pair_named}

-- the kind of a router's links to the vertex
abbrev kind_to : Vertex → LinkKind
kind_to (Router r) = PointToPoint
kind_to (Network n) = Transit

-- a link's kind and number say where it leads
leads_to : (v t : Vertex) (e : LinkEnd) → (link_to v e).kind ≡ kind_to t → (link_to v e).id ≡ number_of t → v ≡ t
leads_to (Router r) (Router t) e kind id = ap Router id
leads_to (Router r) (Network t) e kind id = absurd cc
leads_to (Network n) (Router t) e kind id = absurd cc
leads_to (Network n) (Network t) e kind id = ap Network id

detail_to : (v : Vertex) (e : LinkEnd) → (link_to v e).detail ≡ e.detail
detail_to (Router r) e = refl
detail_to (Network n) e = refl

metric_to : (v : Vertex) (e : LinkEnd) → (link_to v e).metric ≡ e.metric
metric_to (Router r) e = refl
metric_to (Network n) e = refl

kind_of_link : (v : Vertex) (e : LinkEnd) → (link_to v e).kind ≡ kind_to v
kind_of_link (Router r) e = refl
kind_of_link (Network n) e = refl

id_of_link : (v : Vertex) (e : LinkEnd) → (link_to v e).id ≡ number_of v
id_of_link (Router r) e = refl
id_of_link (Network n) e = refl

-- one of the ends is at the vertex, with this Link Data and this metric
abbrev HasEndAt : List LinkEnd → Vertex → ℕ → ℕ → Type 0
HasEndAt ends t detail metric = (e : LinkEnd) × Contains ends e × (e.to ≡ t) × (e.detail ≡ detail) × (e.metric ≡ metric)

-- the link that stands for an end
end_by_link : (ends : List LinkEnd) (t : Vertex) (l : RouterLink) → Contains (map link_of ends) l → l.kind ≡ kind_to t → l.id ≡ number_of t → HasEndAt ends t l.detail l.metric
end_by_link ends t l there kind id =
    let from = mapped_from link_of ends l there in
    let e : LinkEnd = from.0 in (
      e,
      from.1,
      leads_to e.to t e (ap (λ (k : RouterLink). k.kind) from.2 ∙ kind) (ap (λ (k : RouterLink). k.id) from.2 ∙ id),
      sym (detail_to e.to e) ∙ ap (λ (k : RouterLink). k.detail) from.2,
      sym (metric_to e.to e) ∙ ap (λ (k : RouterLink). k.metric) from.2,
    )

kind_by_end : (e : LinkEnd) (t : Vertex) → e.to ≡ t → (link_of e).kind ≡ kind_to t
kind_by_end e t is = kind_of_link e.to e ∙ ap kind_to is

id_by_end : (e : LinkEnd) (t : Vertex) → e.to ≡ t → (link_of e).id ≡ number_of t
id_by_end e t is = id_of_link e.to e ∙ ap number_of is

-- a label in the view of the graph is one by its root and interfaces
module _ (g : GraphValue) where
  out_label : (from detail : ℕ) (label : Label) → IsLabel (graph_view g) from detail label → IsOutLabel g.root g.interfaces from detail label
  out_label from detail (Over id) is = is
  out_label from detail Plain is = is
  out_label from detail (At addresses) is = is

  label_out : (from detail : ℕ) (label : Label) → IsOutLabel g.root g.interfaces from detail label → IsLabel (graph_view g) from detail label
  label_out from detail (Over id) is = is
  label_out from detail Plain is = is
  label_out from detail (At addresses) is = is

  -- the addresses on a network are the Link Data of the ends there
  address_end : (network : ℕ) (back : List LinkEnd) (address : ℕ) → HasAddressOn network (map link_of back) address → (e : LinkEnd) × Contains back e × (e.to ≡ Network network) × (e.detail ≡ address)
  address_end network back address has =
      let end = end_by_link back (Network network) has.0 has.1 has.2 has.3 in
      (end.0, end.1, end.2, end.3 ∙ has.4)

  end_address : (network : ℕ) (back : List LinkEnd) (address : ℕ) → (e : LinkEnd) × Contains back e × (e.to ≡ Network network) × (e.detail ≡ address) → HasAddressOn network (map link_of back) address
  end_address network back address end =
      (link_of end.0, mapped_element link_of back end.0 end.1, kind_by_end end.0 (Network network) end.2, id_by_end end.0 (Network network) end.2, detail_to end.0.to end.0 ∙ end.3)

  details_of : (network : ℕ) (back : List LinkEnd) (links : List RouterLink) (addresses : List ℕ) → links ≡ map link_of back → AreAddressesOn network links addresses → AreDetailsTo (Network network) back addresses
  details_of network back links addresses is are = record {
    ascending = are.ascending;
    same = λ address. (
      λ c. address_end network back address (subst (λ (ls : List RouterLink). HasAddressOn network ls address) is ((are.same address).0 c)),
      λ end. (are.same address).1 (subst (λ (ls : List RouterLink). HasAddressOn network ls address) (sym is) (end_address network back address end)),
    );
  }

  addresses_of : (network : ℕ) (back : List LinkEnd) (addresses : List ℕ) → AreDetailsTo (Network network) back addresses → AreAddressesOn network (map link_of back) addresses
  addresses_of network back addresses are = record {
    ascending = are.ascending;
    same = λ address. (
      λ c. end_address network back address ((are.same address).0 c),
      λ has. (are.same address).1 (address_end network back address has),
    );
  }

  -- the network that lists a router has an end at it
  listed_by : (has : HasEnds g) (network router : ℕ) → ListsRouter (graph_view g) network router → (ends : List LinkEnd) × (get g.ends (Network network) ≡ Some ends) × Names ends (Router router)
  listed_by has network router lists =
      let ends : List LinkEnd = lists.2.0 in
      let from = mapped_from (λ (e : LinkEnd). number_of e.to) ends router (subst (λ (rs : List ℕ). Contains rs router) lists.2.3 lists.3) in
      let e : LinkEnd = from.0 in
      let listed = has.listed network ends e lists.2.1 from.1 in
      let at : e.to ≡ Router listed.0 = ap (λ (e : LinkEnd). e.to) listed.1 in
      let number : listed.0 ≡ router = sym (ap number_of at) ∙ from.2 in
      (ends, lists.2.1, (e, from.1, at ∙ ap Router number))

  lists_by : (network router : ℕ) (ends : List LinkEnd) → get g.ends (Network network) ≡ Some ends → Names ends (Router router) → ListsRouter (graph_view g) network router
  lists_by network router ends at named =
      let number : number_of named.0.to ≡ router = ap number_of named.2 in
      (0, map (λ (e : LinkEnd). number_of e.to) ends, (ends, at, refl, refl), subst (Contains (map (λ (e : LinkEnd). number_of e.to) ends)) number (mapped_element (λ (e : LinkEnd). number_of e.to) ends named.0 named.1))

  -- a vertex has one list of ends
  one_list : (v : Vertex) (xs ys : List LinkEnd) → get g.ends v ≡ Some xs → get g.ends v ≡ Some ys → xs ≡ ys
  one_list v xs ys x y = cc

-- a link of the graph is one that the ends of its two vertices make
pub pair_of_link : (g : GraphValue) → HasEnds g → (v w : Vertex) (cost : ℕ) (label : Label) → LinksOf g v w cost label
    → (ends : List LinkEnd) × (back : List LinkEnd) × (get g.ends v ≡ Some ends) × (get g.ends w ≡ Some back) × IsPairLink g.root g.interfaces v ends w back cost label
pair_of_link g has (Router from) (Router to) cost label taken =
    let own = taken.3 in
    let end = end_by_link own.0 (Router to) taken.2 (subst (λ (ls : List RouterLink). Contains ls taken.2) own.3 taken.4) taken.5 taken.6 in
    let named = taken.10 in
    let other = named.3 in
    let back = end_by_link other.0 (Router from) named.2 (subst (λ (ls : List RouterLink). Contains ls named.2) other.3 named.4) named.5 named.6 in (
      own.0,
      other.0,
      own.1,
      other.1,
      (
        end.0,
        end.1,
        end.2,
        end.4 ∙ taken.7,
        taken.8,
        subst (λ (d : ℕ). IsOutLabel g.root g.interfaces from d label) (sym end.3) (out_label g from taken.2.detail label taken.9),
        (back.0, back.1, back.2),
      ),
    )
pair_of_link g has (Router from) (Network to) cost label taken =
    let own = taken.3 in
    let end = end_by_link own.0 (Network to) taken.2 (subst (λ (ls : List RouterLink). Contains ls taken.2) own.3 taken.4) taken.5 taken.6 in
    let back = listed_by g has to from taken.10 in (
      own.0,
      back.0,
      own.1,
      back.1,
      (
        end.0,
        end.1,
        end.2,
        end.4 ∙ taken.7,
        taken.8,
        subst (λ (d : ℕ). IsOutLabel g.root g.interfaces from d label) (sym end.3) (out_label g from taken.2.detail label taken.9),
        back.2,
      ),
    )
pair_of_link g has (Network from) (Router to) cost label taken =
    let own = listed_by g has from to taken.3 in
    let other = taken.5 in
    let named = taken.8 in
    let back = end_by_link named.3.0 (Network from) named.2 (subst (λ (ls : List RouterLink). Contains ls named.2) named.3.3 named.4) named.5 named.6 in
    let same : named.3.0 ≡ other.0 = one_list g (Router to) named.3.0 other.0 named.3.1 other.1 in (
      own.0,
      other.0,
      own.1,
      other.1,
      (
        own.2,
        taken.4,
        (back.0, subst (λ (es : List LinkEnd). Contains es back.0) same back.1, back.2),
        (taken.2, details_of g from other.0 taken.1 taken.2 other.3 taken.6, taken.7),
      ),
    )
pair_of_link g has (Network from) (Network to) cost label taken = absurd taken

-- what the ends of two vertices make is a link of the graph
pub link_of_pair : (g : GraphValue) (v w : Vertex) (ends back : List LinkEnd) (cost : ℕ) (label : Label) → get g.ends v ≡ Some ends → get g.ends w ≡ Some back
    → IsPairLink g.root g.interfaces v ends w back cost label → LinksOf g v w cost label
link_of_pair g (Router from) (Router to) ends back cost label own other taken =
    let e : LinkEnd = taken.0 in (
      0,
      map link_of ends,
      link_of e,
      (ends, own, refl, refl),
      mapped_element link_of ends e taken.1,
      kind_by_end e (Router to) taken.2,
      id_by_end e (Router to) taken.2,
      metric_to e.to e ∙ taken.3,
      taken.4,
      subst (λ (d : ℕ). IsLabel (graph_view g) from d label) (sym (detail_to e.to e)) (label_out g from e.detail label taken.5),
      (0, map link_of back, link_of taken.6.0, (back, other, refl, refl), mapped_element link_of back taken.6.0 taken.6.1, kind_by_end taken.6.0 (Router from) taken.6.2, id_by_end taken.6.0 (Router from) taken.6.2),
    )
link_of_pair g (Router from) (Network to) ends back cost label own other taken =
    let e : LinkEnd = taken.0 in (
      0,
      map link_of ends,
      link_of e,
      (ends, own, refl, refl),
      mapped_element link_of ends e taken.1,
      kind_by_end e (Network to) taken.2,
      id_by_end e (Network to) taken.2,
      metric_to e.to e ∙ taken.3,
      taken.4,
      subst (λ (d : ℕ). IsLabel (graph_view g) from d label) (sym (detail_to e.to e)) (label_out g from e.detail label taken.5),
      lists_by g to from back other taken.6,
    )
link_of_pair g (Network from) (Router to) ends back cost label own other taken =
    let named = taken.2 in (
      0,
      map link_of back,
      taken.3.0,
      lists_by g from to ends own taken.0,
      taken.1,
      (back, other, refl, refl),
      addresses_of g from back taken.3.0 taken.3.1,
      taken.3.2,
      (0, map link_of back, link_of named.0, (back, other, refl, refl), mapped_element link_of back named.0 named.1, kind_by_end named.0 (Network from) named.2, id_by_end named.0 (Network from) named.2),
    )
link_of_pair g (Network from) (Network to) ends back cost label own other taken = absurd taken

-- a vertex that names another is there
is_there : (o : Option (List LinkEnd)) (w : Vertex) → Names (ends_or o) w → o ≡ Some (ends_or o)
is_there None w named = absurd (no_element named.0 named.1)
is_there (Some ends) w named = refl

-- the links of a graph are those by where its vertices lead
pub links_by : (g : GraphValue) → HasEnds g → (leading : Leading) → ((v : Vertex) → get g.ends v ≡ leading v) → (v w : Vertex) (cost : ℕ) (label : Label) → LinksOf g v w cost label ↔ LinksBy g.root g.interfaces leading v w cost label
links_by g has leading leads v w cost label = (
  λ link.
      let pair = pair_of_link g has v w cost label link in
      subst (λ (p : Option (List LinkEnd) × Option (List LinkEnd)). IsPairLink g.root g.interfaces v (ends_or p.0) w (ends_or p.1) cost label) (λ i. ((sym pair.2 ∙ leads v) i, (sym pair.3 ∙ leads w) i)) pair.4,
  λ link.
      let ends = ends_or (leading v) in
      let back = ends_or (leading w) in
      link_of_pair g v w ends back cost label (leads v ∙ is_there (leading v) w (pair_names g.root g.interfaces v w ends back cost label link)) (leads w ∙ is_there (leading w) v (pair_named g.root g.interfaces v w ends back cost label link)) link,
)
