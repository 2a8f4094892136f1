-- An index stays one as the offers of a vertex are taken out and put in, one prefix at a time.
use Rattle.std.proofs.Common.{◌≡◌, ◌≢◌, ℕ, ◌+◌, ◌-◌, ◌<◌, ◌≤◌, true, false, Bor, List, [], ◌∷◌, ◌++◌, length, take, drop, get_or, Option, Some, None, refl, sym, ap, subst, ◌∙◌, ◌⊎◌, inl, inr, arith}
use Rattle.std.specs.Prelude.{◌↔◌, option_copied, option_map}
use Rattle.std.specs.FinMap.{get, insert, remove}
use Rattle.std.specs.List.{Contains}
use Rattle.std.proofs.lemmas.Bool.{false≢true}
use Rattle.std.proofs.lemmas.List.{take_all}
use Rattle.std.proofs.lemmas.List.Elements.{Contains-append_left, Contains-push, Contains-push_cases}
use Rattle.ospf_types.specs.declared.entry.Vertex.{Vertex}
use Rattle.ospf_types.specs.declared.prefix.Prefix.{Prefix}
use Rattle.ospf_types.proofs.Elements.{no_element, first_element, later_element, first_or_later}
use Rattle.ospf_types.proofs.Orders.{network_total, network_exact}
use Rattle.ospf_types.specs.Lsa.{Body, Lsa}
use Rattle.lsdb.specs.Databases.{Database}
use Rattle.area_trees.specs.Areas.{IsStanding}
use Rattle.spf.proofs.OfSome.{contains_more}
use Rattle.intra.specs.declared.area_index.PrefixSource.{PrefixSource}
use Rattle.intra.specs.declared.offered.OfferedPrefix.{OfferedPrefix}
use Rattle.intra.specs.Indexes.{IndexValue, OfferedValue, SourcesByPrefix, IsIndex, IsSource, IsOfferedFor, ArePrefixesAffected, body_of, sources_of, offers_of}
use Rattle.intra.specs.IndexSteps.{AreOffersGone, HaveOffersCome, IsPrefixOf, IsOfferOf, AreAlike}
use Rattle.ospf_types.proofs.VertexOrder.{vertices_equal, vertices_decided, vertex_total, vertex_exact}
use Rattle.ospf_types.proofs.KeyOrders.{prefixes_equal, prefixes_decided}
use Rattle.route_choice.proofs.KeyedMaps.{set_here, set_elsewhere, gone_here, gone_elsewhere}

abbrev source_of : Vertex → ℕ → PrefixSource
source_of w metric = record { vertex = w; metric = metric }

abbrev offer_of : Prefix → ℕ → OfferedPrefix
offer_of p metric = record { prefix = p; metric = metric }

at_prefix : (P : Type 0) (p q : Prefix) → (q ≡ p → P) → (q ≢ p → P) → P
at_prefix P p q here elsewhere =
    let d = prefixes_decided q p in
    elim (prefixes_equal q p) as (λ b. prefixes_equal q p ≡ b → P) [
      | true ↦ λ e. here (d.0 e)
      | false ↦ λ e. elsewhere (λ same. false≢true (sym e ∙ d.1 same))
    ] refl

at_vertex : (P : Type 0) (v w : Vertex) → (w ≡ v → P) → (w ≢ v → P) → P
at_vertex P v w here elsewhere =
    let d = vertices_decided w v in
    elim (vertices_equal w v) as (λ b. vertices_equal w v ≡ b → P) [
      | true ↦ λ e. here (d.0 e)
      | false ↦ λ e. elsewhere (λ same. false≢true (sym e ∙ d.1 same))
    ] refl

pub no_sources : (xs : List PrefixSource) → length xs ≡ 0 → xs ≡ []
no_sources [] none = refl
no_sources (x ∷ xs) none = absurd (omega arith)

-- ---- one prefix

-- the vertex is gone from the sources of the prefix, and those of the others stay
abbrev IsLeftOut : Vertex → List PrefixSource → List PrefixSource → Type 0
IsLeftOut v had left = (w : Vertex) (metric : ℕ) → Contains left (source_of w metric) ↔ (Contains had (source_of w metric) × (w ≢ v))

-- what AreGone and HaveCome say, of the sources alone
abbrev IsAmong : SourcesByPrefix → Vertex → Prefix → ℕ → Type 0
IsAmong sources w p metric = Contains (sources_of (get sources p)) (source_of w metric)

abbrev AreGoneFrom : (Vertex → Prefix → Type 0) → SourcesByPrefix → SourcesByPrefix → Type 0
AreGoneFrom gone old new = (w : Vertex) (p : Prefix) (metric : ℕ) → IsAmong new w p metric ↔ (IsAmong old w p metric × (gone w p → ⊥))

abbrev HaveComeTo : (Vertex → Prefix → ℕ → Type 0) → SourcesByPrefix → SourcesByPrefix → Type 0
HaveComeTo come old new = (w : Vertex) (p : Prefix) (metric : ℕ) → IsAmong new w p metric ↔ (IsAmong old w p metric ⊎ come w p metric)

one_gone : (old new : SourcesByPrefix) (v : Vertex) (p : Prefix) → IsLeftOut v (sources_of (get old p)) (sources_of (get new p))
    → ((q : Prefix) → q ≢ p → get new q ≡ get old q) → AreGoneFrom (λ w q. (w ≡ v) × (q ≡ p)) old new
one_gone old new v p here elsewhere w q metric =
    at_prefix (IsAmong new w q metric ↔ (IsAmong old w q metric × ((w ≡ v) × (q ≡ p) → ⊥))) p q
    (λ same.
    let moved : IsLeftOut v (sources_of (get old q)) (sources_of (get new q)) = subst (λ (x : Prefix). IsLeftOut v (sources_of (get old x)) (sources_of (get new x))) (sym same) here in (
      λ c. (((moved w metric).0 c).0, λ g. ((moved w metric).0 c).1 g.0),
      λ c. (moved w metric).1 (c.0, λ is. c.1 (is, same)),
    ))
    (λ other.
    let is = ap sources_of (elsewhere q other) in (
      λ c. (subst (λ (xs : List PrefixSource). Contains xs (source_of w metric)) is c, λ g. other g.1),
      λ c. subst (λ (xs : List PrefixSource). Contains xs (source_of w metric)) (sym is) c.0,
    ))

module _ (old new : SourcesByPrefix) (v : Vertex) (p : Prefix) where
  -- nobody offered the prefix
  pub gone_absent : get old p ≡ None → new ≡ old → AreGoneFrom (λ w q. (w ≡ v) × (q ≡ p)) old new
  gone_absent none is =
      one_gone old new v p
      (λ w metric. (
        λ c. absurd (no_element _ (subst (λ (xs : List PrefixSource). Contains xs (source_of w metric)) (ap (λ (m : SourcesByPrefix). sources_of (get m p)) is ∙ ap sources_of none) c)),
        λ c. absurd (no_element _ (subst (λ (xs : List PrefixSource). Contains xs (source_of w metric)) (ap sources_of none) c.0)),
      ))
      (λ q other. ap (λ (m : SourcesByPrefix). get m q) is)

  -- the others are left
  pub gone_written : (had left : List PrefixSource) → had ≡ sources_of (get old p) → IsLeftOut v had left → new ≡ insert old p left → AreGoneFrom (λ w q. (w ≡ v) × (q ≡ p)) old new
  gone_written had left stood exact is =
      one_gone old new v p
      (subst (λ (xs : List PrefixSource). IsLeftOut v xs (sources_of (get new p))) stood
      (subst (IsLeftOut v had) (sym (ap (λ (m : SourcesByPrefix). sources_of (get m p)) is ∙ ap sources_of (set_here network_total old p left))) exact))
      (λ q other. ap (λ (m : SourcesByPrefix). get m q) is ∙ set_elsewhere network_total network_exact old p q left other)

  -- none is left
  pub gone_removed : (had left : List PrefixSource) → had ≡ sources_of (get old p) → IsLeftOut v had left → left ≡ [] → new ≡ remove (insert old p left) p
      → AreGoneFrom (λ w q. (w ≡ v) × (q ≡ p)) old new
  gone_removed had left stood exact none is =
      one_gone old new v p
      (subst (λ (xs : List PrefixSource). IsLeftOut v xs (sources_of (get new p))) stood
      (subst (IsLeftOut v had) (none ∙ sym (ap (λ (m : SourcesByPrefix). sources_of (get m p)) is ∙ ap sources_of (gone_here network_total (insert old p left) p))) exact))
      (λ q other. ap (λ (m : SourcesByPrefix). get m q) is ∙ gone_elsewhere network_total network_exact (insert old p left) p q other ∙ set_elsewhere network_total network_exact old p q left other)

  -- the vertex joins the others
  pub come_written : (metric : ℕ) (had : List PrefixSource) → had ≡ sources_of (get old p) → new ≡ insert old p (had ++ source_of v metric ∷ [])
      → HaveComeTo (λ w q m. (w ≡ v) × (q ≡ p) × (m ≡ metric)) old new
  come_written metric had stood is w q m =
      at_prefix (IsAmong new w q m ↔ (IsAmong old w q m ⊎ ((w ≡ v) × (q ≡ p) × (m ≡ metric)))) p q
      (λ same.
      let now : sources_of (get new q) ≡ had ++ source_of v metric ∷ [] =
      ap (λ (x : Prefix). sources_of (get new x)) same ∙ ap (λ (m : SourcesByPrefix). sources_of (get m p)) is ∙ ap sources_of (set_here network_total old p (had ++ source_of v metric ∷ [])) in
      let was : had ≡ sources_of (get old q) = stood ∙ ap (λ (x : Prefix). sources_of (get old x)) (sym same) in (
        λ c. elim (Contains-push_cases had (source_of v metric) (source_of w m) (subst (λ (xs : List PrefixSource). Contains xs (source_of w m)) now c)) [
          | inl has ↦ inl (subst (λ (xs : List PrefixSource). Contains xs (source_of w m)) was has)
          | inr one ↦ inr (ap (λ (s : PrefixSource). s.vertex) (sym one), same, ap (λ (s : PrefixSource). s.metric) (sym one))
        ],
        λ c. subst (λ (xs : List PrefixSource). Contains xs (source_of w m)) (sym now) (elim c [
          | inl has ↦ Contains-append_left had (source_of v metric ∷ []) (source_of w m) (subst (λ (xs : List PrefixSource). Contains xs (source_of w m)) (sym was) has)
          | inr one ↦ subst (Contains (had ++ source_of v metric ∷ [])) (λ i. source_of (sym one.0 i) (sym one.2 i)) (Contains-push had (source_of v metric))
        ]),
      ))
      (λ other.
      let at : sources_of (get new q) ≡ sources_of (get old q) =
      ap sources_of (ap (λ (m : SourcesByPrefix). get m q) is ∙ set_elsewhere network_total network_exact old p q (had ++ source_of v metric ∷ []) other) in (
        λ c. inl (subst (λ (xs : List PrefixSource). Contains xs (source_of w m)) at c),
        λ c. elim c [
          | inl has ↦ subst (λ (xs : List PrefixSource). Contains xs (source_of w m)) (sym at) has
          | inr one ↦ absurd (other one.1)
        ],
      ))

-- ---- one prefix after the other

module _ (v : Vertex) (offers : List OfferedPrefix) where
  pub gone_start : (i : IndexValue) → AreOffersGone (IsPrefixOf v (take 0 offers)) i i
  gone_start i w p metric = (λ c. (c, λ g. no_element _ g.1.1), λ c. c.0)

  module _ (i : ℕ) (x : OfferedPrefix) (lt : i < length offers) (is : x ≡ get_or offers i x) where
    pub gone_more : (old mid new : IndexValue) → AreOffersGone (IsPrefixOf v (take i offers)) old mid → AreOffersGone (λ w p. (w ≡ v) × (p ≡ x.prefix)) mid new → AreOffersGone (IsPrefixOf v (take (i + 1) offers)) old new
    gone_more old mid new before one w p metric = (
      λ c. let here = (one w p metric).0 c in
          let was = (before w p metric).0 here.0 in (
            was.0,
            λ g. elim ((contains_more offers i x (offer_of p g.1.0) lt is).0 g.1.1) [
              | inl had ↦ was.1 (g.0, (g.1.0, had))
              | inr same ↦ here.1 (g.0, ap (λ (o : OfferedPrefix). o.prefix) same)
            ],
          ),
      λ c. (one w p metric).1 (
        (before w p metric).1 (c.0, λ g. c.1 (g.0, (g.1.0, (contains_more offers i x (offer_of p g.1.0) lt is).1 (inl g.1.1)))),
        λ g. c.1 (g.0, (x.metric, (contains_more offers i x (offer_of p x.metric) lt is).1 (inr (ap (λ (q : Prefix). offer_of q x.metric) g.1)))),
      ),
    )

    pub come_more : (old mid new : IndexValue) → HaveOffersCome (IsOfferOf v (take i offers)) old mid → HaveOffersCome (λ w p metric. (w ≡ v) × (p ≡ x.prefix) × (metric ≡ x.metric)) mid new
        → HaveOffersCome (IsOfferOf v (take (i + 1) offers)) old new
    come_more old mid new before one w p metric =
        let more = contains_more offers i x (offer_of p metric) lt is in (
          λ c. elim ((one w p metric).0 c) [
            | inl was ↦ elim ((before w p metric).0 was) [ inl had ↦ inl had | inr some ↦ inr (some.0, more.1 (inl some.1)) ]
            | inr here ↦ inr (here.0, more.1 (inr (λ j. offer_of (here.1 j) (here.2 j))))
          ],
          λ c. (one w p metric).1 (elim c [
            | inl had ↦ inl ((before w p metric).1 (inl had))
            | inr some ↦ elim (more.0 some.1) [
              | inl was ↦ inl ((before w p metric).1 (inr (some.0, was)))
              | inr same ↦ inr (some.0, ap (λ (o : OfferedPrefix). o.prefix) same, ap (λ (o : OfferedPrefix). o.metric) same)
            ]
          ]),
        )

  module _ (i : ℕ) (past : length offers ≤ i) where
    pub gone_end : (old new : IndexValue) → AreOffersGone (IsPrefixOf v (take i offers)) old new → AreOffersGone (IsPrefixOf v offers) old new
    gone_end old new all = subst (λ (os : List OfferedPrefix). AreOffersGone (IsPrefixOf v os) old new) (take_all i offers past) all

    pub come_end : (old new : IndexValue) → HaveOffersCome (IsOfferOf v (take i offers)) old new → HaveOffersCome (IsOfferOf v offers) old new
    come_end old new all = subst (λ (os : List OfferedPrefix). HaveOffersCome (IsOfferOf v os) old new) (take_all i offers past) all

-- ---- the whole index

module _ (old new : IndexValue) (v : Vertex) where
  pub taken_out : (offers : List OfferedPrefix) → offers ≡ offers_of (get old.offered v) → IsIndex old → new.offered ≡ remove old.offered v → AreOffersGone (IsPrefixOf v offers) old new → IsIndex new
  taken_out offers had index is gone w p metric =
      at_vertex (IsSource new w p metric ↔ Contains (offers_of (get new.offered w)) (offer_of p metric)) v w
      (λ same.
      let none : offers_of (get new.offered w) ≡ [] =
      ap (λ (x : Vertex). offers_of (get new.offered x)) same ∙ ap (λ m. offers_of (get m v)) is ∙ ap offers_of (gone_here vertex_total old.offered v) in
      let own : offers_of (get old.offered w) ≡ offers = ap (λ (x : Vertex). offers_of (get old.offered x)) same ∙ sym had in (
        λ c. let was = (gone w p metric).0 c in
            absurd (was.1 (same, (metric, subst (λ (os : List OfferedPrefix). Contains os (offer_of p metric)) own ((index w p metric).0 was.0)))),
        λ c. absurd (no_element _ (subst (λ (os : List OfferedPrefix). Contains os (offer_of p metric)) none c)),
      ))
      (λ other.
      let stays : offers_of (get new.offered w) ≡ offers_of (get old.offered w) =
      ap (λ m. offers_of (get m w)) is ∙ ap offers_of (gone_elsewhere vertex_total vertex_exact old.offered v w other) in (
        λ c. subst (λ (os : List OfferedPrefix). Contains os (offer_of p metric)) (sym stays) ((index w p metric).0 ((gone w p metric).0 c).0),
        λ c. (gone w p metric).1 ((index w p metric).1 (subst (λ (os : List OfferedPrefix). Contains os (offer_of p metric)) stays c), λ g. other g.0),
      ))

  pub put_there : (fresh : OfferedValue) → get old.offered v ≡ None → IsIndex old → new.offered ≡ insert old.offered v fresh → HaveOffersCome (IsOfferOf v fresh.offers) old new → IsIndex new
  put_there fresh absent index is come w p metric =
      at_vertex (IsSource new w p metric ↔ Contains (offers_of (get new.offered w)) (offer_of p metric)) v w
      (λ same.
      let own : offers_of (get new.offered w) ≡ fresh.offers =
      ap (λ (x : Vertex). offers_of (get new.offered x)) same ∙ ap (λ m. offers_of (get m v)) is ∙ ap offers_of (set_here vertex_total old.offered v fresh) in
      let none : offers_of (get old.offered w) ≡ [] = ap (λ (x : Vertex). offers_of (get old.offered x)) same ∙ ap offers_of absent in (
        λ c. subst (λ (os : List OfferedPrefix). Contains os (offer_of p metric)) (sym own) (elim ((come w p metric).0 c) [
          | inl was ↦ absurd (no_element _ (subst (λ (os : List OfferedPrefix). Contains os (offer_of p metric)) none ((index w p metric).0 was)))
          | inr one ↦ one.1
        ]),
        λ c. (come w p metric).1 (inr (same, subst (λ (os : List OfferedPrefix). Contains os (offer_of p metric)) own c)),
      ))
      (λ other.
      let stays : offers_of (get new.offered w) ≡ offers_of (get old.offered w) =
      ap (λ m. offers_of (get m w)) is ∙ ap offers_of (set_elsewhere vertex_total vertex_exact old.offered v w fresh other) in (
        λ c. subst (λ (os : List OfferedPrefix). Contains os (offer_of p metric)) (sym stays) (elim ((come w p metric).0 c) [ inl was ↦ (index w p metric).0 was | inr one ↦ absurd (other one.0) ]),
        λ c. (come w p metric).1 (inl ((index w p metric).1 (subst (λ (os : List OfferedPrefix). Contains os (offer_of p metric)) stays c))),
      ))

  -- where each prefix that is not named is offered alike
  pub touched_by : (before after : List Prefix) → IsIndex old → IsIndex new → ((w : Vertex) → w ≢ v → get new.offered w ≡ get old.offered w) → ((p : Prefix) → Contains before p → Contains after p)
      → AreAlike after (offers_of (get old.offered v)) (offers_of (get new.offered v)) → ArePrefixesAffected old new before after
  touched_by before after was is others kept alike = record {
    kept = kept;
    others = λ p out w metric.
        let same : Contains (offers_of (get old.offered w)) (offer_of p metric) ↔ Contains (offers_of (get new.offered w)) (offer_of p metric) =
        at_vertex (Contains (offers_of (get old.offered w)) (offer_of p metric) ↔ Contains (offers_of (get new.offered w)) (offer_of p metric)) v w
        (λ e. subst (λ (x : Vertex). Contains (offers_of (get old.offered x)) (offer_of p metric) ↔ Contains (offers_of (get new.offered x)) (offer_of p metric)) (sym e) (alike p metric out))
        (λ other. (
          subst (λ (os : List OfferedPrefix). Contains os (offer_of p metric)) (sym (ap offers_of (others w other))),
          subst (λ (os : List OfferedPrefix). Contains os (offer_of p metric)) (ap offers_of (others w other)),
        )) in
        (λ s. (was w p metric).1 (same.1 ((is w p metric).0 s)), λ s. (is w p metric).1 (same.0 ((was w p metric).0 s)));
  }

-- ---- two lists, offer by offer

-- the next of each differ, and both are named, or they are equal
pub alike_next : (named : List Prefix) (one other : OfferedPrefix) (more rest : List OfferedPrefix) → ((one ≡ other) ⊎ (Contains named one.prefix × Contains named other.prefix)) → AreAlike named more rest
    → AreAlike named (one ∷ more) (other ∷ rest)
alike_next named one other more rest step alike p metric out = (
  λ c. elim (first_or_later one (offer_of p metric) more c) [
    | inl e ↦ elim step [
      | inl same ↦ subst (Contains (other ∷ rest)) (sym (e ∙ same)) (first_element other rest)
      | inr both ↦ absurd (out (subst (Contains named) (sym (ap (λ (o : OfferedPrefix). o.prefix) e)) both.0))
    ]
    | inr later ↦ later_element other (offer_of p metric) rest ((alike p metric out).0 later)
  ],
  λ c. elim (first_or_later other (offer_of p metric) rest c) [
    | inl e ↦ elim step [
      | inl same ↦ subst (Contains (one ∷ more)) (sym (e ∙ sym same)) (first_element one more)
      | inr both ↦ absurd (out (subst (Contains named) (sym (ap (λ (o : OfferedPrefix). o.prefix) e)) both.1))
    ]
    | inr later ↦ later_element one (offer_of p metric) more ((alike p metric out).1 later)
  ],
)

rest_is : (x : OfferedPrefix) (xs : List OfferedPrefix) → take (length (x ∷ xs) - 1) (drop 1 (x ∷ xs)) ≡ xs
rest_is x xs = let e : length (x ∷ xs) - 1 ≡ length xs = omega arith in ap (λ (n : ℕ). take n xs) e ∙ take_all (length xs) xs (omega arith)

-- the first of each, and then the rest
pub alike_turn : (named : List Prefix) (left right : List OfferedPrefix) (one other : OfferedPrefix) → 1 ≤ length left → 1 ≤ length right → one ≡ get_or left 0 one → other ≡ get_or right 0 other
    → ((one ≡ other) ⊎ (Contains named one.prefix × Contains named other.prefix)) → AreAlike named (take (length left - 1) (drop 1 left)) (take (length right - 1) (drop 1 right)) → AreAlike named left right
alike_turn named [] right one other some any is at step alike = absurd (omega (arith, some))
alike_turn named (x ∷ xs) [] one other some any is at step alike = absurd (omega (arith, any))
alike_turn named (x ∷ xs) (y ∷ ys) one other some any is at step alike =
    let rest : AreAlike named xs ys = subst (λ (os : List OfferedPrefix). AreAlike named os ys) (rest_is x xs) (subst (λ (os : List OfferedPrefix). AreAlike named (take (length (x ∷ xs) - 1) (drop 1 (x ∷ xs))) os) (rest_is y ys) alike) in
    subst (λ (o : OfferedPrefix). AreAlike named (o ∷ xs) (y ∷ ys)) is (subst (λ (o : OfferedPrefix). AreAlike named (one ∷ xs) (o ∷ ys)) at (alike_next named one other xs ys step rest))

-- all that is left is named
pub alike_rest : (named : List Prefix) (left right : List OfferedPrefix) → ((p : Prefix) (metric : ℕ) → Contains left (offer_of p metric) → Contains named p) → ((p : Prefix) (metric : ℕ) → Contains right (offer_of p metric) → Contains named p)
    → AreAlike named left right
alike_rest named left right one other p metric out = (λ c. absurd (out (one p metric c)), λ c. absurd (out (other p metric c)))

pub touched_none : (i : IndexValue) (ps : List Prefix) → ArePrefixesAffected i i ps ps
touched_none i ps = record { kept = λ p c. c; others = λ p out w metric. (λ c. c, λ c. c) }

-- ---- where the one is changed otherwise too

module _ (v : Vertex) (offers same : List OfferedPrefix) (is : offers ≡ same) where
  pub come_kept : (old mid new : IndexValue) → mid.sources ≡ new.sources → HaveOffersCome (IsOfferOf v offers) old mid → HaveOffersCome (IsOfferOf v same) old new
  come_kept old mid new kept come = subst (HaveComeTo (IsOfferOf v same) old.sources) kept (subst (λ (os : List OfferedPrefix). HaveOffersCome (IsOfferOf v os) old mid) is come)

  pub gone_kept : (old mid new : IndexValue) → mid.sources ≡ old.sources → AreOffersGone (IsPrefixOf v offers) mid new → AreOffersGone (IsPrefixOf v same) old new
  gone_kept old mid new kept gone = subst (λ (s : SourcesByPrefix). AreGoneFrom (IsPrefixOf v same) s new.sources) kept (subst (λ (os : List OfferedPrefix). AreOffersGone (IsPrefixOf v os) mid new) is gone)

-- ---- what represents a vertex

body_is : (o : Option (Bor Lsa)) → option_map (λ (l : Bor Lsa). l.now.body) o ≡ body_of (option_copied o)
body_is None = refl
body_is (Some l) = refl

-- what is offered by the LSA that stands for the vertex
pub taken_from : (d e : Database) (v : Vertex) (lsa : Option (Bor Lsa)) (offered : Option OfferedValue) → e ≡ d → IsStanding e v (option_map (λ (l : Bor Lsa). l.now.body) lsa) → IsOfferedFor v (body_of (option_copied lsa)) offered
    → (body : Option Body) × IsStanding d v body × IsOfferedFor v body offered
taken_from d e v lsa offered same stands is = (body_of (option_copied lsa), subst (λ (x : Database). IsStanding x v (body_of (option_copied lsa))) same (subst (IsStanding e v) (body_is lsa) stands), is)
