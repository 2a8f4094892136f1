-- Where vertices lead once some were given.
use Rattle.std.proofs.Common.{◌≡◌, ◌≢◌, ◌⊎◌, inl, inr, ⊎_elim, ℕ, ◌+◌, ◌<◌, List, [], ◌∷◌, length, get_or, take, cond, arith, ◌≤◌, Bor, Bool, true, false, Option, Some, None, refl, sym, ap, subst, ◌∙◌}
use Rattle.std.specs.Prelude.{◌↔◌, ◌&&◌, Contains, IsSome, option_map}
use Rattle.std.specs.FinMap.{get, find}
use Rattle.std.proofs.lemmas.List.{take_all, length-map, get_or-map, length-take-le, get_or-take, get_or_default}
use Rattle.std.specs.Global.{Vec}
use Rattle.std.specs.Cmp.Lexicographic.{pointwise}
use Rattle.std.proofs.lemmas.Bool.{false≢true}
use Rattle.std.proofs.lemmas.Map.Views.{tells_apart}
use Rattle.lsa_codec.specs.declared.checked.Checked.{Checked}
use Rattle.std.specs.Map.{lookup}
use Rattle.std.specs.List.Sorted.{IsStrictlySortedBy}
use Rattle.ospf_types.specs.declared.entry.Vertex.{Vertex}
use Rattle.ospf_types.specs.declared.entry.Vertex.TheVariants.{Router, Network}
use Rattle.ospf_types.specs.Lsa.{Body}
use Rattle.ospf_types.proofs.Elements.{no_element, first_element, later_element, first_or_later}
use Rattle.graph_links.specs.declared.link_end.LinkEnd.{LinkEnd}
use Rattle.graph_links.specs.contracts.link_end.LinkEndPartialEq.TheImpl as end_equality
use Rattle.graph_links.specs.Pairs.{Names}
use Rattle.graph_links.specs.EndOrder.{end_cmp, listed_end}
use Rattle.vertex_graph.specs.Ends.{AreEnds}
use Rattle.vertex_graph.specs.Graphs.{GraphValue, Handed, handed_of, AreApartHanded, AreFewAfter, HasFewRouters, HasEnds, IsThereAfter, IsReplaced}
use Rattle.ospf_types.specs.Vertices.{vertex_cmp}
use Rattle.graph_links.specs.Sides.{Leading, RowList, StagedList, row_ends, staged_or, ends_after, ends_or, IsInOrder}
use Rattle.vertex_graph.specs.Stagings.{IsHandedIn, IsGivenEnds, IsStaged, AreTouched, AreVerticesWithin, TouchesOthers}
use Rattle.graph_links.proofs.EndOrders.{end_exact, end_tied}
use Rattle.graph_links.proofs.Growing.{more, more_at}
use Rattle.graph_links.proofs.VertexTests.{equals, one_or_other, found_after, found_own, found_other}

-- whether a vertex is given
abbrev WasHandedIn : List Handed → Vertex → Type 0
WasHandedIn handed v = (given : Option Body) × Contains handed (v, given)

pub handed_or_not : (handed : List Handed) (v : Vertex) → WasHandedIn handed v ⊎ ((given : Option Body) → Contains handed (v, given) → ⊥)
handed_or_not [] v = inr (λ given h. no_element (v, given) h)
handed_or_not (h ∷ hs) v =
    ⊎_elim (λ (same : v ≡ h.0). inl (h.1, subst (λ u. Contains (h ∷ hs) (u, h.1)) (sym same) (first_element h hs)))
    (λ (other : v ≢ h.0). ⊎_elim (λ (there : WasHandedIn hs v). inl (there.0, later_element h (v, there.0) hs there.1))
    (λ (none : (given : Option Body) → Contains hs (v, given) → ⊥). inr (λ given c. ⊎_elim (λ (e : (v, given) ≡ h). other (ap (λ (p : Handed). p.0) e)) (λ (later : Contains hs (v, given)). none given later) (first_or_later h (v, given) hs c)))
    (handed_or_not hs v)) (one_or_other v h.0)

-- no ends are in order
sorted_or : (o : Option (List LinkEnd)) → ((ends : List LinkEnd) → o ≡ Some ends → IsStrictlySortedBy end_cmp ends) → IsStrictlySortedBy end_cmp (ends_or o)
unfolding IsStrictlySortedBy
sorted_or None sorted = tt
sorted_or (Some ends) sorted = sorted ends refl

-- a vertex of a graph leads to ends in order
pub graph_in_order : (g : GraphValue) (leading : Leading) → ((v : Vertex) → get g.ends v ≡ leading v) → HasEnds g → IsInOrder leading
graph_in_order g leading leads has v = sorted_or (leading v) (λ ends is. has.in_order v ends (leads v ∙ is))

abbrev IsListed : Vertex → List LinkEnd → Type 0
IsListed v ends = (n : ℕ) (e : LinkEnd) → v ≡ Network n → Contains ends e → (router : ℕ) × (e ≡ listed_end router)

ends_listed : (v : Vertex) (body : Body) (ends : List LinkEnd) → AreEnds v body ends → IsListed v ends
ends_listed (Router r) body ends are n e is there = absurd cc
ends_listed (Network m) body ends are n e is there = let led = (are.exact e).0 there in (led.0, led.2)

module _ (old : GraphValue) (before after : Leading) (handed : List Handed) (has : HasEnds old) (leads : (v : Vertex) → get old.ends v ≡ before v) (h : IsHandedIn before after handed) where
  -- what a vertex that was given leads to
  given_ends : (v : Vertex) (given : Option Body) → Contains handed (v, given) → (ends : List LinkEnd) → after v ≡ Some ends → (body : Body) × (given ≡ Some body) × AreEnds v body ends
  given_ends v None there ends is = let e : None ≡ Some ends = sym (h.away v there) ∙ is in absurd cc
  given_ends v (Some body) there ends is =
      let own = h.there v body there in
      let e : Some own.0 ≡ Some ends = sym own.1 ∙ is in
      let same : own.0 ≡ ends = cc in
      (body, refl, subst (AreEnds v body) same own.2)

  after_in_order : (v : Vertex) (ends : List LinkEnd) → after v ≡ Some ends → IsStrictlySortedBy end_cmp ends
  after_in_order v ends is =
      ⊎_elim (λ (there : WasHandedIn handed v). (given_ends v there.0 there.1 ends is).2.in_order)
      (λ (none : (given : Option Body) → Contains handed (v, given) → ⊥). has.in_order v ends (leads v ∙ sym (h.others v none) ∙ is)) (handed_or_not handed v)

  after_listed : (v : Vertex) (ends : List LinkEnd) → after v ≡ Some ends → IsListed v ends
  after_listed v ends is n e network there =
      ⊎_elim (λ (handed_in : WasHandedIn handed v). let own = given_ends v handed_in.0 handed_in.1 ends is in ends_listed v own.0 ends own.2 n e network there)
      (λ (none : (given : Option Body) → Contains handed (v, given) → ⊥). has.listed n ends e (ap (get old.ends) (sym network) ∙ leads v ∙ sym (h.others v none) ∙ is) there) (handed_or_not handed v)

  pub handed_in_order : IsInOrder after
  handed_in_order v = sorted_or (after v) (after_in_order v)

  module _ (new : GraphValue) (leads_new : (v : Vertex) → get new.ends v ≡ after v) where
    pub handed_ends : HasEnds new
    handed_ends = record {
      in_order = λ v ends is. after_in_order v ends (sym (leads_new v) ∙ is);
      listed = λ n ends e is there. after_listed (Network n) ends (sym (leads_new (Network n)) ∙ is) n e refl there;
    }

    there_after : (v : Vertex) (given : Option Body) → Contains handed (v, given) → IsSome (get new.ends v) → IsThereAfter old handed v
    there_after v None there is = let none : IsSome {T = List LinkEnd} None = subst IsSome (leads_new v ∙ h.away v there) is in absurd cc
    there_after v (Some body) there is = inl (body, there)

    pub handed_few : AreFewAfter old handed → HasFewRouters new
    handed_few few routers apart are = few routers apart (λ r c.
        let is = are r c in
        ⊎_elim (λ (there : WasHandedIn handed (Router r)). there_after (Router r) there.0 there.1 is)
        (λ (none : (given : Option Body) → Contains handed (Router r, given) → ⊥). inr (none, subst IsSome (leads_new (Router r) ∙ h.others (Router r) none ∙ sym (leads (Router r))) is)) (handed_or_not handed (Router r)))

    pub handed_replaced : new.root ≡ old.root → new.interfaces ≡ old.interfaces → IsReplaced old new handed
    handed_replaced root interfaces = record {
      there = λ v body c. let own = h.there v body c in (own.0, leads_new v ∙ own.1, own.2);
      away = λ v c. leads_new v ∙ h.away v c;
      others = λ v none. leads_new v ∙ h.others v none ∙ sym (leads v);
      root = root;
      interfaces = interfaces;
    }

-- ---- staged one after another

-- what is staged of those that were given so far
pub record IsStagedUpTo (rows : RowList) (staged : StagedList) (handed : List Handed) : Type 0 where
  pub there : (v : Vertex) (body : Body) → Contains handed (v, Some body) → (ends : List LinkEnd) × (ends_after rows staged v ≡ Some ends) × AreEnds v body ends
  pub away : (v : Vertex) → Contains handed (v, None) → ends_after rows staged v ≡ None
  pub unstaged : (v : Vertex) → ((given : Option Body) → Contains handed (v, given) → ⊥) → find vertex_cmp v staged ≡ None

pub staged_none : (rows : RowList) → IsStagedUpTo rows [] []
staged_none rows = record {
  there = λ v body c. absurd (no_element (v, Some body) c);
  away = λ v c. absurd (no_element (v, None) c);
  unstaged = λ v none. refl;
}

pub staged_all : (rows : RowList) (staged : StagedList) (handed : List Handed) → IsStagedUpTo rows staged handed → IsHandedIn (row_ends rows) (ends_after rows staged) handed
staged_all rows staged handed h = record {
  there = h.there;
  away = h.away;
  others = λ v none. ap (λ o. staged_or o (row_ends rows v)) (h.unstaged v none);
}

ends_there : (v : Vertex) (body : Body) (ends : Option (List LinkEnd)) → IsGivenEnds v (Some body) ends → (es : List LinkEnd) × (ends ≡ Some es) × AreEnds v body es
ends_there v body None given = absurd given
ends_there v body (Some ends) given = (ends, refl, given)

module _ (rows : RowList) (old new : StagedList) (done more : List Handed) (v : Vertex) (given : Option Body) (ends : Option (List LinkEnd)) (h : IsStagedUpTo rows old done)
    (apart : (other : Option Body) → Contains done (v, other) → ⊥) (all : (p : Handed) → Contains more p ↔ (Contains done p ⊎ (p ≡ (v, given)))) (is : IsGivenEnds v given ends) (staged : IsStaged rows v ends old new) where
  kept : (w : Vertex) (other : Option Body) → Contains done (w, other) → ends_after rows new w ≡ ends_after rows old w
  kept w other c = ap (λ o. staged_or o (row_ends rows w)) (staged.others w (λ same. apart other (subst (λ u. Contains done (u, other)) same c)))

  pub staged_more : IsStagedUpTo rows new more
  staged_more = record {
    there = λ w body c.
        ⊎_elim (λ (early : Contains done (w, Some body)). let own = h.there w body early in (own.0, kept w (Some body) early ∙ own.1, own.2))
        (λ (e : (w, Some body) ≡ (v, given)).
        let vertex : w ≡ v = ap (λ (p : Handed). p.0) e in
        let own = ends_there v body ends (subst (λ g. IsGivenEnds v g ends) (sym (ap (λ (p : Handed). p.1) e)) is) in
        (own.0, ap (ends_after rows new) vertex ∙ staged.own ∙ own.1, subst (λ u. AreEnds u body own.0) (sym vertex) own.2)) ((all (w, Some body)).0 c);
    away = λ w c.
        ⊎_elim (λ (early : Contains done (w, None)). kept w None early ∙ h.away w early)
        (λ (e : (w, None) ≡ (v, given)). ap (ends_after rows new) (ap (λ (p : Handed). p.0) e) ∙ staged.own ∙ subst (λ g. IsGivenEnds v g ends) (sym (ap (λ (p : Handed). p.1) e)) is) ((all (w, None)).0 c);
    unstaged = λ w none.
        staged.others w (λ same. none given ((all (w, given)).1 (inr (ap (λ u. (u, given)) same))))
        ∙ h.unstaged w (λ other c. none other ((all (w, other)).1 (inl c)));
  }

-- a vertex was not given before, if none is given twice
pub not_before : (handed : List Handed) (i : ℕ) (p : Handed) → AreApartHanded handed → i < length handed → get_or handed i p ≡ p → (other : Option Body) → Contains (take i handed) (p.0, other) → ⊥
not_before handed i p apart within at other c =
    let short : length (take i handed) ≡ i = length-take-le i handed (omega arith) in
    let within_front : c.0 < i = omega (arith, c.1) in
    let e : get_or handed c.0 (p.0, other) ≡ (p.0, other) = sym (get_or-take i handed c.0 (p.0, other) within_front) ∙ c.2 in
    apart c.0 i (p.0, other) within_front within (ap (λ (q : Handed). q.0) e ∙ sym (ap (λ (q : Handed). q.0) (get_or_default handed i (p.0, other) p within ∙ at)))

-- ---- what is touched

module _ (rows : RowList) (v : Vertex) (ends : Option (List LinkEnd)) (old new : StagedList) (touched touched_new : List Vertex) (staged : IsStaged rows v ends old new) (before : AreTouched (row_ends rows) (ends_after rows old) touched)
    (own : Contains touched_new v) (within : AreVerticesWithin touched touched_new) (gone : TouchesOthers (ends_or (row_ends rows v)) (ends_or ends) touched_new) (came : TouchesOthers (ends_or ends) (ends_or (row_ends rows v)) touched_new) where
  other_ends : (w : Vertex) → w ≢ v → ends_after rows new w ≡ ends_after rows old w
  other_ends w apart = ap (λ o. staged_or o (row_ends rows w)) (staged.others w apart)

  -- an end at a vertex that is not touched is in both lists or in none
  in_both : (u : Vertex) → (Contains touched_new u → ⊥) → (e : LinkEnd) → e.to ≡ u → Contains (ends_or (row_ends rows v)) e ↔ Contains (ends_or ends) e
  in_both u apart e at = (
    λ c. ⊎_elim (λ (both : Contains (ends_or ends) e). both) (λ (t : Contains touched_new e.to). absurd (apart (subst (Contains touched_new) at t))) (gone e c),
    λ c. ⊎_elim (λ (both : Contains (ends_or (row_ends rows v)) e). both) (λ (t : Contains touched_new e.to). absurd (apart (subst (Contains touched_new) at t))) (came e c),
  )

  pub touched_more : AreTouched (row_ends rows) (ends_after rows new) touched_new
  touched_more = record {
    own = λ u apart. other_ends u (λ same. apart (subst (Contains touched_new) (sym same) own)) ∙ before.own u (λ t. apart (within u t));
    named = λ u w apart e at.
        ⊎_elim (λ (same : w ≡ v).
        subst (λ (o : Option (List LinkEnd) × Option (List LinkEnd)). Contains (ends_or o.0) e ↔ Contains (ends_or o.1) e) (λ i. (row_ends rows (sym same i), (sym staged.own ∙ ap (ends_after rows new) (sym same)) i)) (in_both u apart e at))
        (λ (other : w ≢ v). subst (λ (o : Option (List LinkEnd)). Contains (ends_or (row_ends rows w)) e ↔ Contains (ends_or o) e) (sym (other_ends w other)) (before.named u w (λ t. apart (within u t)) e at)) (one_or_other w v);
  }

-- another list of the same vertices
pub touched_alike : (before after : Leading) (touched touched_new : List Vertex) → AreTouched before after touched → ((v : Vertex) → Contains touched_new v ↔ Contains touched v) → AreTouched before after touched_new
touched_alike before after touched touched_new are same = record {
  own = λ v apart. are.own v (λ t. apart ((same v).1 t));
  named = λ v w apart. are.named v w (λ t. apart ((same v).1 t));
}

pub touched_none : (rows : RowList) (touched : List Vertex) → AreTouched (row_ends rows) (ends_after rows []) touched
touched_none rows touched = record {
  own = λ v apart. refl;
  named = λ v w apart e at. (λ h. h, λ h. h);
}

pub touches_none : (others : List LinkEnd) (touched : List Vertex) → TouchesOthers [] others touched
touches_none others touched e there = absurd (no_element e there)

pub touches_more : (ends others : List LinkEnd) (i : ℕ) (d : LinkEnd) (touched touched_new : List Vertex) → i < length ends → TouchesOthers (take i ends) others touched → AreVerticesWithin touched touched_new
    → Contains others (get_or ends i d) ⊎ Contains touched_new (get_or ends i d).to → TouchesOthers (take (i + 1) ends) others touched_new
touches_more ends others i d touched touched_new inside before within one e there =
    ⊎_elim (λ (early : Contains (take i ends) e). ⊎_elim (λ (c : Contains others e). inl c) (λ (t : Contains touched e.to). inr (within e.to t)) (before e early))
    (λ (same : e ≡ get_or ends i d). subst (λ (end : LinkEnd). Contains others end ⊎ Contains touched_new end.to) (sym same) one) ((more_at ends i d inside e).0 there)

-- what is touched stays touched
pub touches_within : (ends others : List LinkEnd) (touched touched_new : List Vertex) → AreVerticesWithin touched touched_new → TouchesOthers ends others touched → TouchesOthers ends others touched_new
touches_within ends others touched touched_new within before e there = ⊎_elim (λ (c : Contains others e). inl c) (λ (t : Contains touched e.to). inr (within e.to t)) (before e there)

pub touches_as : (ends ends_new others others_new : List LinkEnd) (touched : List Vertex) → ends ≡ ends_new → others ≡ others_new → TouchesOthers ends others touched → TouchesOthers ends_new others_new touched
touches_as ends ends_new others others_new touched first second before = subst (λ (p : List LinkEnd × List LinkEnd). TouchesOthers p.0 p.1 touched) (λ i. (first i, second i)) before

-- an insert stages
pub staged_by : (rows : RowList) (old new : StagedList) (v : Vertex) (given : Option (Vec LinkEnd)) → ((w : Vertex) → lookup (equals w) new ≡ cond (equals v w) (Some given) (lookup (equals w) old)) → IsStaged rows v (option_map (λ (ends : Vec LinkEnd). ends.items) given) old new
staged_by rows old new v given updates =
    let found = found_after old new v (Some given) updates in
    record {
      own = ap (λ o. staged_or o (row_ends rows v)) (found_own old new v (Some given) found);
      others = found_other old new v (Some given) found;
    }

-- ---- one more of a slice

module _ (rows : RowList) (lsas : List (Vertex × Option (Bor Checked))) (i : ℕ) (x : Vertex × Option (Bor Checked)) (old : StagedList) (apart : AreApartHanded (handed_of lsas)) (inside : i < length lsas) (at : x ≡ get_or lsas i x)
    (h : IsStagedUpTo rows old (take i (handed_of lsas))) where
  abbrev body_at : Vertex × Option (Bor Checked) → Handed
  body_at p = (p.0, option_map (λ (lsa : Bor Checked). lsa.now.body) p.1)

  inside_handed : i < length (handed_of lsas)
  inside_handed = omega (arith, inside, length-map lsas body_at)

  at_handed : get_or (handed_of lsas) i (body_at x) ≡ body_at x
  at_handed = get_or-map body_at lsas i x (body_at x) inside ∙ ap body_at (sym at)

  new_one : (given : Option Body) → Contains (take i (handed_of lsas)) (x.0, given) → ⊥
  new_one = not_before (handed_of lsas) i (body_at x) apart inside_handed at_handed

  pub is_new : find vertex_cmp x.0 old ≡ None
  is_new = h.unstaged x.0 new_one

  pub slice_more : (ends : Option (List LinkEnd)) (new : StagedList) → IsGivenEnds x.0 (option_map (λ (lsa : Bor Checked). lsa.now.body) x.1) ends → IsStaged rows x.0 ends old new → IsStagedUpTo rows new (take (i + 1) (handed_of lsas))
  slice_more ends new given staged = staged_more rows old new (take i (handed_of lsas)) (take (i + 1) (handed_of lsas)) x.0 (body_at x).1 ends h new_one (more (handed_of lsas) i (body_at x) inside_handed at_handed) given staged

pub slice_none : (rows : RowList) (staged : StagedList) (touched : List Vertex) → staged ≡ [] → IsStagedUpTo rows staged [] × AreTouched (row_ends rows) (ends_after rows staged) touched
slice_none rows staged touched none = subst (λ (s : StagedList). IsStagedUpTo rows s [] × AreTouched (row_ends rows) (ends_after rows s) touched) (sym none) (staged_none rows, touched_none rows touched)

pub slice_all : (rows : RowList) (lsas : List (Vertex × Option (Bor Checked))) (i : ℕ) (staged : StagedList) → length lsas ≤ i → IsStagedUpTo rows staged (take i (handed_of lsas)) → IsHandedIn (row_ends rows) (ends_after rows staged) (handed_of lsas)
slice_all rows lsas i staged past h =
    staged_all rows staged (handed_of lsas) (subst (IsStagedUpTo rows staged) (take_all i (handed_of lsas) (omega (arith, past, length-map {B = Handed} lsas (λ (p : Vertex × Option (Bor Checked)). (p.0, option_map (λ (lsa : Bor Checked). lsa.now.body) p.1))))) h)

-- where nothing is the other list, all vertices that are named are touched
pub named_touched : (ends named : List LinkEnd) (touched : List Vertex) → ends ≡ named → TouchesOthers ends [] touched → (v : Vertex) → Names named v → Contains touched v
named_touched ends named touched same touches v names =
    subst (Contains touched) names.2 (⊎_elim (λ (n : Contains [] names.0). absurd (no_element names.0 n)) (λ (t : Contains touched names.0.to). t) (touches names.0 (subst (λ (es : List LinkEnd). Contains es names.0) (sym same) names.1)))

-- ends that `==` finds equal are equal
both_true : (a b : Bool) → a && b ≡ true → (a ≡ true) × (b ≡ true)
both_true true b e = (refl, e)
both_true false b e = absurd (false≢true e)

pub same_ends : (xs ys : List LinkEnd) → pointwise (end_equality.eq-value).it xs ys ≡ true → xs ≡ ys
same_ends [] [] e = refl
same_ends [] (y ∷ ys) e = absurd (false≢true e)
same_ends (x ∷ xs) [] e = absurd (false≢true e)
same_ends (x ∷ xs) (y ∷ ys) e =
    let both = both_true ((end_equality.eq-value).it x y) (pointwise (end_equality.eq-value).it xs ys) e in
    (λ i. tells_apart end_exact x y (sym (end_tied x y) ∙ both.0) i ∷ same_ends xs ys both.1 i)
