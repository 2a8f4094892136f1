-- The update of each area in turn, place by place.
use Rattle.std.proofs.Common.{◌≡◌, ◌≢◌, ℕ, ◌+◌, ◌<◌, ◌≤◌, List, length, get_or, set, refl, sym, ap, subst, ◌∙◌, ◌⊎◌, inl, inr, arith}
use Rattle.std.specs.Prelude.{◌↔◌}
use Rattle.std.specs.FinMap.{get}
use Rattle.std.specs.List.{Contains}
use Rattle.std.proofs.lemmas.Bool.{cases_eq}
use Rattle.std.proofs.lemmas.List.{get_or-set_same, get_or-set_other, get_or_default, length-set, with_items_is}
use Rattle.std.specs.Global.{Vec}
use Rattle.std.specs.Vec.{with_items}
use Rattle.ospf_types.specs.declared.entry.Vertex.{Vertex}
use Rattle.ospf_types.specs.declared.prefix.Prefix.{Prefix}
use Rattle.ospf_types.specs.declared.key.Key.{Key}
use Rattle.ospf_types.specs.declared.key.Scope.{Scope}
use Rattle.ospf_types.specs.declared.key.Scope.TheVariants.{Area}
use Rattle.ospf_types.proofs.Elements.{no_element}
use Rattle.lsdb.specs.Databases.{Database}
use Rattle.intra.specs.Indexes.{IsAreaIndexOf}
use Rattle.intra.specs.Inputs.{AreaValue}
use Rattle.intra.specs.Intras.{AreaIntraValue}
use Rattle.intra.specs.Following.{IsIndexFollowed, AreRoutersUpdated, IsRouterNamed, LsasDifferAmong, with_index_of}
use Rattle.intra.specs.Updating.{AreFirst, IsFollowed, AreRoutersSettled, IsBroughtTo, IsKeptBefore, HasOtherAmong}

-- nothing is done yet
pub first_none : (P : AreaValue → AreaIntraValue → AreaIntraValue → Type 0) (areas : List AreaValue) (old : List AreaIntraValue) → AreFirst P areas old old 0
first_none P areas old = record { as_many = refl; each = λ k a i j lt. absurd (omega (arith, lt)); rest = λ k i le. refl }

-- it is done at one more place
pub first_more : (P : AreaValue → AreaIntraValue → AreaIntraValue → Type 0) (areas : List AreaValue) (old now : List AreaIntraValue) (place : ℕ) (a : AreaValue) (i j : AreaIntraValue)
    → place < length areas → place < length now → a ≡ get_or areas place a → i ≡ get_or now place i → P a i j → AreFirst P areas old now place → AreFirst P areas old (set now place j) (place + 1)
first_more P areas old now place a i j there within at here done first = record {
  as_many = length-set now place j ∙ first.as_many;
  each = λ k b x y lt. elim (cases_eq k place) [
    | inl e ↦
        let area : get_or areas k b ≡ a = ap (λ (n : ℕ). get_or areas n b) e ∙ get_or_default areas place b a there ∙ sym at in
        let was : get_or old k x ≡ i = ap (λ (n : ℕ). get_or old n x) e ∙ sym (first.rest place x (omega arith)) ∙ get_or_default now place x i within ∙ sym here in
        let is : get_or (set now place j) k y ≡ j = ap (λ (n : ℕ). get_or (set now place j) n y) e ∙ get_or-set_same now place j y within in
        subst (λ (z : AreaIntraValue). P (get_or areas k b) (get_or old k x) z) (sym is)
        (subst (λ (z : AreaIntraValue). P (get_or areas k b) z j) (sym was) (subst (λ (z : AreaValue). P z i j) (sym area) done))
    | inr other ↦
        let before : k < place = omega (arith, lt, other) in
        subst (λ (z : AreaIntraValue). P (get_or areas k b) (get_or old k x) z) (sym (get_or-set_other now place k j y other)) (first.each k b x y before)
  ];
  rest = λ k x le. get_or-set_other now place k j x (λ e. absurd (let same : k ≡ place = e in omega (arith, le))) ∙ first.rest k x (omega (arith, le));
}

-- what follows at each place
pub first_weaker : (P Q : AreaValue → AreaIntraValue → AreaIntraValue → Type 0) (areas : List AreaValue) (old new : List AreaIntraValue) (count : ℕ)
    → ((a : AreaValue) (i j : AreaIntraValue) → P a i j → Q a i j) → AreFirst P areas old new count → AreFirst Q areas old new count
first_weaker P Q areas old new count weaker first = record {
  as_many = first.as_many;
  each = λ k a i j lt. weaker (get_or areas k a) (get_or old k i) (get_or new k j) (first.each k a i j lt);
  rest = first.rest;
}

-- there are more prefixes
pub followed_grown : (root : ℕ) (vertices : List (ℕ × Vertex)) (interfaces : List ℕ) (ps qs : List Prefix) → ((p : Prefix) → Contains ps p → Contains qs p)
    → (a : AreaValue) (i j : AreaIntraValue) → IsFollowed root vertices interfaces ps a i j → IsFollowed root vertices interfaces qs a i j
followed_grown root vertices interfaces ps qs more a i j is =
    let was = is.gathered in
    record {
      index = is.index;
      gathered = record {
        id = was.id;
        reached = was.reached;
        touched = record { kept = λ p c. more p (was.touched.kept p c); others = λ p absent. was.touched.others p (λ c. absent (more p c)) };
        named = λ v c p metric s. more p (was.named v c p metric s);
        own = λ id c p metric s. more p (was.own id c p metric s);
      };
    }

pub brought_grown : (root : ℕ) (keys : List (Scope × Key)) (vertices : List (ℕ × Vertex)) (interfaces : List ℕ) (ps qs : List Prefix) → ((p : Prefix) → Contains ps p → Contains qs p)
    → (a : AreaValue) (i j : AreaIntraValue) → IsBroughtTo root keys vertices interfaces ps a i j → IsBroughtTo root keys vertices interfaces qs a i j
brought_grown root keys vertices interfaces ps qs more a i j is = record { followed = followed_grown root vertices interfaces ps qs more a i (with_index_of i j) is.followed; settled = is.settled }

-- those of one more area
pub other_more : (old now : List AreaIntraValue) (place router : ℕ) (i j : AreaIntraValue) → place < length now → i ≡ get_or now place i → ((k : ℕ) (x : AreaIntraValue) → place ≤ k → get_or now k x ≡ get_or old k x)
    → HasOtherAmong (place + 1) old (set now place j) router ↔ (HasOtherAmong place old now router ⊎ (get j.reached router ≢ get i.reached router))
other_more old now place router i j within here rest = (
  λ w. elim (cases_eq w.0 place) [
    | inl e ↦
        inr (λ same. w.2 i (ap (λ (n : ℕ). get (get_or (set now place j) n i).reached router) e ∙ ap (λ (z : AreaIntraValue). get z.reached router) (get_or-set_same now place j i within) ∙ same ∙ sym (was w.0 e i)))
    | inr other ↦ inl (w.0, omega (arith, other, w.1), λ x same. w.2 x (ap (λ (z : AreaIntraValue). get z.reached router) (get_or-set_other now place w.0 j x other) ∙ same))
  ],
  λ w. elim w [
    | inl before ↦
        let lt : before.0 < place = before.1 in
        let apart : before.0 ≢ place = λ e. absurd (let same : before.0 ≡ place = e in omega (arith, lt)) in
        (before.0, omega (arith, lt), λ x same. before.2 x (sym (ap (λ (z : AreaIntraValue). get z.reached router) (get_or-set_other now place before.0 j x apart)) ∙ same))
    | inr differs ↦
        (place, omega arith, λ x same. differs (sym (ap (λ (z : AreaIntraValue). get z.reached router) (get_or-set_same now place j x within)) ∙ same ∙ was place refl x))
  ],
)
  where
    was : (k : ℕ) → k ≡ place → (x : AreaIntraValue) → get (get_or old k x).reached router ≡ get i.reached router
    was k e x = ap (λ (n : ℕ). get (get_or old n x).reached router) e ∙ ap (λ (z : AreaIntraValue). get z.reached router) (sym (rest place x (omega arith)) ∙ get_or_default now place x i within ∙ sym here)

-- what one area gathered
pub followed_from : (root : ℕ) (vertices : List (ℕ × Vertex)) (interfaces : List ℕ) (before after : List Prefix) (a : AreaValue) (i j : AreaIntraValue) → IsAreaIndexOf a.lsas j.index
    → IsIndexFollowed root vertices interfaces i j before after → IsFollowed root vertices interfaces after a i j
followed_from root vertices interfaces before after a i j index was = record {
  index = index;
  gathered = record {
    id = was.id;
    reached = was.reached;
    touched = record { kept = λ p c. absurd (no_element p c); others = was.touched.others };
    named = was.named;
    own = was.own;
  };
}

-- what a step settled
pub settled_from : (root : ℕ) (keys : List (Scope × Key)) (vertices : List (ℕ × Vertex)) (before after : List ℕ) (a : AreaValue) (i j : AreaIntraValue)
    → AreRoutersUpdated root a (IsRouterNamed keys vertices i.id) i j before after → AreRoutersSettled root keys vertices a i j
settled_from root keys vertices before after a i j is = record {
  id = is.id;
  index = is.index;
  each = λ r. elim (is.each r) [ inl now ↦ inl now.0 | inr kept ↦ inr kept ];
}

-- the index of an area belonged to a database, from which the area's differs in no more than is
-- named
pub kept_before : (root : ℕ) (keys : List (Scope × Key)) (vertices : List (ℕ × Vertex)) (a : AreaValue) (i : AreaIntraValue) → IsKeptBefore root keys vertices a i
    → (before : Database) × IsAreaIndexOf before i.index × LsasDifferAmong keys i.id before a.lsas
kept_before root keys vertices a i is =
    (is.0.lsas, is.1.index, λ key absent. is.2.lsas key (λ c. absent (subst (λ (id : ℕ). Contains keys (Area id, key)) (sym is.1.id) c)))

-- ---- the areas of a Vec, as a slice

-- a Vec whose items a slice of its length replaced
pub items_of_slice : {X : Type 0} (v : Vec X) (xs : List X) → length xs ≡ length v.items → (with_items v xs).items ≡ xs
items_of_slice v xs e = with_items_is v xs (e ∙ sym v.ok.0)

-- under other names of equal lists
pub first_at : (P : AreaValue → AreaIntraValue → AreaIntraValue → Type 0) (areas : List AreaValue) (count : ℕ) {old was new is : List AreaIntraValue} → old ≡ was → new ≡ is → AreFirst P areas old new count → AreFirst P areas was is count
first_at P areas count {old} {was} {new} {is} before after first = subst (λ (l : List AreaIntraValue). AreFirst P areas was l count) after (subst (λ (l : List AreaIntraValue). AreFirst P areas l new count) before first)

pub other_at : (count router : ℕ) {T : Type 0} {old was new is : List AreaIntraValue} → old ≡ was → new ≡ is → T ↔ HasOtherAmong count old new router → T ↔ HasOtherAmong count was is router
other_at count router {T} {old} {was} {new} {is} before after same =
    subst (λ (l : List AreaIntraValue). T ↔ HasOtherAmong count was l router) after (subst (λ (l : List AreaIntraValue). T ↔ HasOtherAmong count l new router) before same)
