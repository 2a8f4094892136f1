-- The area whose summaries are examined, as it is found (RFC 2328, 16.2).
--   all_left, one_left, one_up, last_left, left_up, last_up, none_up: whether one of the
--     interfaces is up in an area, one by one
--   none_found, none_more, first_found: the areas that have an interface that is up, one by one
--   one_examined, not_examined: what is examined where there is one at most
--   backbone_examined, no_backbone: and where there is another
use Rattle.std.proofs.Common.{◌≡◌, ◌≢◌, ℕ, false, ◌+◌, ◌<◌, min, List, [], ◌∷◌, ◌++◌, length, get_or, take, drop, Option, Some, None, refl, sym, ap, subst, ◌∙◌, inl, inr, ⊎_elim, arith}
use Rattle.std.specs.Prelude.{IsTrue, is_some, IsSome, IfSome, IfNone}
use Rattle.std.specs.List.{Contains}
use Rattle.std.proofs.lemmas.List.{get_or-take, get_or_default, length-take, take-append-drop}
use Rattle.std.proofs.lemmas.List.Elements.{Contains-append_left, Contains-push}
use Rattle.ospf_types.specs.declared.config.AreaConfig.{AreaConfig}
use Rattle.ospf_types.specs.declared.config.Interface.{Interface}
use Rattle.ospf_types.specs.Inputs.{Area, IsActive, IsBorder}
use Rattle.ospf_types.specs.Ranges.{IsExamined}
use Rattle.ospf_types.proofs.Elements.{no_element, first_element, later_element, first_or_later, mapped_element, mapped_from}
use Rattle.spf.proofs.OfSome.{contains_at, contains_more}
use Rattle.event_state.specs.States.{State, AreAreasApart, inputs_of}
use Rattle.route_layers.specs.Layers.{IsUpAmong, IsUpIn}
use Rattle.route_layers.specs.Works.{area_of}

-- ---- an interface that is up

-- those that are left are some of all, and if one of all is up in the area, one that is left is
pub record IsLeft (all left : List (ℕ × Interface)) (area : ℕ) : Type 0 where
  pub among : (e : ℕ × Interface) → Contains left e → Contains all e
  pub up : IsUpAmong all area → IsUpAmong left area

pub all_left : (all : List (ℕ × Interface)) (area : ℕ) → IsLeft all all area
all_left all area = record { among = λ e c. c; up = λ w. w }

module _ (all left more : List (ℕ × Interface)) (e : ℕ × Interface) (area : ℕ) (is : left ≡ e ∷ more) (before : IsLeft all left area) where
  pub one_left : (e.1.area ≡ area → IsTrue e.1.up → ⊥) → IsLeft all more area
  one_left not = record {
    among = λ f c. before.among f (subst (λ (list : List (ℕ × Interface)). Contains list f) (sym is) (later_element e f more c));
    up = λ w.
        let v = subst (λ (list : List (ℕ × Interface)). IsUpAmong list area) is (before.up w) in
        ⊎_elim
        (λ (same : (v.0, v.1) ≡ e).
        let one : v.1 ≡ e.1 = ap (λ (x : ℕ × Interface). x.1) same in
        absurd (not (subst (λ (i : Interface). i.area ≡ area) one v.3) (subst (λ (i : Interface). IsTrue i.up) one v.4)))
        (λ (later : Contains more (v.0, v.1)). (v.0, v.1, later, v.3, v.4)) (first_or_later e (v.0, v.1) more v.2);
  }

  pub one_up : e.1.area ≡ area → IsTrue e.1.up → IsUpAmong all area
  one_up here up = (e.0, e.1, before.among e (subst (λ (list : List (ℕ × Interface)). Contains list e) (sym is) (first_element e more)), here, up)

-- those that are left after the last was taken, which is not up in the area
pub last_left : (all left more : List (ℕ × Interface)) (area : ℕ) → IsLeft all left area → ((e : ℕ × Interface) → Contains more e → Contains left e) → (IsUpAmong left area → IsUpAmong more area) → IsLeft all more area
last_left all left more area before among up = record { among = λ e c. before.among e (among e c); up = λ w. up (before.up w) }

-- one of those that are left is up
pub left_up : (all left : List (ℕ × Interface)) (area : ℕ) → IsLeft all left area → IsUpAmong left area → IsUpAmong all area
left_up all left area before w = (w.0, w.1, before.among (w.0, w.1) w.2, w.3, w.4)

-- the last of them is up
pub last_up : (more : List (ℕ × Interface)) (e : ℕ × Interface) (area : ℕ) → e.1.area ≡ area → IsTrue e.1.up → IsUpAmong (more ++ e ∷ []) area
last_up more e area here up = (e.0, e.1, Contains-push more e, here, up)

pub none_up : (all left : List (ℕ × Interface)) (area : ℕ) → left ≡ [] → IsLeft all left area → IsUpAmong all area → ⊥
none_up all left area none before w = let v = before.up w in no_element (v.0, v.1) (subst (λ (list : List (ℕ × Interface)). Contains list (v.0, v.1)) none v.2)

-- ---- the areas with an interface that is up, one by one

module _ (s : State) where
  -- no area has one, or areas of one Area ID alone
  abbrev pub IsFoundIn : List AreaConfig → Option ℕ → Type 0
  IsFoundIn areas None = (a : AreaConfig) → Contains areas a → IsUpIn s a.id → ⊥
  IsFoundIn areas (Some id) = ((a : AreaConfig) × Contains areas a × (a.id ≡ id) × IsUpIn s a.id) × ((b : AreaConfig) → Contains areas b → IsUpIn s b.id → b.id ≡ id)

  pub none_found : IsFoundIn [] None
  none_found a c up = no_element a c

  module _ (areas : List AreaConfig) (i : ℕ) (a : AreaConfig) (lt : i < length areas) (here : a ≡ get_or areas i a) where
    -- one more has none
    pub none_more : (o : Option ℕ) → IsFoundIn (take i areas) o → (IsUpIn s a.id → ⊥) → IsFoundIn (take (i + 1) areas) o
    none_more None found not = λ b c up. elim ((contains_more areas i a b lt here).0 c) [ inl before ↦ found b before up | inr now ↦ not (subst (λ (x : AreaConfig). IsUpIn s x.id) now up) ]
    none_more (Some id) found not = (
      (found.0.0, (contains_more areas i a found.0.0 lt here).1 (inl found.0.1), found.0.2, found.0.3),
      λ b c up. elim ((contains_more areas i a b lt here).0 c) [ inl before ↦ found.1 b before up | inr now ↦ absurd (not (subst (λ (x : AreaConfig). IsUpIn s x.id) now up)) ],
    )

    -- the first that has one
    pub first_found : IsFoundIn (take i areas) None → IsUpIn s a.id → IsFoundIn (take (i + 1) areas) (Some a.id)
    first_found found up = (
      (a, (contains_more areas i a a lt here).1 (inr refl), refl, up),
      λ b c there. elim ((contains_more areas i a b lt here).0 c) [ inl before ↦ absurd (found b before there) | inr now ↦ ap (λ (x : AreaConfig). x.id) now ],
    )

    -- those before it have other Area IDs
    apart_before : AreAreasApart areas → (b : AreaConfig) → Contains (take i areas) b → b.id ≢ a.id
    apart_before apart b c same =
        let k : ℕ = c.0 in
        let within : k < min i (length areas) = subst (λ (n : ℕ). k < n) (length-take i areas) c.1 in
        let below : k < i = omega (arith, lt, within) in
        let there : get_or areas k b ≡ b = sym (get_or-take i areas k b below) ∙ c.2 in
        let other : get_or areas i b ≡ a = get_or_default areas i b a lt ∙ sym here in
        apart k i b below lt (ap (λ (x : AreaConfig). x.id) there ∙ same ∙ sym (ap (λ (x : AreaConfig). x.id) other))

pub nothing_found : {A : Type 0} (o : Option A) → is_some o ≡ false → o ≡ None
nothing_found None e = refl
nothing_found (Some x) e = absurd cc

-- ---- what is examined

module _ (s : State) where
  pub area_in : (b : AreaConfig) → Contains s.config.areas b → Contains (inputs_of s).areas (area_of s b)
  area_in b c = mapped_element (area_of s) s.config.areas b c

  pub area_from : (a : Area) → Contains (inputs_of s).areas a → (b : AreaConfig) × Contains s.config.areas b × (area_of s b ≡ a)
  area_from a c = mapped_from (area_of s) s.config.areas a c

  pub active_in : (b : AreaConfig) → Contains s.config.areas b → IsUpIn s b.id → IsActive (inputs_of s) (area_of s b)
  active_in b c up = (area_in b c, (up.0, up.1, record { held = up.2; here = up.3; up = up.4 }))

  pub active_from : (a : Area) → IsActive (inputs_of s) a → (b : AreaConfig) × Contains s.config.areas b × (b.id ≡ a.id) × IsUpIn s b.id
  active_from a active =
      let w = area_from a active.0 in
      let id : w.0.id ≡ a.id = ap (λ (x : Area). x.id) w.2 in
      let up = active.1 in
      (w.0, w.1, id, (up.0, up.1, up.2.held, up.2.here ∙ sym id, up.2.up))

  none_examined : IsFoundIn s s.config.areas None → (a : Area) → IsExamined (inputs_of s) a → ⊥
  none_examined found a examined = elim examined.which [
    | inl border ↦ let w = active_from border.0.0 border.0.2 in found w.0 w.1 w.3
    | inr alone ↦ let w = active_from a alone.0 in found w.0 w.1 w.3
  ]

  only_examined : (id : ℕ) → IsFoundIn s s.config.areas (Some id) → (a : Area) × IsExamined (inputs_of s) a × (a.id ≡ id)
  only_examined id found =
      let w = found.0 in (
        area_of s w.0,
        record {
          area = area_in w.0 w.1;
          which = inr (
            active_in w.0 w.1 w.3,
            λ border.
                let x = active_from border.0 border.2 in
                let y = active_from border.1 border.3 in
                border.4 (sym x.2 ∙ found.1 x.0 x.1 x.3 ∙ sym (found.1 y.0 y.1 y.3) ∙ y.2),
          );
        },
        w.2,
      )

  pub one_examined : (o : Option ℕ) → IsFoundIn s s.config.areas o → IfSome o (λ id. (a : Area) × IsExamined (inputs_of s) a × (a.id ≡ id))
  one_examined None found = tt
  one_examined (Some id) found = only_examined id found

  pub not_examined : (o : Option ℕ) → IsFoundIn s s.config.areas o → IfNone o ((a : Area) → IsExamined (inputs_of s) a → ⊥)
  not_examined None found = none_examined found
  not_examined (Some id) found = tt

  -- where there is another area with an interface that is up, the router is a border router
  found_border : (i : ℕ) (a : AreaConfig) → i < length s.config.areas → a ≡ get_or s.config.areas i a → AreAreasApart s.config.areas → (id : ℕ) → IsFoundIn s (take i s.config.areas) (Some id) → IsUpIn s a.id → IsBorder (inputs_of s)
  found_border i a lt here apart id found up =
      let areas = s.config.areas in
      let b = found.0 in
      let earlier : Contains areas b.0 = subst (λ (list : List AreaConfig). Contains list b.0) (take-append-drop i areas) (Contains-append_left (take i areas) (drop i areas) b.0 b.1) in (
        area_of s b.0,
        area_of s a,
        active_in b.0 earlier b.3,
        active_in a (contains_at areas i a lt here) up,
        apart_before s areas i a lt here apart b.0 b.1,
      )

  module _ (i : ℕ) (a : AreaConfig) (lt : i < length s.config.areas) (here : a ≡ get_or s.config.areas i a) (apart : AreAreasApart s.config.areas) (up : IsUpIn s a.id) where
    border : (o : Option ℕ) → IsSome o → IsFoundIn s (take i s.config.areas) o → IsBorder (inputs_of s)
    border None some found = absurd cc
    border (Some id) some found = found_border i a lt here apart id found up

    pub backbone_examined : (o : Option ℕ) → IsSome o → IsFoundIn s (take i s.config.areas) o → (r : Option ℕ) → IfSome r (λ id. (id ≡ 0) × ((b : AreaConfig) × Contains s.config.areas b × (b.id ≡ 0)))
        → IfSome r (λ id. (x : Area) × IsExamined (inputs_of s) x × (x.id ≡ id))
    backbone_examined o some found None is = tt
    backbone_examined o some found (Some id) is =
        let b = is.1 in
        (area_of s b.0, record { area = area_in b.0 b.1; which = inl (border o some found, b.2) }, b.2 ∙ sym is.0)

    pub no_backbone : (o : Option ℕ) → IsSome o → IsFoundIn s (take i s.config.areas) o → (r : Option ℕ) → IfNone r ((b : AreaConfig) → Contains s.config.areas b → b.id ≢ 0)
        → IfNone r ((x : Area) → IsExamined (inputs_of s) x → ⊥)
    no_backbone o some found None none = λ x examined. elim examined.which [
      | inl there ↦ let w = area_from x examined.area in none w.0 w.1 (ap (λ (z : Area). z.id) w.2 ∙ there.1)
      | inr alone ↦ alone.1 (border o some found)
    ]
    no_backbone o some found (Some id) none = tt
