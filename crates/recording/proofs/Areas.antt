-- The lines of a header, and the areas that they say.
use Rattle.std.proofs.Common.{ℕ, ◌≡◌, ◌==◌, ◌++◌, ◌||◌, Bool, true, false, not, cond, nat_lt, List, [], ◌∷◌, map, Option, Some, None, All, Ordering, refl, sym, ap, subst, ◌∙◌, inl, inr, append-nil, append_assoc, eqb-true, eq-eqb}
use Rattle.std.specs.declared.cmp.Ordering.TheVariants.{Less, Equal, Greater}
use Rattle.std.specs.List.{flat_map, AllPass}
use Rattle.std.specs.List.Sorted.{IsStrictlySortedBy}
use Rattle.std.specs.Option.{option_to_list}
use Rattle.std.specs.Ordering.{nat_cmp}
use Rattle.std.specs.Cmp.{nat_cmp_total}
use Rattle.std.proofs.lemmas.Bool.{and_parts, and_from}
use Rattle.std.proofs.lemmas.List.{map-append}
use Rattle.std.proofs.lemmas.List.Concat.{flat_map-append}
use Rattle.std.proofs.lemmas.List.Elements.{All-nil, All-cons, All-append, All-push, All-head, All-tail}
use Rattle.ospf_types.specs.declared.config.AreaConfig.{AreaConfig}
use Rattle.ospf_types.specs.declared.config.Range.{Range}
use Rattle.ospf_types.specs.declared.config.Stub.{Stub}
use Rattle.ospf_types.specs.Network.{network_cmp}
use Rattle.ospf_types.proofs.Orders.{network_total}
use Rattle.recording.specs.Forms.{Form, VersionLine, RouterLine, CompatLine, SerialLine, AreaLine, RangeLine, HasInterfaceLine, HasLsaLine, BodyLine}
use Rattle.recording.specs.Places.{is_of_header, with_range, with_form, areas_from, areas_of, is_less, last_of, is_past_area, is_past_range, is_next_range, has_ended, is_next_area}
use Rattle.recording.specs.Recordings.{IsConfigOrdered, area_forms}
use Rattle.recording.proofs.Sorting.{last_cases, last_of-push, sorted_push_by, sorted_next_by}

-- ---- what is said

pub with_range-push : (front : List AreaConfig) (a : AreaConfig) (range : Range) → with_range (front ++ a ∷ []) range ≡ front ++ record a { ranges = a.ranges ++ range ∷ [] } ∷ []
with_range-push [] a range = refl
with_range-push (x ∷ []) a range = refl
with_range-push (x ∷ y ∷ front) a range = ap (λ (t : List AreaConfig). x ∷ t) (with_range-push (y ∷ front) a range)

pub areas_from-append : (areas : List AreaConfig) (fs gs : List Form) → areas_from areas (fs ++ gs) ≡ areas_from (areas_from areas fs) gs
areas_from-append areas [] gs = refl
areas_from-append areas (f ∷ fs) gs = areas_from-append (with_form areas f) fs gs

-- an area with these ranges
abbrev ranged : ℕ → Option Stub → List Range → AreaConfig
ranged id stub ranges = record { id = id; stub = stub; ranges = ranges }

abbrev range_forms : ℕ → List Range → List Form
range_forms id ranges = map (λ (range : Range). RangeLine id range) ranges

ranges_said : (front : List AreaConfig) (id : ℕ) (stub : Option Stub) (before more : List Range) → areas_from (front ++ ranged id stub before ∷ []) (range_forms id more) ≡ front ++ ranged id stub (before ++ more) ∷ []
ranges_said front id stub before [] = ap (λ (rs : List Range). front ++ ranged id stub rs ∷ []) (sym (append-nil before))
ranges_said front id stub before (r ∷ more) =
    ap (λ (areas : List AreaConfig). areas_from areas (range_forms id more)) (with_range-push front (ranged id stub before) r)
    ∙ ranges_said front id stub (before ++ r ∷ []) more
    ∙ ap (λ (rs : List Range). front ++ ranged id stub rs ∷ []) (append_assoc before (r ∷ []) more)

area_said : (front : List AreaConfig) (a : AreaConfig) → areas_from front (area_forms a) ≡ front ++ a ∷ []
area_said front a = ranges_said front a.id a.stub [] a.ranges

pub areas_said : (front areas : List AreaConfig) → areas_from front (flat_map area_forms areas) ≡ front ++ areas
areas_said front [] = sym (append-nil front)
areas_said front (a ∷ areas) =
    areas_from-append front (area_forms a) (flat_map area_forms areas)
    ∙ ap (λ (as' : List AreaConfig). areas_from as' (flat_map area_forms areas)) (area_said front a)
    ∙ areas_said (front ++ a ∷ []) areas
    ∙ append_assoc front (a ∷ []) areas

-- the areas of what says them
pub areas_of_said : (areas : List AreaConfig) → areas_of (flat_map area_forms areas) ≡ areas
areas_of_said areas = areas_said [] areas

ranges_of_header : (id : ℕ) (ranges : List Range) → AllPass is_of_header (range_forms id ranges)
ranges_of_header id [] = All-nil (λ form. is_of_header form ≡ true)
ranges_of_header id (r ∷ ranges) = All-cons (λ form. is_of_header form ≡ true) (RangeLine id r) (range_forms id ranges) refl (ranges_of_header id ranges)

pub areas_of_header : (areas : List AreaConfig) → AllPass is_of_header (flat_map area_forms areas)
areas_of_header [] = All-nil (λ form. is_of_header form ≡ true)
areas_of_header (a ∷ areas) =
    All-append (λ form. is_of_header form ≡ true) (area_forms a) (flat_map area_forms areas) (All-cons (λ form. is_of_header form ≡ true) (AreaLine a.id a.stub) (range_forms a.id a.ranges) refl (ranges_of_header a.id a.ranges)) (areas_of_header areas)

none_ended : (fs gs : List Form) → AllPass is_of_header fs → has_ended (fs ++ gs) ≡ has_ended gs
none_ended [] gs all = refl
none_ended (f ∷ fs) gs all =
    let P : Form → Type 0 = λ form. is_of_header form ≡ true in
    ap (λ (b : Bool). not b || has_ended (fs ++ gs)) (All-head P f fs all) ∙ none_ended fs gs (All-tail P f fs all)

-- lines of the header alone
pub areas_not_ended : (areas : List AreaConfig) → has_ended (flat_map area_forms areas) ≡ false
areas_not_ended areas =
    ap has_ended (sym (append-nil (flat_map area_forms areas))) ∙ none_ended (flat_map area_forms areas) [] (areas_of_header areas)

either_true : (a : Bool) → (a || true) ≡ true
either_true true = refl
either_true false = refl

-- a line that is none of the header's, behind others
pub ended_behind : (fs : List Form) (form : Form) → is_of_header form ≡ false → has_ended (fs ++ form ∷ []) ≡ true
ended_behind [] form other = ap (λ (b : Bool). not b || false) other
ended_behind (f ∷ fs) form other = ap (λ (b : Bool). not (is_of_header f) || b) (ended_behind fs form other) ∙ either_true (not (is_of_header f))

-- ---- one line more

-- the last area, to which the range belongs
range_place : (areas : List AreaConfig) (area : ℕ) (range : Range) → is_next_range (last_of areas) area range ≡ true → (front : List AreaConfig) × (a : AreaConfig) × (areas ≡ front ++ a ∷ []) × (a.id ≡ area) × (is_past_range (last_of a.ranges) range ≡ true)
range_place areas area range next =
    elim (last_cases areas) [
      | inl e ↦
          let none : is_next_range None area range ≡ true = subst (λ (as' : List AreaConfig). is_next_range (last_of as') area range ≡ true) e next in
          cc
      | inr w ↦
          let at : is_next_range (last_of (w.0 ++ w.1 ∷ [])) area range ≡ true = subst (λ (as' : List AreaConfig). is_next_range (last_of as') area range ≡ true) w.2 next in
          let some : is_next_range (Some w.1) area range ≡ true = subst (λ (o : Option AreaConfig). is_next_range o area range ≡ true) (last_of-push w.0 w.1) at in
          let two = and_parts (w.1.id == area) (is_past_range (last_of w.1.ranges) range) some in
          (w.0, w.1, w.2, eqb-true w.1.id area two.0, two.1)
    ]

flat_map-push : (areas : List AreaConfig) (a : AreaConfig) → flat_map area_forms (areas ++ a ∷ []) ≡ flat_map area_forms areas ++ area_forms a
flat_map-push areas a = flat_map-append area_forms areas (a ∷ []) ∙ ap (λ (fs : List Form). flat_map area_forms areas ++ fs) (append-nil (area_forms a))

said_range : (front : List AreaConfig) (a : AreaConfig) (range : Range) → flat_map area_forms (with_range (front ++ a ∷ []) range) ≡ flat_map area_forms (front ++ a ∷ []) ++ RangeLine a.id range ∷ []
said_range front a range =
    let more : AreaConfig = record a { ranges = a.ranges ++ range ∷ [] } in
    ap (flat_map area_forms) (with_range-push front a range)
    ∙ flat_map-push front more
    ∙ ap (λ (fs : List Form). flat_map area_forms front ++ AreaLine a.id a.stub ∷ fs) (map-append (λ (r : Range). RangeLine a.id r) a.ranges (range ∷ []))
    ∙ sym (append_assoc (flat_map area_forms front) (area_forms a) (RangeLine a.id range ∷ []))
    ∙ ap (λ (fs : List Form). fs ++ RangeLine a.id range ∷ []) (sym (flat_map-push front a))

-- what says the areas, and one line more
pub said_more : (areas : List AreaConfig) (form : Form) → is_next_area areas form ≡ true → flat_map area_forms (with_form areas form) ≡ flat_map area_forms areas ++ form ∷ []
said_more areas (AreaLine id stub) next = flat_map-push areas (ranged id stub [])
said_more areas (RangeLine area range) next =
    let at = range_place areas area range next in
    let P : List AreaConfig → ℕ → Type 0 = λ as' id. flat_map area_forms (with_range as' range) ≡ flat_map area_forms as' ++ RangeLine id range ∷ [] in
    subst (λ as'. P as' area) (sym at.2) (subst (λ id. P (at.0 ++ at.1 ∷ []) id) at.3 (said_range at.0 at.1 range))
said_more areas (VersionLine version) next = cc
said_more areas (RouterLine router) next = cc
said_more areas (CompatLine compat) next = cc
said_more areas (SerialLine serial) next = cc
said_more areas (HasInterfaceLine id i) next = cc
said_more areas (HasLsaLine at bytes) next = cc
said_more areas (BodyLine body) next = cc

-- ---- the order

pub nat_less : (x y : ℕ) → nat_lt x y ≡ true → nat_cmp x y ≡ Less
nat_less x y h = ap (λ (b : Bool). cond b Less (cond (x == y) Equal Greater)) h

not_less : (b : Bool) → cond b Equal Greater ≡ Less → ⊥
not_less true h = cc
not_less false h = cc

pub nat_of_less : (x y : ℕ) (b : Bool) → nat_lt x y ≡ b → nat_cmp x y ≡ Less → nat_lt x y ≡ true
nat_of_less x y true is h = is
nat_of_less x y false is h =
    let other : cond (x == y) Equal Greater ≡ Less = sym (ap (λ (b : Bool). cond b Less (cond (x == y) Equal Greater)) is) ∙ h in
    absurd (not_less (x == y) other)

pub of_is_less : (o : Ordering) → is_less o ≡ true → o ≡ Less
of_is_less Less h = refl
of_is_less Equal h = cc
of_is_less Greater h = cc

area_less : (o : Option AreaConfig) (id : ℕ) → is_past_area o id ≡ true → (a : AreaConfig) → o ≡ Some a → nat_cmp a.id id ≡ Less
area_less o id past a is = nat_less a.id id (subst (λ (t : Option AreaConfig). is_past_area t id ≡ true) is past)

area_past : (o : Option AreaConfig) (id : ℕ) → ((a : AreaConfig) → o ≡ Some a → nat_cmp a.id id ≡ Less) → is_past_area o id ≡ true
area_past None id less = refl
area_past (Some a) id less = nat_of_less a.id id (nat_lt a.id id) refl (less a refl)

range_less : (o : Option Range) (range : Range) → is_past_range o range ≡ true → (r : Range) → o ≡ Some r → network_cmp r.prefix range.prefix ≡ Less
range_less o range past r is = of_is_less (network_cmp r.prefix range.prefix) (subst (λ (t : Option Range). is_past_range t range ≡ true) is past)

range_past : (o : Option Range) (range : Range) → ((r : Range) → o ≡ Some r → network_cmp r.prefix range.prefix ≡ Less) → is_past_range o range ≡ true
range_past None range less = refl
range_past (Some r) range less = ap is_less (less r refl)

abbrev AreRising : List Range → Type 0
AreRising ranges = IsStrictlySortedBy network_cmp (map (λ (range : Range). range.prefix) ranges)

abbrev ids : List AreaConfig → List ℕ
ids areas = map (λ (a : AreaConfig). a.id) areas

none_rising : AreRising []
unfolding IsStrictlySortedBy
none_rising = tt

ordered_area : (areas : List AreaConfig) (id : ℕ) (stub : Option Stub) → IsConfigOrdered areas → is_past_area (last_of areas) id ≡ true → IsConfigOrdered (areas ++ ranged id stub [] ∷ [])
ordered_area areas id stub ordered past = record {
  ascending = sorted_push_by nat_cmp (λ (a : AreaConfig). a.id) nat_cmp_total areas (ranged id stub []) ordered.ascending (area_less (last_of areas) id past);
  ranges = All-push (λ a. AreRising a.ranges) areas (ranged id stub []) ordered.ranges none_rising;
}

same_ids : (front : List AreaConfig) (a b : AreaConfig) → a.id ≡ b.id → ids (front ++ a ∷ []) ≡ ids (front ++ b ∷ [])
same_ids [] a b is = ap (λ (id : ℕ). id ∷ []) is
same_ids (x ∷ front) a b is = ap (λ (t : List ℕ). x.id ∷ t) (same_ids front a b is)

All-but_last : (P : AreaConfig → Type 0) (front : List AreaConfig) (a b : AreaConfig) → All P (front ++ a ∷ []) → (P a → P b) → All P (front ++ b ∷ [])
All-but_last P [] a b all step = All-cons P b [] (step (All-head P a [] all)) (All-nil P)
All-but_last P (x ∷ front) a b all step =
    All-cons P x (front ++ b ∷ []) (All-head P x (front ++ a ∷ []) all) (All-but_last P front a b (All-tail P x (front ++ a ∷ []) all) step)

ordered_range : (front : List AreaConfig) (a : AreaConfig) (range : Range) → IsConfigOrdered (front ++ a ∷ []) → is_past_range (last_of a.ranges) range ≡ true → IsConfigOrdered (with_range (front ++ a ∷ []) range)
ordered_range front a range ordered past =
    let more : AreaConfig = record a { ranges = a.ranges ++ range ∷ [] } in
    let at : IsConfigOrdered (front ++ more ∷ []) = record {
      ascending = subst (IsStrictlySortedBy nat_cmp) (same_ids front a more refl) ordered.ascending;
      ranges = All-but_last (λ b. AreRising b.ranges) front a more ordered.ranges (λ rising. sorted_push_by network_cmp (λ (r : Range). r.prefix) network_total a.ranges range rising (range_less (last_of a.ranges) range past));
    } in
    subst IsConfigOrdered (sym (with_range-push front a range)) at

pub ordered_more : (areas : List AreaConfig) (form : Form) → IsConfigOrdered areas → is_next_area areas form ≡ true → IsConfigOrdered (with_form areas form)
ordered_more areas (AreaLine id stub) ordered next = ordered_area areas id stub ordered next
ordered_more areas (RangeLine area range) ordered next =
    let at = range_place areas area range next in
    let P : List AreaConfig → Type 0 = λ t. IsConfigOrdered (with_range t range) in
    subst P (sym at.2) (ordered_range at.0 at.1 range (subst IsConfigOrdered at.2 ordered) at.4)
ordered_more areas (VersionLine version) ordered next = cc
ordered_more areas (RouterLine router) ordered next = cc
ordered_more areas (CompatLine compat) ordered next = cc
ordered_more areas (SerialLine serial) ordered next = cc
ordered_more areas (HasInterfaceLine id i) ordered next = cc
ordered_more areas (HasLsaLine at bytes) ordered next = cc
ordered_more areas (BodyLine body) ordered next = cc

pub ordered_none : IsConfigOrdered []
unfolding IsStrictlySortedBy
ordered_none = record { ascending = tt; ranges = All-nil (λ a. AreRising a.ranges) }

-- ---- the lines of areas in order may stand one after the other

abbrev pub InOrder : List AreaConfig → List Form → Type 0
InOrder areas [] = Unit {0}
InOrder areas (form ∷ forms) = (is_next_area areas form ≡ true) × InOrder (with_form areas form) forms

in_order-append : (areas : List AreaConfig) (fs gs : List Form) → InOrder areas fs → InOrder (areas_from areas fs) gs → InOrder areas (fs ++ gs)
in_order-append areas [] gs first second = second
in_order-append areas (f ∷ fs) gs first second = (first.0, in_order-append (with_form areas f) fs gs first.1 second)

ranges_in_order : (front : List AreaConfig) (id : ℕ) (stub : Option Stub) (before more : List Range) → AreRising (before ++ more) → InOrder (front ++ ranged id stub before ∷ []) (range_forms id more)
ranges_in_order front id stub before [] rising = tt
ranges_in_order front id stub before (r ∷ more) rising =
    let a : AreaConfig = ranged id stub before in
    let past : is_past_range (last_of before) r ≡ true = range_past (last_of before) r (sorted_next_by network_cmp (λ (x : Range). x.prefix) before r more rising) in
    let some : is_next_range (Some a) id r ≡ true = and_from (id == id) (is_past_range (last_of before) r) (eq-eqb id id refl) past in
    let next : is_next_range (last_of (front ++ a ∷ [])) id r ≡ true = subst (λ (o : Option AreaConfig). is_next_range o id r ≡ true) (sym (last_of-push front a)) some in
    let rest = ranges_in_order front id stub (before ++ r ∷ []) more (subst AreRising (sym (append_assoc before (r ∷ []) more)) rising) in
    (next, subst (λ (as' : List AreaConfig). InOrder as' (range_forms id more)) (sym (with_range-push front a r)) rest)

pub all_right : {X : Type 0} → (P : X → Type 0) (xs ys : List X) → All P (xs ++ ys) → All P ys
all_right P [] ys all = all
all_right P (x ∷ xs) ys all = all_right P xs ys (All-tail P x (xs ++ ys) all)

pub areas_in_order : (front areas : List AreaConfig) → IsConfigOrdered (front ++ areas) → InOrder front (flat_map area_forms areas)
areas_in_order front [] ordered = tt
areas_in_order front (a ∷ areas) ordered =
    let past : is_past_area (last_of front) a.id ≡ true = area_past (last_of front) a.id (sorted_next_by nat_cmp (λ (x : AreaConfig). x.id) front a areas ordered.ascending) in
    let rising : AreRising a.ranges = All-head (λ b. AreRising b.ranges) a areas (all_right (λ b. AreRising b.ranges) front (a ∷ areas) ordered.ranges) in
    let first : InOrder front (area_forms a) = (past, ranges_in_order front a.id a.stub [] a.ranges rising) in
    let rest = areas_in_order (front ++ a ∷ []) areas (subst IsConfigOrdered (sym (append_assoc front (a ∷ []) areas)) ordered) in
    in_order-append front (area_forms a) (flat_map area_forms areas) first (subst (λ (as' : List AreaConfig). InOrder as' (flat_map area_forms areas)) (sym (area_said front a)) rest)

-- ---- areas, and the last of them apart

pub no_last : (areas : List AreaConfig) (last : Option AreaConfig) → (last ≡ None → areas ≡ []) → last ≡ None → areas ++ option_to_list last ≡ []
no_last areas last none is = ap (λ (o : Option AreaConfig). areas ++ option_to_list o) is ∙ append-nil areas ∙ none is

pub last_is : (areas : List AreaConfig) (last : Option AreaConfig) (a : AreaConfig) → last ≡ Some a → last_of (areas ++ option_to_list last) ≡ Some a
last_is areas last a is = ap (λ (o : Option AreaConfig). last_of (areas ++ option_to_list o)) is ∙ last_of-push areas a

pub no_range : (areas : List AreaConfig) (last : Option AreaConfig) → (last ≡ None → areas ≡ []) → last ≡ None → (area : ℕ) (range : Range) → is_next_range (last_of (areas ++ option_to_list last)) area range ≡ false
no_range areas last none is area range = ap (λ (t : List AreaConfig). is_next_range (last_of t) area range) (no_last areas last none is)

pub range_added : (areas : List AreaConfig) (last : Option AreaConfig) (a b : AreaConfig) (range : Range) → last ≡ Some a → b ≡ record a { ranges = a.ranges ++ range ∷ [] } → areas ++ option_to_list (Some b) ≡ with_range (areas ++ option_to_list last) range
range_added areas last a b range is new =
    ap (λ (x : AreaConfig). areas ++ x ∷ []) new
    ∙ sym (with_range-push areas a range)
    ∙ ap (λ (o : Option AreaConfig). with_range (areas ++ option_to_list o) range) (sym is)
