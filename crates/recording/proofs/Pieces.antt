-- The lines that several pieces make, as they are written one after the other.
use Rattle.std.proofs.Common.{◌≡◌, ◌∙◌, ◌++◌, ◌<◌, ◌≤◌, ◌+◌, List, [], ◌∷◌, ℕ, Bool, All, cond, length, take, map, get_or, ap, sym, subst, codes, append_assoc, append-nil}
use Rattle.std.specs.Prelude.{decimal}
use Rattle.std.specs.List.{flat_map}
use Rattle.std.proofs.lemmas.List.{get_or_default, take_more, take_all}
use Rattle.std.proofs.lemmas.List.Concat.{flat_map-append, flat_map_single}
use Rattle.std.proofs.lemmas.List.Elements.{All-nil, All-cons, All-append, All-more}
use Rattle.ospf_types.specs.declared.config.AreaConfig.{AreaConfig}
use Rattle.ospf_types.specs.declared.config.Interface.{Interface}
use Rattle.ospf_types.specs.declared.config.Range.{Range}
use Rattle.ospf_types.specs.declared.key.Scope.{Scope}
use Rattle.ospf_types.specs.declared.prefix.Prefix.{Prefix}
use Rattle.ospf_types.specs.Lsa.{Lsa}
use Rattle.ospf_types.specs.Text.{address_text, prefix_text}
use Rattle.event_state.specs.declared.base.Base.{Base}
use Rattle.recording.specs.declared.line.Line.{Line}
use Rattle.recording.specs.Forms.{Form, VersionLine, RouterLine, CompatLine, SerialLine, AreaLine, RangeLine, HasInterfaceLine, BodyLine, InterfaceLine, RangeSetLine, RangeDropLine, IsForm}
use Rattle.recording.specs.Recordings.{RecordingValue, form_of, forms_of, front_forms, has_forms, HasKind, HasWholeLsa, AreLsasOfBytes, IsLsaOfBytes, ended, text_of_forms, area_forms, first_forms, header_forms, interface_form, lsa_form}
use Rattle.recording.specs.declared.version.Version.{Version}
use Rattle.recording.specs.declared.version.Version.TheVariants.{One, Two, Three}

three : (a b c : List ℕ) → a ++ 32 ∷ (b ++ 32 ∷ (c ++ 10 ∷ [])) ≡ (a ++ 32 ∷ (b ++ 32 ∷ c)) ++ 10 ∷ []
three a b c = simp append_assoc

last_two : (a b : List ℕ) → a ++ 10 ∷ (codes "compat " ++ (b ++ 10 ∷ [])) ≡ (a ++ 10 ∷ []) ++ (codes "compat " ++ ((b ++ 10 ∷ []) ++ []))
last_two a b =
    ap (λ (t : List ℕ). a ++ 10 ∷ (codes "compat " ++ t)) (sym (append-nil (b ++ 10 ∷ [])))
    ∙ sym (append_assoc a (10 ∷ []) (codes "compat " ++ ((b ++ 10 ∷ []) ++ [])))

last_three : (a b c : List ℕ)
    → a ++ 10 ∷ (codes "compat " ++ (b ++ 10 ∷ (codes "serial " ++ (c ++ 10 ∷ [])))) ≡ (a ++ 10 ∷ []) ++ (codes "compat " ++ ((b ++ 10 ∷ []) ++ (codes "serial " ++ ((c ++ 10 ∷ []) ++ []))))
last_three a b c = simp (append_assoc, append-nil)

five : (a b c d e : List ℕ)
    → a ++ 32 ∷ (b ++ 32 ∷ (c ++ 32 ∷ (d ++ 32 ∷ (e ++ 10 ∷ [])))) ≡ (a ++ 32 ∷ (b ++ 32 ∷ (c ++ 32 ∷ (d ++ 32 ∷ e)))) ++ 10 ∷ []
five a b c d e = simp append_assoc

pub interface_printed : (old new state : List ℕ) (id area address peer : ℕ) (up : Bool) → state ≡ cond up (codes "up") (codes "down")
    → new ≡ old ++ (codes "interface " ++ (decimal id ++ 32 ∷ (address_text area ++ 32 ∷ (address_text address ++ 32 ∷ (address_text peer ++ 32 ∷ (state ++ 10 ∷ []))))))
    → new ≡ old ++ ended (BodyLine (InterfaceLine id area address peer up))
interface_printed old new state id area address peer up is written =
    written ∙ ap (λ (text : List ℕ). old ++ (codes "interface " ++ text)) (rw is (five (decimal id) (address_text area) (address_text address) (address_text peer) (cond up (codes "up") (codes "down"))))

pub has_interface_printed : (old new state : List ℕ) (id : ℕ) (i : Interface) → state ≡ cond i.up (codes "up") (codes "down")
    → new ≡ old ++ (codes "has interface " ++ (decimal id ++ 32 ∷ (address_text i.area ++ 32 ∷ (address_text i.address ++ 32 ∷ (address_text i.peer ++ 32 ∷ (state ++ 10 ∷ []))))))
    → new ≡ old ++ ended (HasInterfaceLine id i)
has_interface_printed old new state id i is written =
    written ∙ ap (λ (text : List ℕ). old ++ (codes "has interface " ++ text)) (rw is (five (decimal id) (address_text i.area) (address_text i.address) (address_text i.peer) (cond i.up (codes "up") (codes "down"))))

pub range_printed : (old new shown : List ℕ) (area : ℕ) (range : Range) → shown ≡ cond range.advertise (codes "advertise") (codes "hide")
    → new ≡ old ++ (codes "range " ++ (address_text area ++ 32 ∷ (prefix_text range.prefix ++ 32 ∷ (shown ++ 10 ∷ []))))
    → new ≡ old ++ ended (RangeLine area range)
range_printed old new shown area range is written =
    written ∙ ap (λ (text : List ℕ). old ++ (codes "range " ++ text)) (rw is (three (address_text area) (prefix_text range.prefix) (cond range.advertise (codes "advertise") (codes "hide"))))

pub range_set_printed : (old new shown : List ℕ) (area : ℕ) (range : Range) → shown ≡ cond range.advertise (codes "advertise") (codes "hide")
    → new ≡ old ++ (codes "range-set " ++ (address_text area ++ 32 ∷ (prefix_text range.prefix ++ 32 ∷ (shown ++ 10 ∷ []))))
    → new ≡ old ++ ended (BodyLine (RangeSetLine area range))
range_set_printed old new shown area range is written =
    written ∙ ap (λ (text : List ℕ). old ++ (codes "range-set " ++ text)) (rw is (three (address_text area) (prefix_text range.prefix) (cond range.advertise (codes "advertise") (codes "hide"))))

two : (a b : List ℕ) → a ++ 32 ∷ (b ++ 10 ∷ []) ≡ (a ++ 32 ∷ b) ++ 10 ∷ []
two a b = simp append_assoc

pub range_drop_printed : (old new : List ℕ) (area : ℕ) (prefix : Prefix) → new ≡ old ++ (codes "range-drop " ++ (address_text area ++ 32 ∷ (prefix_text prefix ++ 10 ∷ [])))
    → new ≡ old ++ ended (BodyLine (RangeDropLine area prefix))
range_drop_printed old new area prefix written = written ∙ ap (λ (text : List ℕ). old ++ (codes "range-drop " ++ text)) (two (address_text area) (prefix_text prefix))

-- the two first lines of version 1, the three of version 2, and the four of version 3
pub two_printed : (old new : List ℕ) (router : ℕ) → new ≡ old ++ (codes "abr 1" ++ (10 ∷ (codes "router " ++ (address_text router ++ 10 ∷ []))))
    → new ≡ old ++ text_of_forms (VersionLine One ∷ RouterLine router ∷ [])
two_printed old new router written =
    written ∙ ap (λ (text : List ℕ). old ++ (codes "abr 1" ++ (10 ∷ (codes "router " ++ text)))) (sym (append-nil (address_text router ++ 10 ∷ [])))

pub three_printed : (old new state : List ℕ) (router : ℕ) (compat : Bool) → state ≡ cond compat (codes "enabled") (codes "disabled")
    → new ≡ old ++ (codes "abr 2" ++ (10 ∷ (codes "router " ++ (address_text router ++ (10 ∷ (codes "compat " ++ (state ++ 10 ∷ [])))))))
    → new ≡ old ++ text_of_forms (VersionLine Two ∷ RouterLine router ∷ CompatLine compat ∷ [])
three_printed old new state router compat is written =
    written ∙ ap (λ (text : List ℕ). old ++ (codes "abr 2" ++ (10 ∷ (codes "router " ++ text)))) (rw is (last_two (address_text router) (cond compat (codes "enabled") (codes "disabled"))))

pub four_printed : (old new state : List ℕ) (router : ℕ) (compat : Bool) (serial : ℕ) → state ≡ cond compat (codes "enabled") (codes "disabled")
    → new ≡ old ++ (codes "abr 3" ++ (10 ∷ (codes "router " ++ (address_text router ++ (10 ∷ (codes "compat " ++ (state ++ (10 ∷ (codes "serial " ++ (decimal serial ++ 10 ∷ []))))))))))
    → new ≡ old ++ text_of_forms (VersionLine Three ∷ RouterLine router ∷ CompatLine compat ∷ SerialLine serial ∷ [])
four_printed old new state router compat serial is written =
    written ∙ ap (λ (text : List ℕ). old ++ (codes "abr 3" ++ (10 ∷ (codes "router " ++ text)))) (rw is (last_three (address_text router) (cond compat (codes "enabled") (codes "disabled")) (decimal serial)))

-- ---- lines, one after the other

-- after the old text stands that of these lines, each of which has a form
pub record Appended (old new : List ℕ) (forms : List Form) : Type 0 where
  pub text : new ≡ old ++ text_of_forms forms
  pub legal : All IsForm forms

pub appended_none : (old : List ℕ) → Appended old old []
appended_none old = record { text = sym (append-nil old); legal = All-nil IsForm }

pub appended_more : (old mid new : List ℕ) (forms more : List Form) → Appended old mid forms → new ≡ mid ++ text_of_forms more → All IsForm more → Appended old new (forms ++ more)
appended_more old mid new forms more h written legal = record {
  text = written ∙ rw h.text (append_assoc old (text_of_forms forms) (text_of_forms more)) ∙ ap (λ (text : List ℕ). old ++ text) (sym (flat_map-append ended forms more));
  legal = All-append IsForm forms more h.legal legal;
}

-- the lines of one item more
pub appended_item : {X : Type 0} (f : X → List Form) (old mid new : List ℕ) (xs : List X) (k : ℕ) (x : X) → k < length xs → x ≡ get_or xs k x → Appended old mid (flat_map f (take k xs))
    → new ≡ mid ++ text_of_forms (f x) → All IsForm (f x) → Appended old new (flat_map f (take (k + 1) xs))
appended_item f old mid new xs k x below is h written legal =
    let one : take (k + 1) xs ≡ take k xs ++ x ∷ [] = take_more xs k x below ∙ ap (λ y. take k xs ++ y ∷ []) (sym is) in
    let same : flat_map f (take (k + 1) xs) ≡ flat_map f (take k xs) ++ f x =
    ap (flat_map f) one ∙ flat_map-append f (take k xs) (x ∷ []) ∙ ap (λ forms. flat_map f (take k xs) ++ forms) (append-nil (f x)) in
    subst (Appended old new) (sym same) (appended_more old mid new (flat_map f (take k xs)) (f x) h written legal)

-- the one line of one item more
pub appended_line : {X : Type 0} (f : X → Form) (old mid new : List ℕ) (xs : List X) (k : ℕ) (x : X) → k < length xs → x ≡ get_or xs k x → Appended old mid (map f (take k xs))
    → new ≡ mid ++ ended (f x) → IsForm (f x) → Appended old new (map f (take (k + 1) xs))
appended_line {X = X} f old mid new xs k x below is h written legal =
    let single : (ys : List X) → flat_map (λ y. f y ∷ []) ys ≡ map f ys = flat_map_single f in
    let line : new ≡ mid ++ text_of_forms (f x ∷ []) = written ∙ ap (λ text. mid ++ text) (sym (append-nil (ended (f x)))) in
    subst (Appended old new) (single (take (k + 1) xs))
    (appended_item (λ y. f y ∷ []) old mid new xs k x below is (subst (Appended old mid) (sym (single (take k xs))) h) line (All-cons IsForm (f x) [] legal (All-nil IsForm)))

-- the line of the item that is there
pub appended_at : {X : Type 0} (f : X → Form) (old mid new : List ℕ) (xs : List X) (k : ℕ) (d : X) → k < length xs → Appended old mid (map f (take k xs))
    → new ≡ mid ++ ended (f (get_or xs k d)) → IsForm (f (get_or xs k d)) → Appended old new (map f (take (k + 1) xs))
appended_at f old mid new xs k d below h written legal =
    appended_line f old mid new xs k (get_or xs k d) below (get_or_default xs k d (get_or xs k d) below) h written legal

pub area_appended : (old mid new : List ℕ) (a : AreaConfig) (items : List Range) (k : ℕ) → items ≡ a.ranges → length items ≤ k → mid ≡ old ++ ended (AreaLine a.id a.stub) → IsForm (AreaLine a.id a.stub)
    → Appended mid new (map (λ (range : Range). RangeLine a.id range) (take k items)) → Appended old new (area_forms a)
area_appended old mid new a items k is all written legal h =
    let f : Range → Form = λ range. RangeLine a.id range in
    let first : Appended old mid (AreaLine a.id a.stub ∷ []) = record {
      text = written ∙ ap (λ text. old ++ text) (sym (append-nil (ended (AreaLine a.id a.stub))));
      legal = All-cons IsForm (AreaLine a.id a.stub) [] legal (All-nil IsForm);
    } in
    let rest : Appended mid new (map f a.ranges) = subst (λ ranges. Appended mid new (map f ranges)) (take_all k items all ∙ is) h in
    appended_more old mid new (AreaLine a.id a.stub ∷ []) (map f a.ranges) first rest.text rest.legal

pub header_appended : (old mid new : List ℕ) (v : Version) (b : Base) (items : List AreaConfig) (k : ℕ) → items ≡ b.config.areas → length items ≤ k
    → mid ≡ old ++ text_of_forms (first_forms v b) → All IsForm (first_forms v b)
    → Appended mid new (flat_map area_forms (take k items)) → Appended old new (header_forms v b)
header_appended old mid new v b items k is all written legal h =
    let first : Appended old mid (first_forms v b) = record { text = written; legal = legal } in
    let rest : Appended mid new (flat_map area_forms b.config.areas) = subst (λ areas. Appended mid new (flat_map area_forms areas)) (take_all k items all ∙ is) h in
    appended_more old mid new (first_forms v b) (flat_map area_forms b.config.areas) first rest.text rest.legal

-- the lines of all items
pub mapped_appended : {X : Type 0} (f : X → Form) (old new : List ℕ) (xs items : List X) (k : ℕ) → items ≡ xs → length items ≤ k → Appended old new (map f (take k items)) → Appended old new (map f xs)
mapped_appended f old new xs items k is all h = subst (λ ys. Appended old new (map f ys)) (take_all k items all ∙ is) h

-- the header, the interfaces and the LSAs of a base
pub front_appended : (old first second new : List ℕ) (v : Version) (b : Base) (interfaces : List (ℕ × Interface)) (lsas : List (Scope × Lsa)) → interfaces ≡ b.interfaces → lsas ≡ b.lsas
    → Appended old first (header_forms v b) → Appended first second (map interface_form interfaces) → Appended second new (map lsa_form lsas) → Appended old new (front_forms v b)
front_appended old first second new v b interfaces lsas same again header is ls =
    let mid : Appended first second (map interface_form b.interfaces) = subst (λ xs. Appended first second (map interface_form xs)) same is in
    let last : Appended second new (map lsa_form b.lsas) = subst (λ xs. Appended second new (map lsa_form xs)) again ls in
    let both = appended_more first second new (map interface_form b.interfaces) (map lsa_form b.lsas) mid last.text last.legal in
    appended_more old first new (header_forms v b) (has_forms b) header both.text both.legal

-- the LSAs of a base that are written so far, and they are whole
pub record LsasAppended (old new : List ℕ) (lsas : List (Scope × Lsa)) (k : ℕ) : Type 0 where
  pub appended : Appended old new (map lsa_form (take k lsas))
  pub whole : AreLsasOfBytes (take k lsas)

pub lsas_none : (old : List ℕ) (lsas : List (Scope × Lsa)) → LsasAppended old old lsas 0
lsas_none old lsas = record { appended = appended_none old; whole = All-nil (λ x. IsLsaOfBytes x.1) }

pub lsas_item : (old mid new : List ℕ) (lsas : List (Scope × Lsa)) (k : ℕ) (x : Scope × Lsa) → k < length lsas → x ≡ get_or lsas k x → LsasAppended old mid lsas k
    → new ≡ mid ++ ended (lsa_form x) → IsForm (lsa_form x) → IsLsaOfBytes x.1 → LsasAppended old new lsas (k + 1)
lsas_item old mid new lsas k x below is h written legal whole = record {
  appended = appended_line lsa_form old mid new lsas k x below is h.appended written legal;
  whole = All-more (λ y. IsLsaOfBytes y.1) lsas k x below h.whole (subst (λ (y : Scope × Lsa). IsLsaOfBytes y.1) is whole);
}

pub lsas_all : (old new : List ℕ) (lsas items : List (Scope × Lsa)) (k : ℕ) → items ≡ lsas → length items ≤ k → LsasAppended old new items k → Appended old new (map lsa_form lsas) × AreLsasOfBytes lsas
lsas_all old new lsas items k is all h = (mapped_appended lsa_form old new lsas items k is all h.appended, subst AreLsasOfBytes (take_all k items all ∙ is) h.whole)

-- ---- the lines after the header

-- after the old text stands that of the lines before the k-th, and their LSAs are whole
pub record LinesAppended (old new : List ℕ) (lines : List Line) (k : ℕ) : Type 0 where
  pub appended : Appended old new (map form_of (take k lines))
  pub lsas : All HasWholeLsa (take k lines)

pub lines_item : (old mid new : List ℕ) (lines : List Line) (k : ℕ) (x : Line) → k < length lines → x ≡ get_or lines k x → All HasKind lines → LinesAppended old mid lines k
    → new ≡ mid ++ ended (form_of x) → (HasKind x → IsForm (form_of x)) → HasWholeLsa x → LinesAppended old new lines (k + 1)
lines_item old mid new lines k x below is kinds h written legal whole = record {
  appended = appended_line form_of old mid new lines k x below is h.appended written (legal (subst HasKind (sym is) (kinds k x below)));
  lsas = All-more HasWholeLsa lines k x below h.lsas (subst HasWholeLsa is whole);
}

pub lines_none : (old : List ℕ) (lines : List Line) → LinesAppended old old lines 0
lines_none old lines = record { appended = appended_none old; lsas = All-nil HasWholeLsa }

-- what was written into an empty text is what is appended
pub piece_appended : (old new piece was line : List ℕ) → new ≡ old ++ piece → piece ≡ was ++ line → was ≡ [] → new ≡ old ++ line
piece_appended old new piece was line added made empty = added ∙ ap (λ text. old ++ text) (made ∙ ap (λ text. text ++ line) empty)

-- the base and all lines
pub recording_appended : (old mid new : List ℕ) (r : RecordingValue) (v : Version) (b : Base) (items : List Line) (k : ℕ) → v ≡ r.version → b ≡ r.base → items ≡ r.lines → length items ≤ k
    → mid ≡ old ++ text_of_forms (front_forms v b) → All IsForm (front_forms v b) → LinesAppended mid new items k → Appended old new (forms_of r) × All HasWholeLsa r.lines
recording_appended old mid new r v b items k version same is all written legal h =
    let whole : take k items ≡ r.lines = take_all k items all ∙ is in
    let at : Appended old mid (front_forms v r.base) = subst (λ base. Appended old mid (front_forms v base)) same (record { text = written; legal = legal }) in
    let front : Appended old mid (front_forms r.version r.base) = subst (λ w. Appended old mid (front_forms w r.base)) version at in
    let rest : Appended mid new (map form_of r.lines) = subst (λ lines. Appended mid new (map form_of lines)) whole h.appended in
    (appended_more old mid new (front_forms r.version r.base) (map form_of r.lines) front rest.text rest.legal, subst (All HasWholeLsa) whole h.lsas)
