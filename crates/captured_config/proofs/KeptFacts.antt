-- The facts that are kept give the same results as the LSAs themselves.
use Rattle.std.proofs.Common.{◌≡◌, ◌∙◌, ◌&&◌, ◌||◌, ◌==◌, ◌++◌, Bool, true, false, cond, List, [], ◌∷◌, ℕ, Option, Some, None, map, fold, refl, sym, ap, append-nil}
use Rattle.std.specs.Prelude.{is_none, is_some, not}
use Rattle.std.specs.List.{cons_option, flat_map, filter_map, list_any}
use Rattle.std.specs.Option.{option_or}
use Rattle.std.proofs.lemmas.List.Concat.{flat_map-append, flat_map-cons}
use Rattle.std.proofs.lemmas.List.Elements.{filter_map-append}
use Rattle.ospf_types.specs.Lsa.{Lsa}
use Rattle.ospf_types.specs.declared.config.AreaConfig.{AreaConfig}
use Rattle.ospf_types.specs.declared.lsa.Link.{Link}
use Rattle.captured_config.specs.declared.fact.LsaFacts.{LsaFacts}
use Rattle.captured_config.specs.declared.found.Found.{Found}
use Rattle.captured_config.specs.Lsas.{AreaLsa, Captured, has_router_lsa, is_counted, is_own_router_lsa, links_from, links_in, links_within, lsa_in, with_lsa}
use Rattle.captured_config.specs.StubAreas.{default_cost, default_metric, has_other_summary, is_cost_unknown, is_stub_area}
use Rattle.captured_config.specs.Interfaces.{interface_at, interfaces_in, is_new, none_found, peer_of, with_interface, with_interfaces_of, with_link, with_own, with_stub_links}
use Rattle.captured_config.specs.Configs.{area_of, config_with}
use Rattle.captured_config.specs.Facts.{AreFacts, FactLists, Facts, back_from, facts_in, facts_of, own_from, own_link, tells, told_from, told_of, with_facts}
use Rattle.captured_config.specs.Finding.{area_by, back_in, config_by, default_cost_by, interfaces_by, is_cost_unknown_by, is_stub_area_by, own_in, peer_by, tells_default, tells_no_externals, tells_other, tells_own, with_interfaces_by}
use Rattle.captured_config.specs.Unknown.{area_lines, area_lines_by, area_lines_with, router_lines, unknown_by, unknown_with}
use Rattle.captured_config.proofs.Neighbours.{same_peer}

-- ---- one more LSA

flat_more : {A : Type 0} (f : AreaLsa → List A) (xs : List AreaLsa) (x : AreaLsa) → flat_map f xs ++ f x ≡ flat_map f (xs ++ x ∷ [])
flat_more f xs x = ap (λ ys. flat_map f xs ++ ys) (sym (flat_map-cons f x [] ∙ append-nil (f x))) ∙ sym (flat_map-append f xs (x ∷ []))

pub facts_more : (router : ℕ) (lsas : List AreaLsa) (x : AreaLsa) → with_facts router (facts_in router lsas) x ≡ facts_in router (lsas ++ x ∷ [])
facts_more router lsas x =
    let own : flat_map (own_from router) lsas ++ own_from router x ≡ flat_map (own_from router) (lsas ++ x ∷ []) = flat_more (own_from router) lsas x in
    let back : flat_map (back_from router) lsas ++ back_from router x ≡ flat_map (back_from router) (lsas ++ x ∷ []) = flat_more (back_from router) lsas x in
    let told : filter_map (told_from router) lsas ++ cons_option (told_from router x) [] ≡ filter_map (told_from router) (lsas ++ x ∷ []) = sym (filter_map-append (told_from router) lsas (x ∷ [])) in
    cc

pub counted : (c : Captured) (area : ℕ) (l : Lsa) (old new : Facts) → AreFacts c old → is_counted old.router l ≡ true → new ≡ record { router = old.router; lists = with_facts old.router old.lists (lsa_in area l) } → AreFacts (with_lsa c area l) new
counted c area l old new are counts is =
    is
    ∙ ap (λ (f : Facts). record { router = f.router; lists = with_facts f.router f.lists (lsa_in area l) }) are
    ∙ ap (λ (f : FactLists). record { router = c.router; lists = f }) (facts_more c.router c.lsas (lsa_in area l))
    ∙ ap (λ (b : Bool). facts_of (cond b (record c { lsas = c.lsas ++ lsa_in area l ∷ [] }) c)) (sym (sym (ap (λ (f : Facts). is_counted f.router l) are) ∙ counts))

-- ---- the facts that are not links

left : (a b : Bool) → (a || b) ≡ false → a ≡ false
left true b none = none
left false b none = refl

right : (a b : Bool) → (a || b) ≡ false → b ≡ false
right true b none = absurd cc
right false b none = none

and_none : (a b : Bool) → b ≡ false → (a && b) ≡ false
and_none true b none = none
and_none false b none = refl

no_value : (o : Option ℕ) → is_some o ≡ false → o ≡ None
no_value None none = refl
no_value (Some n) none = absurd cc

no_choice : (is : Bool) (cost : Option ℕ) → option_or (cond is None None) cost ≡ cost
no_choice true cost = refl
no_choice false cost = refl

-- an LSA without facts is not kept, and passes no test
module _ (t : LsaFacts) (silent : tells t ≡ false) (area : ℕ) where
  not_own : tells_own area t ≡ false
  not_own = and_none (t.area == area) t.is_own (left t.is_own _ silent)

  not_first : (t.lacks_externals || (is_some t.default || t.has_other_summary)) ≡ false
  not_first = right t.is_own _ silent

  not_without : tells_no_externals area t ≡ false
  not_without = and_none (t.area == area) t.lacks_externals (left t.lacks_externals _ not_first)

  not_second : (is_some t.default || t.has_other_summary) ≡ false
  not_second = right t.lacks_externals _ not_first

  not_other : tells_other area t ≡ false
  not_other = and_none (t.area == area) t.has_other_summary (right (is_some t.default) _ not_second)

  no_default : (cost : Option ℕ) → option_or (tells_default area t) cost ≡ cost
  no_default cost =
      ap (λ (o : Option ℕ). option_or (cond (t.area == area) o None) cost) (no_value t.default (left (is_some t.default) _ not_second)) ∙ no_choice (t.area == area) cost

module _ (router : ℕ) where
  any_told : (p : LsaFacts → Bool) → ((t : LsaFacts) → tells t ≡ false → p t ≡ false) → (xs : List AreaLsa) → list_any p (filter_map (told_from router) xs) ≡ list_any (λ x. p (told_of router x)) xs
  any_told p none [] = refl
  any_told p none (x ∷ xs) =
      let t = told_of router x in
      let rest = filter_map (told_from router) xs in
      elim (tells t) as (λ b. tells t ≡ b → list_any p (cons_option (cond b (Some t) None) rest) ≡ (p t || list_any (λ y. p (told_of router y)) xs)) [
        | true ↦ λ is. ap (λ b. p t || b) (any_told p none xs)
        | false ↦ λ is. any_told p none xs ∙ ap (λ b. b || list_any (λ y. p (told_of router y)) xs) (sym (none t is))
      ] refl

  same_cost : (area : ℕ) (cost : Option ℕ) (xs : List AreaLsa)
      → fold (λ cost t. option_or (tells_default area t) cost) cost (filter_map (told_from router) xs) ≡ fold (λ cost x. option_or (default_metric area router x) cost) cost xs
  same_cost area cost [] = refl
  same_cost area cost (x ∷ xs) =
      let t = told_of router x in
      let rest = filter_map (told_from router) xs in
      let more : Option ℕ = option_or (default_metric area router x) cost in
      elim (tells t) as (λ b. tells t ≡ b → fold (λ cost t. option_or (tells_default area t) cost) cost (cons_option (cond b (Some t) None) rest) ≡ fold (λ cost x. option_or (default_metric area router x) cost) more xs) [
        | true ↦ λ is. same_cost area more xs
        | false ↦ λ is. same_cost area cost xs ∙ ap (λ (k : Option ℕ). fold (λ cost x. option_or (default_metric area router x) cost) k xs) (sym (no_default t is area cost))
      ] refl

module _ (c : Captured) where
  same_stub_area : (area : ℕ) → is_stub_area_by area (filter_map (told_from c.router) c.lsas) ≡ is_stub_area area c.lsas
  same_stub_area area = ap (λ b. not (area == 0) && b) (any_told c.router (tells_no_externals area) (λ t silent. not_without t silent area) c.lsas)

  same_area : (area : ℕ) → area_by (filter_map (told_from c.router) c.lsas) area ≡ area_of c area
  same_area area =
      let is = same_stub_area area in
      let cost : default_cost_by area (filter_map (told_from c.router) c.lsas) ≡ default_cost area c.router c.lsas = same_cost c.router area None c.lsas in
      let other : list_any (tells_other area) (filter_map (told_from c.router) c.lsas) ≡ has_other_summary area c.router c.lsas = any_told c.router (tells_other area) (λ t silent. not_other t silent area) c.lsas in
      rw (is, cost, other) refl

  same_areas : (ids : List ℕ) → map (area_by (filter_map (told_from c.router) c.lsas)) ids ≡ map (area_of c) ids
  same_areas [] = refl
  same_areas (k ∷ ks) = ap (λ (a : AreaConfig). a ∷ map (area_by (filter_map (told_from c.router) c.lsas)) ks) (same_area k) ∙ ap (λ (rest : List AreaConfig). area_of c k ∷ rest) (same_areas ks)

  pub same_config : (ids : List ℕ) → config_by (facts_of c) ids ≡ config_with c ids
  same_config ids = ap (λ (areas : List AreaConfig). record { router = c.router; compat = false; areas = areas }) (same_areas ids)

-- ---- the router's links

mapped : {A B C : Type 0} (h : B → Option C) (f : A → B) (xs : List A) → filter_map h (map f xs) ≡ filter_map (λ x. h (f x)) xs
mapped h f [] = refl
mapped h f (x ∷ xs) = ap (cons_option (h (f x))) (mapped h f xs)

all_or_none : (is : Bool) (ls : List Link) → filter_map (λ l. cond is (Some l) None) ls ≡ cond is ls []
all_or_none true [] = refl
all_or_none false [] = refl
all_or_none true (l ∷ ls) = ap (λ (ks : List Link). l ∷ ks) (all_or_none true ls)
all_or_none false (l ∷ ls) = all_or_none false ls

none_of : (is : Bool) (ls : List Link) → [] ≡ cond (is && false) ls []
none_of true ls = refl
none_of false ls = refl

and_true : (is : Bool) (ls : List Link) → cond is ls [] ≡ cond (is && true) ls []
and_true true ls = refl
and_true false ls = refl

own_links : (area router : ℕ) (x : AreaLsa) → own_in area (own_from router x) ≡ links_from area router x
own_links area router x =
    let links : List Link = links_within x.lsa in
    elim (is_own_router_lsa router x.lsa) as (λ own. own_in area (cond own (map (own_link x.area) links) []) ≡ cond ((x.area == area) && own) links []) [
      | true ↦ mapped (λ o. cond (o.area == area) (Some o.link) None) (own_link x.area) links ∙ all_or_none (x.area == area) links ∙ and_true (x.area == area) links
      | false ↦ none_of (x.area == area) links
    ]

pub same_links : (area router : ℕ) (lsas : List AreaLsa) → own_in area (flat_map (own_from router) lsas) ≡ links_in area router lsas
same_links area router [] = refl
same_links area router (x ∷ xs) =
    ap (own_in area) (flat_map-cons (own_from router) x xs)
    ∙ filter_map-append (λ o. cond (o.area == area) (Some o.link) None) (own_from router x) (flat_map (own_from router) xs)
    ∙ ap (λ (ls : List Link). ls ++ own_in area (flat_map (own_from router) xs)) (own_links area router x)
    ∙ ap (λ (ls : List Link). links_from area router x ++ ls) (same_links area router xs)
    ∙ sym (flat_map-cons (links_from area router) x xs)

-- ---- interfaces

links_with : (area : ℕ) (p q : Link → ℕ) → ((l : Link) → p l ≡ q l) → (own : List Link) (f : Found) → fold (with_link area p) f own ≡ fold (with_link area q) f own
links_with area p q same [] f = refl
links_with area p q same (l ∷ own) f =
    ap (λ (g : Found). fold (with_link area p) g own) (ap (λ (n : ℕ). cond (is_new area f l) (with_interface f (interface_at area l.detail n)) f) (same l))
    ∙ links_with area p q same own (with_link area q f l)

module _ (router : ℕ) (lsas : List AreaLsa) where
  same_one : (f : Found) (area : ℕ) → with_interfaces_by (facts_in router lsas) f area ≡ with_interfaces_of router lsas f area
  same_one f area =
      let back = back_in area (flat_map (back_from router) lsas) in
      ap (λ (own : List Link). with_own area (peer_by own back) own f) (same_links area router lsas)
      ∙ ap (with_stub_links area (links_in area router lsas))
      (links_with area (peer_by (links_in area router lsas) back) (peer_of area router lsas (links_in area router lsas)) (same_peer router area lsas (links_in area router lsas)) (links_in area router lsas) f)

  same_from : (f : Found) (ids : List ℕ) → fold (with_interfaces_by (facts_in router lsas)) f ids ≡ fold (with_interfaces_of router lsas) f ids
  same_from f [] = refl
  same_from f (k ∷ ks) = ap (λ (g : Found). fold (with_interfaces_by (facts_in router lsas)) g ks) (same_one f k) ∙ same_from (with_interfaces_of router lsas f k) ks

  pub same_interfaces : (ids : List ℕ) → interfaces_by (facts_in router lsas) ids ≡ interfaces_in router lsas ids
  same_interfaces ids = same_from none_found ids

-- ---- what is not known

module _ (c : Captured) where
  same_lines : (area : ℕ) → area_lines_by (facts_of c) area ≡ area_lines c area
  same_lines area =
      let own : list_any (tells_own area) (filter_map (told_from c.router) c.lsas) ≡ has_router_lsa area c.router c.lsas = any_told c.router (tells_own area) (λ t silent. not_own t silent area) c.lsas in
      let cost : is_cost_unknown_by area (filter_map (told_from c.router) c.lsas) ≡ is_cost_unknown area c.router c.lsas =
      ap (λ b. b && is_none (default_cost_by area (filter_map (told_from c.router) c.lsas))) (same_stub_area c area) ∙ ap (λ (k : Option ℕ). is_stub_area area c.lsas && is_none k) (same_cost c.router area None c.lsas) in
      ap (λ b. area_lines_with c.router area b (is_cost_unknown_by area (filter_map (told_from c.router) c.lsas))) own ∙ ap (area_lines_with c.router area (has_router_lsa area c.router c.lsas)) cost

  all_lines : (ids : List ℕ) → flat_map (area_lines_by (facts_of c)) ids ≡ flat_map (area_lines c) ids
  all_lines [] = refl
  all_lines (k ∷ ks) =
      flat_map-cons (area_lines_by (facts_of c)) k ks
      ∙ ap (λ (t : List ℕ). t ++ flat_map (area_lines_by (facts_of c)) ks) (same_lines k)
      ∙ ap (λ (t : List ℕ). area_lines c k ++ t) (all_lines ks)
      ∙ sym (flat_map-cons (area_lines c) k ks)

  pub same_unknown : (ids : List ℕ) → unknown_by (facts_of c) ids ≡ unknown_with c ids
  same_unknown ids =
      ap (λ (t : List ℕ). t ++ router_lines ids (interfaces_by (facts_in c.router c.lsas) ids)) (all_lines ids)
      ∙ ap (λ (f : Found). flat_map (area_lines c) ids ++ router_lines ids f) (same_interfaces c.router c.lsas ids)
