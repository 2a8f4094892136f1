-- The addresses of neighbours, by the links back that are kept.
use Rattle.std.proofs.Common.{◌≡◌, ◌∙◌, ◌&&◌, ◌==◌, ◌++◌, Bool, true, false, cond, List, [], ◌∷◌, ℕ, Some, None, refl, sym, ap}
use Rattle.std.specs.List.{cons_option, flat_map, filter_map, list_any}
use Rattle.std.proofs.lemmas.List.Concat.{flat_map-cons}
use Rattle.std.proofs.lemmas.List.Elements.{filter-append}
use Rattle.ospf_types.specs.declared.lsa.Link.{Link}
use Rattle.captured_config.specs.declared.fact.LinkBack.{LinkBack}
use Rattle.captured_config.specs.Lsas.{AreaLsa, links_from, links_in, links_within}
use Rattle.captured_config.specs.Facts.{back_from, link_back_at}
use Rattle.captured_config.specs.Interfaces.{is_link_back, is_point_to_point, joins, link_back, peer_of}
use Rattle.captured_config.specs.Finding.{back_in, first_back, leads_back, peer_by}

-- ---- the first, or else this address

abbrev first_or : (own : List Link) (address neighbour none : ℕ) → List LinkBack → ℕ
first_or own address neighbour none [] = none
first_or own address neighbour none (b ∷ bs) = cond (leads_back own address neighbour b) b.address (first_or own address neighbour none bs)

abbrev link_or : (router : ℕ) (own : List Link) (address none : ℕ) → List Link → ℕ
link_or router own address none [] = none
link_or router own address none (l ∷ ls) = cond (is_link_back router own address l) l.detail (link_or router own address none ls)

first_is : (own : List Link) (address neighbour : ℕ) (bs : List LinkBack) → first_back own address neighbour bs ≡ first_or own address neighbour 0 bs
first_is own address neighbour [] = refl
first_is own address neighbour (b ∷ bs) = ap (cond (leads_back own address neighbour b) b.address) (first_is own address neighbour bs)

link_is : (router : ℕ) (own : List Link) (address : ℕ) (ls : List Link) → link_back router own address ls ≡ link_or router own address 0 ls
link_is router own address [] = refl
link_is router own address (l ∷ ls) = ap (cond (is_link_back router own address l) l.detail) (link_is router own address ls)

first_append : (own : List Link) (address neighbour none : ℕ) (bs cs : List LinkBack)
    → first_or own address neighbour none (bs ++ cs) ≡ first_or own address neighbour (first_or own address neighbour none cs) bs
first_append own address neighbour none [] cs = refl
first_append own address neighbour none (b ∷ bs) cs = ap (cond (leads_back own address neighbour b) b.address) (first_append own address neighbour none bs cs)

link_append : (router : ℕ) (own : List Link) (address none : ℕ) (ls ks : List Link) → link_or router own address none (ls ++ ks) ≡ link_or router own address (link_or router own address none ks) ls
link_append router own address none [] ks = refl
link_append router own address none (l ∷ ls) ks = ap (cond (is_link_back router own address l) l.detail) (link_append router own address none ls ks)

-- ---- the links of one router-LSA

and_assoc : (a b c : Bool) → (a && (b && c)) ≡ ((a && b) && c)
and_assoc true b c = refl
and_assoc false b c = refl

same_cond : (b : Bool) (n : ℕ) → n ≡ cond b n n
same_cond true n = refl
same_cond false n = refl

-- one more link back, of which area and neighbour are tested, or are known
one_more : (area neighbour joins : Bool) (at more none first : ℕ) → first ≡ cond (area && neighbour) more none
    → cond area (cond (neighbour && joins) at first) first ≡ cond (area && neighbour) (cond joins at more) none
one_more true true joins at more none first is = ap (cond joins at) is
one_more true false joins at more none first is = is
one_more false neighbour joins at more none first is = is

module _ (router area : ℕ) (own : List Link) (address neighbour : ℕ) where
  first_if : (none : ℕ) (is : Bool) (b : LinkBack) (bs : List LinkBack)
      → first_or own address neighbour none (cond is (b ∷ bs) bs) ≡ cond is (cond (leads_back own address neighbour b) b.address (first_or own address neighbour none bs)) (first_or own address neighbour none bs)
  first_if none true b bs = refl
  first_if none false b bs = refl

  kept_links : (its_area its_router none : ℕ) (ls : List Link)
      → first_or own address neighbour none (back_in area (filter_map (link_back_at router its_area its_router) ls)) ≡ cond ((its_area == area) && (its_router == neighbour)) (link_or router own address none ls) none
  kept_links its_area its_router none [] = same_cond ((its_area == area) && (its_router == neighbour)) none
  kept_links its_area its_router none (l ∷ ls) =
      let b : LinkBack = record { area = its_area; router = its_router; address = l.detail } in
      let bs : List LinkBack = filter_map (link_back_at router its_area its_router) ls in
      let more : ℕ = link_or router own address none ls in
      let joined : Bool = list_any (joins address l.detail) own in
      let rest : first_or own address neighbour none (back_in area bs) ≡ cond ((its_area == area) && (its_router == neighbour)) more none = kept_links its_area its_router none ls in
      elim (is_point_to_point l.kind && (l.id == router)) as (λ q. first_or own address neighbour none (back_in area (cons_option (cond q (Some b) None) bs)) ≡ cond ((its_area == area) && (its_router == neighbour)) (cond (q && joined) l.detail more) none) [
        | true ↦
            first_if none (its_area == area) b (back_in area bs)
            ∙ one_more (its_area == area) (its_router == neighbour) joined l.detail more none (first_or own address neighbour none (back_in area bs)) rest
        | false ↦ rest
      ]
      ∙ ap (λ t. cond ((its_area == area) && (its_router == neighbour)) (cond t l.detail more) none) (sym (and_assoc (is_point_to_point l.kind) (l.id == router) joined))

  links_if : (none : ℕ) (is : Bool) (ls : List Link) → cond is (link_or router own address none ls) none ≡ link_or router own address none (cond is ls [])
  links_if none true ls = refl
  links_if none false ls = refl

  no_links : (none : ℕ) (is : Bool) (ls : List Link) → none ≡ link_or router own address none (cond (is && false) ls [])
  no_links none true ls = refl
  no_links none false ls = refl

  kept_from : (none : ℕ) (x : AreaLsa) → first_or own address neighbour none (back_in area (back_from router x)) ≡ link_or router own address none (links_from area neighbour x)
  kept_from none x =
      let links : List Link = links_within x.lsa in
      elim (x.lsa.header.kind == 1) as (λ k. first_or own address neighbour none (back_in area (cond k (filter_map (link_back_at router x.area x.lsa.header.router) links) [])) ≡ link_or router own address none (cond ((x.area == area) && (k && (x.lsa.header.router == neighbour))) links [])) [
        | true ↦ kept_links x.area x.lsa.header.router none links ∙ links_if none ((x.area == area) && (x.lsa.header.router == neighbour)) links
        | false ↦ no_links none (x.area == area) links
      ]

  -- ---- of all

  kept_in : (none : ℕ) (lsas : List AreaLsa) → first_or own address neighbour none (back_in area (flat_map (back_from router) lsas)) ≡ link_or router own address none (links_in area neighbour lsas)
  kept_in none [] = refl
  kept_in none (x ∷ xs) =
      let back : List LinkBack = back_in area (flat_map (back_from router) xs) in
      ap (λ bs. first_or own address neighbour none (back_in area bs)) (flat_map-cons (back_from router) x xs)
      ∙ ap (first_or own address neighbour none) (filter-append (λ b. b.area == area) (back_from router x) (flat_map (back_from router) xs))
      ∙ first_append own address neighbour none (back_in area (back_from router x)) back
      ∙ kept_from (first_or own address neighbour none back) x
      ∙ ap (λ n. link_or router own address n (links_from area neighbour x)) (kept_in none xs)
      ∙ sym (link_append router own address none (links_from area neighbour x) (links_in area neighbour xs))
      ∙ ap (link_or router own address none) (sym (flat_map-cons (links_from area neighbour) x xs))

-- the neighbour of each link
pub same_peer : (router area : ℕ) (lsas : List AreaLsa) (own : List Link) (l : Link) → peer_by own (back_in area (flat_map (back_from router) lsas)) l ≡ peer_of area router lsas own l
same_peer router area lsas own l =
    ap (λ n. cond (is_point_to_point l.kind) n 0)
    (first_is own l.detail l.id (back_in area (flat_map (back_from router) lsas))
    ∙ kept_in router area own l.detail l.id 0 lsas
    ∙ sym (link_is router own l.detail (links_in area l.id lsas)))
