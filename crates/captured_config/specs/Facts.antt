-- The facts that are kept of the LSAs of a capture: those about the router, and no LSA.
use Rattle.std.specs.Prelude.{ℕ, ◌≡◌, ◌==◌, ◌&&◌, ◌||◌, ◌++◌, Bool, if◌then◌else◌, List, [], Option, Some, None, map, is_some}
use Rattle.std.specs.List.{cons_option, flat_map, filter_map}
use Rattle.ospf_types.specs.declared.lsa.Link.{Link}
use Rattle.captured_config.specs.declared.fact.OwnLink.{OwnLink}
use Rattle.captured_config.specs.declared.fact.LinkBack.{LinkBack}
use Rattle.captured_config.specs.declared.fact.LsaFacts.{LsaFacts}
use Rattle.captured_config.specs.Lsas.{AreaLsa, Captured, is_own_router_lsa, lacks_externals, links_within}
use Rattle.captured_config.specs.StubAreas.{default_route, other_network}
use Rattle.captured_config.specs.Interfaces.{is_point_to_point}

-- links of the router's own router-LSAs, links of any router-LSA that lead back to it, and the
-- other facts of each LSA
pub record FactLists : Type 0 where
  pub own : List OwnLink
  pub back : List LinkBack
  pub told : List LsaFacts

pub record Facts : Type 0 where
  pub router : ℕ
  pub lists : FactLists

-- ---- of one LSA

-- a link of the router in the area
abbrev pub own_link : (area : ℕ) → Link → OwnLink
own_link area l = record { area = area; link = l }

-- the links of a router-LSA of the router
abbrev pub own_from : (router : ℕ) → AreaLsa → List OwnLink
own_from router x = if is_own_router_lsa router x.lsa then map (own_link x.area) (links_within x.lsa) else []

-- a point-to-point link that names the router: whose it is, and from which address
abbrev pub link_back_at : (router area neighbour : ℕ) → Link → Option LinkBack
link_back_at router area neighbour l =
    if is_point_to_point l.kind && (l.id == router) then Some (record { area = area; router = neighbour; address = l.detail }) else None

-- those of a router-LSA
abbrev pub back_from : (router : ℕ) → AreaLsa → List LinkBack
back_from router x = if x.lsa.header.kind == 1 then filter_map (link_back_at router x.area x.lsa.header.router) (links_within x.lsa) else []

-- its other facts
abbrev pub told_of : (router : ℕ) → AreaLsa → LsaFacts
told_of router x = record {
  area = x.area;
  is_own = is_own_router_lsa router x.lsa;
  lacks_externals = lacks_externals x.lsa;
  default = default_route router x.lsa;
  has_other_summary = is_some (other_network router x.lsa);
}

-- true if it has any fact
abbrev pub tells : LsaFacts → Bool
tells t = t.is_own || (t.lacks_externals || (is_some t.default || t.has_other_summary))

abbrev pub told_from : (router : ℕ) → AreaLsa → Option LsaFacts
told_from router x = if tells (told_of router x) then Some (told_of router x) else None

-- ---- of all

abbrev pub no_facts : FactLists
no_facts = record { own = []; back = []; told = [] }

abbrev pub with_lists : FactLists → List OwnLink → List LinkBack → Option LsaFacts → FactLists
with_lists f own back told = record { own = f.own ++ own; back = f.back ++ back; told = f.told ++ cons_option told [] }

-- and of one more LSA
abbrev pub with_facts : (router : ℕ) → FactLists → AreaLsa → FactLists
with_facts router f x = with_lists f (own_from router x) (back_from router x) (told_from router x)

abbrev pub facts_in : (router : ℕ) → List AreaLsa → FactLists
facts_in router lsas = record { own = flat_map (own_from router) lsas; back = flat_map (back_from router) lsas; told = filter_map (told_from router) lsas }

abbrev pub facts_of : Captured → Facts
facts_of c = record { router = c.router; lists = facts_in c.router c.lsas }

-- These facts are kept of the LSAs that count.
abbrev pub AreFacts : Captured → Facts → Type 0
AreFacts c f = f ≡ facts_of c
