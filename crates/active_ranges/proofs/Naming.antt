-- The members that named networks may be.
use Rattle.std.proofs.Common.{◌≡◌, ℕ, List, [], refl, sym, subst, ◌∙◌, ap, inl, inr}
use Rattle.std.specs.Prelude.{◌↔◌, Contains}
use Rattle.ospf_types.specs.declared.config.AreaConfig.{AreaConfig}
use Rattle.ospf_types.specs.declared.config.Range.{Range}
use Rattle.ospf_types.specs.declared.key.Dest.{Dest}
use Rattle.ospf_types.specs.declared.key.Dest.TheVariants.{Net}
use Rattle.ospf_types.specs.declared.prefix.Prefix.{Prefix}
use Rattle.ospf_types.specs.Address.{Covers}
use Rattle.ospf_types.proofs.Elements.{no_element}
use Rattle.route_choice.specs.Lists.{IsOfSome}
use Rattle.active_ranges.specs.declared.member.AreaRange.{AreaRange}
use Rattle.active_ranges.specs.declared.member.RangeMember.{RangeMember}
use Rattle.active_ranges.specs.Following.{HasMore, IsNamed, IsNamedAs, IsNamedIn, IsNamedOf}

-- ---- members that are named

abbrev pub one_range : ℕ → Range → AreaRange
one_range area r = record { prefix = r.prefix; area = area }

pub named_of : (range : AreaRange) (dests : List Dest) (m : RangeMember) → IsOfSome dests (IsNamedAs range) m ↔ IsNamedOf range dests m
named_of range dests m = (
  λ w. (subst (λ (d : Dest). Contains dests d) w.2.0 w.1, w.2.1, w.2.2, w.2.3),
  λ n. (Net m.network, n.0, (refl, n.1, n.2, n.3)),
)

pub named_in : (a : AreaConfig) (dests : List Dest) (m : RangeMember) → IsOfSome a.ranges (λ (r : Range). IsNamedOf (one_range a.id r) dests) m ↔ IsNamedIn a dests m
named_in a dests m = (
  λ w. let n = w.2 in (n.0, n.2, (w.0, w.1, n.1), subst (λ (p : Prefix). Covers p m.network) n.1 n.3),
  λ n. (n.2.0, n.2.1, (n.0, n.2.2, n.1, subst (λ (p : Prefix). Covers p m.network) (sym n.2.2) n.3)),
)

pub named : (areas : List AreaConfig) (dests : List Dest) (m : RangeMember) → IsOfSome areas (λ (a : AreaConfig). IsNamedIn a dests) m ↔ IsNamed areas dests m
named areas dests m = (
  λ w. let n = w.2 in (n.0, (w.0, n.2.0, w.1, n.1, n.2.1, n.2.2), n.3),
  λ n. let c = n.1 in (c.0, c.2, (n.0, c.3, (c.1, c.4, c.5), n.2)),
)

-- from no members
pub all_named : (areas : List AreaConfig) (dests : List Dest) (members : List RangeMember) → HasMore (IsOfSome areas (λ (a : AreaConfig). IsNamedIn a dests)) [] members → (m : RangeMember) → Contains members m ↔ IsNamed areas dests m
all_named areas dests members more m = (
  λ c. elim ((more m).0 c) [ inl none ↦ absurd (no_element m none) | inr some ↦ (named areas dests m).0 some ],
  λ n. (more m).1 (inr ((named areas dests m).1 n)),
)

-- the network that a range covers is a member of it, and no other is named by it
pub covered : (range : AreaRange) (dest : Dest) (network : Prefix) → dest ≡ Net network → Covers range.prefix network → (m : RangeMember) → IsNamedAs range dest m ↔ (m ≡ record { range = range.prefix; area = range.area; network = network })
covered range dest network is covers m = (
  λ n.
      let same : network ≡ m.network = same_network (sym is ∙ n.0) in
      λ i. record { range = (sym n.1) i; area = (sym n.2) i; network = (sym same) i },
  λ e. (is ∙ ap (λ (x : RangeMember). Net x.network) (sym e), ap (λ (x : RangeMember). x.range) (sym e), ap (λ (x : RangeMember). x.area) (sym e), subst (λ (p : Prefix). Covers range.prefix p) (ap (λ (x : RangeMember). x.network) (sym e)) covers),
)
  where
    same_network : {p q : Prefix} → Net p ≡ Net q → p ≡ q
    same_network e = cc

pub not_covered : (range : AreaRange) (dest : Dest) (network : Prefix) → dest ≡ Net network → (Covers range.prefix network → ⊥) → (m : RangeMember) → IsNamedAs range dest m → ⊥
not_covered range dest network is outside m n = outside (subst (λ (p : Prefix). Covers range.prefix p) (same_network (sym n.0 ∙ is)) n.3)
  where
    same_network : {p q : Prefix} → Net p ≡ Net q → p ≡ q
    same_network e = cc
