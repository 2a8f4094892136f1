-- The derived orders of keys, scopes, networks and destinations are those that the definitions
-- state.
use Rattle.std.proofs.Common.{◌≡◌, Ordering, refl, sym, subst}
use Rattle.std.proofs.lemmas.Map.Lookups.{CmpEqualImpliesEq}
use Rattle.ospf_types.specs.declared.key.Dest.{Dest}
use Rattle.ospf_types.specs.declared.key.Dest.TheVariants.{Net, Router}
use Rattle.ospf_types.specs.declared.key.Scope.{Scope}
use Rattle.ospf_types.specs.declared.key.Scope.TheVariants.{Area, As}
use Rattle.ospf_types.specs.contracts.key.DestOrd.TheImpl as dest_order
use Rattle.ospf_types.specs.contracts.key.KeyOrd.TheImpl as key_order
use Rattle.ospf_types.specs.contracts.key.ScopeOrd.TheImpl as scope_order
use Rattle.ospf_types.specs.contracts.prefix.PrefixOrd.TheImpl as prefix_order
use Rattle.ospf_types.specs.Keys.{key_cmp, scope_cmp, dest_cmp}
use Rattle.ospf_types.specs.Network.{network_cmp}
use Rattle.ospf_types.proofs.Orders.{scope_exact, dest_exact}

pub key_cmp_is : key_order.ghosts.cmp ≡ key_cmp
key_cmp_is = refl

pub network_cmp_is : prefix_order.ghosts.cmp ≡ network_cmp
network_cmp_is = refl

scope_cmp_at : (x y : Scope) → scope_order.ghosts.cmp x y ≡ scope_cmp x y
scope_cmp_at (Area a) (Area b) = refl
scope_cmp_at (Area a) As = refl
scope_cmp_at As (Area b) = refl
scope_cmp_at As As = refl

pub scope_cmp_is : scope_order.ghosts.cmp ≡ scope_cmp
scope_cmp_is = λ i x y. scope_cmp_at x y i

-- scopes that tie are one
pub scope_order_exact : CmpEqualImpliesEq scope_order.ghosts.cmp
scope_order_exact = subst (λ (R : Scope → Scope → Ordering). CmpEqualImpliesEq R) (sym scope_cmp_is) scope_exact

dest_cmp_at : (x y : Dest) → dest_order.ghosts.cmp x y ≡ dest_cmp x y
dest_cmp_at (Net p) (Net q) = refl
dest_cmp_at (Net p) (Router s) = refl
dest_cmp_at (Router r) (Net q) = refl
dest_cmp_at (Router r) (Router s) = refl

pub dest_cmp_is : dest_order.ghosts.cmp ≡ dest_cmp
dest_cmp_is = λ i x y. dest_cmp_at x y i

-- destinations that tie are one
pub dest_order_exact : CmpEqualImpliesEq dest_order.ghosts.cmp
dest_order_exact = subst (λ (R : Dest → Dest → Ordering). CmpEqualImpliesEq R) (sym dest_cmp_is) dest_exact
