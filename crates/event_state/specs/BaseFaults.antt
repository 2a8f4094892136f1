-- The faults of a base: the faults of a configuration, an item listed twice, and entries that no
-- event could have made.
use Rattle.std.specs.Prelude.{ℕ, ◌==◌, ◌&&◌, ◌||◌, Bool, false, nat_lt, List, [], ◌∷◌, length, Option, Some, None, is_none, if◌then◌else◌}
use Rattle.std.specs.List.{list_any}
use Rattle.std.specs.Ordering.{eq_by_cmp}
use Rattle.ospf_types.specs.FirstOf.{first_of}
use Rattle.ospf_types.specs.declared.config.AreaConfig.{AreaConfig}
use Rattle.ospf_types.specs.declared.config.Interface.{Interface}
use Rattle.ospf_types.specs.declared.key.Scope.{Scope}
use Rattle.ospf_types.specs.declared.key.Scope.TheVariants as scope
use Rattle.ospf_types.specs.Keys.{key_cmp}
use Rattle.ospf_types.specs.Lsa.{Lsa, key_of}
use Rattle.ospf_types.specs.Configs.{config_fault_of}
use Rattle.ospf_types.specs.declared.fault.ConfigFault.{ConfigFault}
use Rattle.event_state.specs.declared.base.Base.{Base}
use Rattle.event_state.specs.declared.base_fault.BaseFault.{BaseFault}
use Rattle.event_state.specs.declared.base_fault.BaseFault.TheVariants as base_fault
use Rattle.event_state.specs.declared.base_fault.EntryFault.{EntryFault}
use Rattle.event_state.specs.declared.base_fault.EntryFault.TheVariants as unfit
use Rattle.event_state.specs.declared.limits.Limits.{Limits}
use Rattle.event_state.specs.Bases.{is_scope, lsas_under}
use Rattle.event_state.specs.States.{place_of}
use Rattle.event_state.specs.Steps.{is_out_of_scope}

-- two of a list are alike
abbrev pub has_twice : {X : Type 0} → (X → X → Bool) → List X → Bool
has_twice alike [] = false
has_twice alike (x ∷ xs) = list_any (alike x) xs || has_twice alike xs

-- one id
abbrev pub is_same_id : ℕ × Interface → ℕ × Interface → Bool
is_same_id x y = x.0 == y.0

-- one scope and one key
abbrev pub is_same_place : Scope × Lsa → Scope × Lsa → Bool
is_same_place x y = is_scope x.0 y.0 && eq_by_cmp key_cmp (key_of x.1) (key_of y.1)

-- an interface id, or a key in a scope, is listed twice
abbrev pub is_doubled : Base → Bool
is_doubled b = has_twice is_same_id b.interfaces || has_twice is_same_place b.lsas

-- the area of an interface is not configured
abbrev pub has_interface_outside : List AreaConfig → List (ℕ × Interface) → Bool
has_interface_outside areas interfaces = list_any (λ x. is_none (place_of areas (scope.Area x.1.area))) interfaces

-- the area of an LSA's scope is not configured
abbrev pub has_lsa_outside : List AreaConfig → List (Scope × Lsa) → Bool
has_lsa_outside areas lsas = list_any (λ x. is_none (place_of areas x.0)) lsas

-- the area of an interface, or that of an LSA's scope, is not configured
abbrev pub lacks_an_area : Base → Bool
lacks_an_area b = has_interface_outside b.config.areas b.interfaces || has_lsa_outside b.config.areas b.lsas

-- an AS-external-LSA is under an area, or another one under the AS
abbrev pub has_misplaced : Base → Bool
has_misplaced b = list_any (λ x. is_out_of_scope x.0 x.1.header.kind) b.lsas

-- an area has more LSAs than this many
abbrev pub has_overfull_area : List AreaConfig → List (Scope × Lsa) → (most : ℕ) → Bool
has_overfull_area areas lsas most = list_any (λ (a : AreaConfig). nat_lt most (length (lsas_under lsas (scope.Area a.id)))) areas

-- a configured scope has more LSAs than it may
abbrev pub is_overfull : Limits → Base → Bool
is_overfull limits b = has_overfull_area b.config.areas b.lsas limits.area_lsas || nat_lt limits.externals (length (lsas_under b.lsas scope.As))

-- both are up, and have one address
abbrev pub is_same_address : ℕ × Interface → ℕ × Interface → Bool
is_same_address x y = x.1.up && (y.1.up && (x.1.address == y.1.address))

-- two interfaces that are up have one address
abbrev pub has_shared_address : Base → Bool
has_shared_address b = has_twice is_same_address b.interfaces

-- what no event could have made: the first of these, in this order
abbrev pub unfit_of : Limits → Base → Option EntryFault
unfit_of limits b = first_of (
    (lacks_an_area b, unfit.NoArea)
    ∷ (has_misplaced b, unfit.Scope)
    ∷ (is_overfull limits b, unfit.Full)
    ∷ (has_shared_address b, unfit.AddressTaken)
    ∷ [])

abbrev pub unfit_fault : Option EntryFault → Option BaseFault
unfit_fault None = None
unfit_fault (Some u) = Some (base_fault.EntryFault u)

-- the fault of the configuration, or else the others
abbrev pub after_config : Option ConfigFault → Option BaseFault → Option BaseFault
after_config (Some f) others = Some (base_fault.Config f)
after_config None others = others

-- the fault that a thing is listed twice, or else the others
abbrev pub after_doubled : Bool → Option BaseFault → Option BaseFault
after_doubled doubled others = if doubled then Some base_fault.Doubled else others

-- the first fault that the base has, or `None` if a state can be made from it
abbrev pub base_fault_of : Limits → Base → Option BaseFault
base_fault_of limits b = after_config (config_fault_of b.config) (after_doubled (is_doubled b) (unfit_fault (unfit_of limits b)))
