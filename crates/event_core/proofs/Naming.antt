-- The parts that an event may change: the LSAs or the interfaces that it names, or ranges.
--   interface_names: an interface's event changes that interface
--   ranges_name: an event that sets or drops a range changes no LSA and no interface, and of the
--     configuration ranges alone
--   others_name: every event that is no interface's changes no interface
--   step_ranges: an event changes no range but the one that it sets or drops
use Rattle.std.proofs.Common.{◌≡◌, ◌≢◌, ℕ, Bool, true, false, cond, List, [], ◌∷◌, Option, Some, None, refl, sym, ap, subst, ◌∙◌, inl, inr}
use Rattle.std.specs.Prelude.{is_some}
use Rattle.std.specs.List.{Contains}
use Rattle.std.specs.Ordering.{nat_cmp, is_eq}
use Rattle.std.specs.Cmp.{nat_cmp_total}
use Rattle.std.specs.declared.cmp.Ordering.TheVariants.{Less, Equal, Greater}
use Rattle.std.specs.FinMap.{FinMap, get, insert, get-insert, nat_cmp-IsAntisymmetric}
use Rattle.ospf_types.specs.declared.config.AreaConfig.{AreaConfig}
use Rattle.ospf_types.specs.declared.config.Config.{Config}
use Rattle.ospf_types.specs.declared.config.Interface.{Interface}
use Rattle.ospf_types.specs.declared.config.Range.{Range}
use Rattle.ospf_types.specs.declared.key.Key.{Key}
use Rattle.ospf_types.specs.declared.prefix.Prefix.{Prefix}
use Rattle.ospf_types.specs.declared.key.Scope.{Scope}
use Rattle.ospf_types.specs.Lsa.{key_of}
use Rattle.ospf_types.specs.RangeChanges.{set_range, drop_range, without_ranges}
use Rattle.ospf_types.proofs.Elements.{first_element}
use Rattle.ospf_types.proofs.RangeChanges.{others_kept}
use Rattle.lsdb.specs.Databases.{Database, aged_out}
use Rattle.std.specs.FinMap.{remove}
use Rattle.event_state.specs.declared.event.Event.{Event}
use Rattle.event_state.specs.declared.event.Event.TheVariants as event
use Rattle.event_state.specs.States.{State, place_of, changed_at_place, usable_at}
use Rattle.event_state.specs.Steps.{step, range_with, with_range_change}
use Rattle.calculation.specs.Trees.{StatesDifferAmong}
use Rattle.calculation.specs.Active.{RangesDifferAt}
use Rattle.event_core.specs.Affected.{range_of}
use Rattle.event_core.proofs.OneRange.{one_range, set_others, drop_others}

-- an interface that is not set is unchanged
other_interface : (m : FinMap nat_cmp Interface) (id : ℕ) (i : Interface) (q : ℕ) → q ≢ id → get (insert m id i) q ≡ get m q
other_interface m id i q other =
    get-insert nat_cmp_total m id i q ∙ elim (nat_cmp q id) as (λ o. nat_cmp q id ≡ o → cond (is_eq o) (Some i) (get m q) ≡ get m q) [
      | Less ↦ λ e. refl
      | Equal ↦ λ e. absurd (other (nat_cmp-IsAntisymmetric q id e))
      | Greater ↦ λ e. refl
    ] refl

-- an interface's event changes that interface alone, and no LSA
pub interface_names : (s : State) (e : Event) (id area address peer : ℕ) (up : Bool) (keys : List (Scope × Key)) (ids : List ℕ) → e ≡ event.Interface id area address peer up → keys ≡ [] → ids ≡ id ∷ [] → StatesDifferAmong keys ids false s (step s e)
interface_names s e id area address peer up keys ids is none one =
    subst (λ (x : Event). StatesDifferAmong keys ids false s (step s x)) (sym is) (record {
      areas = refl;
      ranges = λ unranged. refl;
      usable = λ at key absent. refl;
      interfaces = λ q absent. other_interface s.interfaces id (record { area = area; address = address; peer = peer; up = up }) q (λ same. absent (subst (λ (xs : List ℕ). Contains xs q) (sym one) (subst (Contains (id ∷ [])) (sym same) (first_element id []))));
      one_kind = inl none;
    })

-- what an event that is no interface's leaves: of the configuration all but ranges, and these, too,
-- unless it changes them
record Leaves (ranged : Bool) (s t : State) : Type 0 where
  pub areas : without_ranges t.config ≡ without_ranges s.config
  pub ranges : ranged ≡ false → t.config ≡ s.config
  pub interfaces : t.interfaces ≡ s.interfaces

placed : (s : State) (change : Database → Database) (o : Option ℕ) → Leaves false s (changed_at_place s change o)
placed s change None = record { areas = refl; ranges = λ unranged. refl; interfaces = refl }
placed s change (Some k) = record { areas = refl; ranges = λ unranged. refl; interfaces = refl }

-- other ranges of an area, and nothing else
ranges_name : (s : State) (area : ℕ) (change : List Range → List Range) → Leaves true s (with_range_change s area change)
ranges_name s area change = record {
  areas = ap (λ (areas : List AreaConfig). let c : Config = record s.config { areas = areas } in c) (others_kept s.config.areas area change);
  ranges = λ unranged. absurd cc;
  interfaces = refl;
}

-- an event that is no interface's
abbrev pub IsOfDatabases : Event → Type 0
IsOfDatabases e = (id area address peer : ℕ) (up : Bool) → e ≢ event.Interface id area address peer up

others_leave : (s : State) (e : Event) → IsOfDatabases e → Leaves (is_some (range_of e)) s (step s e)
others_leave s (event.Install at l) other = let h = placed s (λ d. insert d (key_of l) l) (place_of s.config.areas at) in record { areas = h.areas; ranges = h.ranges; interfaces = h.interfaces }
others_leave s (event.Flush at key) other = let h = placed s (λ d. aged_out d key) (place_of s.config.areas at) in record { areas = h.areas; ranges = h.ranges; interfaces = h.interfaces }
others_leave s (event.Purge at key) other = let h = placed s (λ d. remove d key) (place_of s.config.areas at) in record { areas = h.areas; ranges = h.ranges; interfaces = h.interfaces }
others_leave s (event.Interface id area address peer up) other = absurd (other id area address peer up refl)
others_leave s (event.RangeSet area prefix advertise) other = let h = ranges_name s area (set_range (range_with prefix advertise)) in record { areas = h.areas; ranges = h.ranges; interfaces = h.interfaces }
others_leave s (event.RangeDrop area prefix) other = let h = ranges_name s area (drop_range prefix) in record { areas = h.areas; ranges = h.ranges; interfaces = h.interfaces }
others_leave s event.Second other = record { areas = refl; ranges = λ unranged. refl; interfaces = refl }

-- every other event changes no interface
pub others_name : (s : State) (e : Event) (keys : List (Scope × Key)) (ids : List ℕ) (ranged : Bool) → IsOfDatabases e → ids ≡ [] → ranged ≡ is_some (range_of e)
    → ((at : Scope) (key : Key) → (Contains keys (at, key) → ⊥) → usable_at (step s e) at key ≡ usable_at s at key) → StatesDifferAmong keys ids ranged s (step s e)
others_name s e keys ids ranged other none is usable =
    let h = others_leave s e other in
    record {
      areas = h.areas;
      ranges = λ unranged. h.ranges (sym is ∙ unranged);
      usable = usable;
      interfaces = λ id absent. ap (λ (m : FinMap nat_cmp Interface). get m id) h.interfaces;
      one_kind = inr none;
    }

-- ranges of an area that are changed at one prefix
set_ranges : (s : State) (area : ℕ) (prefix : Prefix) (advertise : Bool) → RangesDifferAt (Some (area, prefix)) s.config.areas (with_range_change s area (set_range (range_with prefix advertise))).config.areas
set_ranges s area prefix advertise = one_range s.config.areas area prefix (set_range (range_with prefix advertise)) (λ ranges r other. set_others (range_with prefix advertise) r other ranges)

drop_ranges : (s : State) (area : ℕ) (prefix : Prefix) → RangesDifferAt (Some (area, prefix)) s.config.areas (with_range_change s area (drop_range prefix)).config.areas
drop_ranges s area prefix = one_range s.config.areas area prefix (drop_range prefix) (λ ranges r other. drop_others prefix r other ranges)

placed_ranges : (s : State) (change : Database → Database) (o : Option ℕ) → RangesDifferAt None s.config.areas (changed_at_place s change o).config.areas
placed_ranges s change None = λ area r other. (λ w. w, λ w. w)
placed_ranges s change (Some k) = λ area r other. (λ w. w, λ w. w)

step_ranges : (s : State) (e : Event) → RangesDifferAt (range_of e) s.config.areas (step s e).config.areas
step_ranges s (event.Install at l) = λ area r other. placed_ranges s (λ d. insert d (key_of l) l) (place_of s.config.areas at) area r other
step_ranges s (event.Flush at key) = λ area r other. placed_ranges s (λ d. aged_out d key) (place_of s.config.areas at) area r other
step_ranges s (event.Purge at key) = λ area r other. placed_ranges s (λ d. remove d key) (place_of s.config.areas at) area r other
step_ranges s (event.Interface id area address peer up) = λ n r other. (λ w. w, λ w. w)
step_ranges s (event.RangeSet area prefix advertise) = λ n r other. set_ranges s area prefix advertise n r other
step_ranges s (event.RangeDrop area prefix) = λ n r other. drop_ranges s area prefix n r other
step_ranges s event.Second = λ area r other. (λ w. w, λ w. w)

-- by the range that was named
pub ranges_by : (s : State) (e : Event) (range : Option (ℕ × Prefix)) → range ≡ range_of e → RangesDifferAt range s.config.areas (step s e).config.areas
ranges_by s e range is = subst (λ (o : Option (ℕ × Prefix)). RangesDifferAt o s.config.areas (step s e).config.areas) (sym is) (step_ranges s e)
