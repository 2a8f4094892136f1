-- The rest of a state after a change to one database.
use Rattle.std.proofs.Common.{◌≡◌, ℕ, ◌<◌, ◌≤◌, Bool, false, List, length, get_or, set, Some, None, sym, ap, subst, ◌∙◌, arith}
use Rattle.std.specs.Prelude.{Result, Ok, Err, IfOk, OnOk, OnErr, ◌↔◌}
use Rattle.std.specs.FinMap.{empty, get, insert, len}
use Rattle.std.specs.Global.{Vec}
use Rattle.std.specs.Vec.{with_items}
use Rattle.std.proofs.lemmas.List.{get_or_default}
use Rattle.ospf_types.specs.declared.config.Config.{Config}
use Rattle.ospf_types.specs.declared.key.Scope.{Scope}
use Rattle.ospf_types.specs.declared.memory.Memory.{Memory}
use Rattle.ospf_types.specs.Lsa.{Lsa, key_of}
use Rattle.lsdb.specs.Databases.{Database, DatabaseValue, install_refusal_of, purge_refusal_of}
use Rattle.lsdb.specs.Contents.{IsUsedAlike}
use Rattle.ospf_types.specs.declared.key.Key.{Key}
use Rattle.event_state.specs.declared.event.Event.TheVariants as event
use Rattle.event_state.specs.declared.limits.Limits.{Limits}
use Rattle.event_state.specs.Changes.{IsChange, no_database, lsas_in, limits_in}
use Rattle.event_state.specs.States.{State, LooksAlike, place_of}
use Rattle.event_state.specs.Steps.{changed_by, limit_of}
use Rattle.event_state.specs.Held.{IsHeld, IsFit}
use Rattle.event_state.proofs.InPlace.{items_of_slice}
use Rattle.event_state.proofs.Places.{place_within}
use Rattle.event_state.proofs.OneChange.{lsas_at, limit_at, changed_length}
use Rattle.event_state.proofs.HeldStates.{held_change}
use Rattle.event_state.proofs.Looks.{looks_change, install_alike}

-- what a database says of an LSA, by the lists of the LSAs and of the limits
pub fits_at : (ds : List DatabaseValue) (k : ℕ) (lsa : Lsa) → install_refusal_of (get_or (lsas_in ds) k empty) (get_or (limits_in ds) k 0) lsa ≡ None → install_refusal_of (get_or ds k no_database).lsas (get_or ds k no_database).limit lsa ≡ None
fits_at ds k lsa e = sym (λ i. install_refusal_of (lsas_at ds k i) (limit_at ds k i) lsa) ∙ e

pub allowed_at : (ds : List DatabaseValue) (k : ℕ) (key : Key) → purge_refusal_of (get (get_or (lsas_in ds) k empty) key) ≡ None → purge_refusal_of (get (get_or ds k no_database).lsas key) ≡ None
allowed_at ds k key e = sym (ap (λ (d : Database). purge_refusal_of (get d key)) (lsas_at ds k)) ∙ e

-- there is a database at the place of a scope
pub place_held : (config : Config) (limits : Limits) (ds : List DatabaseValue) (at : Scope) (k : ℕ) → IsHeld config limits ds → place_of config.areas at ≡ Some k → k < length (lsas_in ds)
place_held config limits ds at k h place = omega (arith, place_within config.areas at k place, h.kept.places)

module _ (config : Config) (limits : Limits) (v : Vec DatabaseValue) (new : List DatabaseValue) (at : Scope) (k : ℕ) (change : Database → Database) (held : IsHeld config limits v.items) (place : place_of config.areas at ≡ Some k) where
  -- the databases after a change that keeps its database fit
  pub held_after : (IsFit at (get_or (lsas_in v.items) k empty) → IsFit at (change (get_or (lsas_in v.items) k empty))) → len (change (get_or (lsas_in v.items) k empty)) ≤ get_or (limits_in v.items) k 0
      → IsChange v.items new k change → IsHeld config limits (with_items v new).items
  held_after keeps small h =
      subst (IsHeld config limits) (sym (items_of_slice v new (changed_length v.items new k change h)))
      (held_change config limits v.items new at k change held place keeps small (h.lsas ∙ ap (λ (d : Database). set (lsas_in v.items) k (change d)) (sym (lsas_at v.items k))) h.limits)

  -- the same after a change that memory may refuse
  pub held_after_try : (r : Result Bool Memory) → (IsFit at (get_or (lsas_in v.items) k empty) → IsFit at (change (get_or (lsas_in v.items) k empty)))
      → len (change (get_or (lsas_in v.items) k empty)) ≤ get_or (limits_in v.items) k 0 → OnErr r (new ≡ v.items) → OnOk r (IsChange v.items new k change)
      → IsHeld config limits (with_items v new).items
  held_after_try (Ok changed) keeps small kept h = held_after keeps small h
  held_after_try (Err e) keeps small kept h = subst (IsHeld config limits) (sym (items_of_slice v new (ap length kept) ∙ kept)) held

-- the state after an install that memory may refuse looks as before where what is used of the LSA
-- does
pub install_looks : (s : State) (at : Scope) (k : ℕ) (l : Lsa) (r : Result Bool Memory) → place_of s.config.areas at ≡ Some k → k < length s.databases
    → IfOk r (λ changed. (changed ≡ false) ↔ IsUsedAlike (get_or s.databases k empty) l) → IfOk r (λ changed. (changed ≡ false) ↔ LooksAlike s (changed_by s (event.Install at l)))
install_looks s at k l (Ok changed) place lt alike =
    let used = install_alike (get_or s.databases k empty) l in
    let looks = looks_change s at k place lt (λ (d : Database). insert d (key_of l) l) in
    (λ e. looks.0 (used.0 (alike.0 e)), λ t. alike.1 (used.1 (looks.1 t)))
install_looks s at k l (Err e) place lt alike = tt

-- the limit of the database at the place of a scope
pub limit_here : (config : Config) (limits : Limits) (ds : List DatabaseValue) (at : Scope) (k : ℕ) (d : DatabaseValue) → IsHeld config limits ds → place_of config.areas at ≡ Some k → k < length ds → d ≡ get_or ds k d → d.limit ≡ limit_of limits at
limit_here config limits ds at k d h place lt is = ap (λ (e : DatabaseValue). e.limit) (is ∙ sym (get_or_default ds k no_database d lt)) ∙ sym (limit_at ds k) ∙ h.limited at k place
