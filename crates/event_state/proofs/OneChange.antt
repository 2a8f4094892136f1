-- A change to one of some databases.
use Rattle.std.proofs.Common.{◌≡◌, ℕ, zero, suc, ◌<◌, List, [], ◌∷◌, length, map, get_or, set, refl, sym, ap, ◌∙◌}
use Rattle.std.specs.Prelude.{Result, Ok, Err, OnOk}
use Rattle.std.specs.FinMap.{empty}
use Rattle.std.proofs.lemmas.List.{length-map, map-set, get_or_default}
use Rattle.std.proofs.Math.Seq.{map-set_same}
use Rattle.lsdb.specs.Databases.{Database, DatabaseValue}
use Rattle.event_state.specs.Changes.{IsChange, no_database, lsas_in, limits_in}

-- an element of a mapped list, with the default mapped too
pub mapped_at : {X Y : Type 0} (f : X → Y) (xs : List X) (k : ℕ) (d : X) → get_or (map f xs) k (f d) ≡ f (get_or xs k d)
mapped_at f [] k d = refl
mapped_at f (x ∷ xs) zero d = refl
mapped_at f (x ∷ xs) (suc k) d = mapped_at f xs k d

pub lsas_at : (ds : List DatabaseValue) (k : ℕ) → get_or (lsas_in ds) k empty ≡ (get_or ds k no_database).lsas
lsas_at ds k = mapped_at (λ (d : DatabaseValue). d.lsas) ds k no_database

pub limit_at : (ds : List DatabaseValue) (k : ℕ) → get_or (limits_in ds) k 0 ≡ (get_or ds k no_database).limit
limit_at ds k = mapped_at (λ (d : DatabaseValue). d.limit) ds k no_database

-- a database in place of another one with its limit
pub change_at : (ds : List DatabaseValue) (k : ℕ) (old new : DatabaseValue) (change : Database → Database) → get_or ds k no_database ≡ old → new.lsas ≡ change old.lsas → new.limit ≡ old.limit → IsChange ds (set ds k new) k change
change_at ds k old new change here lsas limit = record {
  lsas = map-set (λ (d : DatabaseValue). d.lsas) ds k new ∙ ap (λ (d : Database). set (lsas_in ds) k d) (lsas ∙ ap (λ (d : DatabaseValue). change d.lsas) (sym here));
  limits = map-set_same (λ (d : DatabaseValue). d.limit) ds k new no_database (limit ∙ ap (λ (d : DatabaseValue). d.limit) (sym here));
}

-- a change leaves as many databases
pub changed_length : (old new : List DatabaseValue) (k : ℕ) (change : Database → Database) → IsChange old new k change → length new ≡ length old
changed_length old new k change h =
    sym (length-map new (λ (d : DatabaseValue). d.limit)) ∙ ap length h.limits ∙ length-map old (λ (d : DatabaseValue). d.limit)

-- the element at a place, whatever the default
pub here_at : (ds : List DatabaseValue) (k : ℕ) (d : DatabaseValue) → k < length ds → get_or ds k no_database ≡ get_or ds k d
here_at ds k d lt = get_or_default ds k no_database d lt

-- what follows from two facts of an answer
pub both_ok : {A E : Type 0} {P Q R : Type 0} (r : Result A E) → (P → Q → R) → OnOk r P → OnOk r Q → OnOk r R
both_ok (Ok a) f p q = f p q
both_ok (Err e) f p q = tt
