-- Why an LSA is not installed, by what is held under its key.
use Rattle.std.proofs.Common.{◌≡◌, ℕ, Bool, true, false, [], ◌∷◌, Option, Some, None, refl, ap, ◌∙◌}
use Rattle.std.specs.Prelude.{◌&&◌, nat_le, is_none, option_map, if◌then◌else◌}
use Rattle.std.specs.FinMap.{get, len}
use Rattle.ospf_types.specs.FirstOf.{first_of}
use Rattle.ospf_types.specs.declared.lsa.Header.{Header}
use Rattle.ospf_types.specs.declared.lsa.Newer.{Newer}
use Rattle.ospf_types.specs.declared.lsa.Newer.TheVariants as newer
use Rattle.ospf_types.specs.Instances.{newer_of}
use Rattle.ospf_types.specs.Lsa.{Lsa, key_of}
use Rattle.lsdb.specs.declared.refusal.InstallRefusal.{InstallRefusal}
use Rattle.lsdb.specs.declared.refusal.InstallRefusal.TheVariants as install
use Rattle.lsdb.specs.Databases.{Database, is_first, is_same, is_older_than, is_same_as, install_refusal_of}

-- the refusal where the one that is held compares so
abbrev pub refusal_by : Newer → Option InstallRefusal
refusal_by newer.First = Some install.Older
refusal_by newer.Second = None
refusal_by newer.Same = Some install.Same

abbrev refusal_at : Lsa → Option Lsa → Bool → Option InstallRefusal
refusal_at lsa o full = first_of ((is_older_than lsa o, install.Older) ∷ (is_same_as lsa o, install.Same) ∷ (is_none o && full, install.Full) ∷ [])

abbrev compared : Newer → Option InstallRefusal
compared n = first_of ((is_first n, install.Older) ∷ (is_same n, install.Same) ∷ (false, install.Full) ∷ [])

compared_is : (n : Newer) → refusal_by n ≡ compared n
compared_is newer.First = refl
compared_is newer.Second = refl
compared_is newer.Same = refl

by_held : (lsa : Lsa) (o : Option Lsa) (full : Bool) (held header : Header) (n : Newer) → Some held ≡ option_map (λ l. l.header) o → header ≡ lsa.header → n ≡ newer_of held header → refusal_by n ≡ refusal_at lsa o full
by_held lsa None full held header n e h is = absurd cc
by_held lsa (Some l) full held header n e h is =
    let same : held ≡ l.header = cc in
    compared_is n ∙ ap compared (is ∙ (λ j. newer_of (same j) (h j)))

by_none : (lsa : Lsa) (o : Option Lsa) (full : Bool) → None ≡ option_map (λ l. l.header) o → (if full then Some install.Full else None) ≡ refusal_at lsa o full
by_none lsa None true e = refl
by_none lsa None false e = refl
by_none lsa (Some l) full e = absurd cc

pub refused_held : (d : Database) (limit : ℕ) (lsa : Lsa) (held header : Header) (n : Newer) → Some held ≡ option_map (λ l. l.header) (get d (key_of lsa)) → header ≡ lsa.header → n ≡ newer_of held header → refusal_by n ≡ install_refusal_of d limit lsa
refused_held d limit lsa held header n e h is = by_held lsa (get d (key_of lsa)) (nat_le limit (len d)) held header n e h is

pub refused_new : (d : Database) (limit : ℕ) (lsa : Lsa) (full : Bool) → None ≡ option_map (λ l. l.header) (get d (key_of lsa)) → full ≡ nat_le limit (len d) → (if full then Some install.Full else None) ≡ install_refusal_of d limit lsa
refused_new d limit lsa full e is = ap (λ b. if b then Some install.Full else None) is ∙ by_none lsa (get d (key_of lsa)) (nat_le limit (len d)) e
