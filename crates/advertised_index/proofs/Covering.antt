-- The groups that may have a key, as keys come and go.
use Rattle.std.proofs.Common.{◌≡◌, ℕ, ◌≤◌, Bool, false, List, sym, ap, subst, ◌⊎◌, inl, inr}
use Rattle.std.specs.Prelude.{Contains}
use Rattle.ospf_types.proofs.Elements.{no_element}
use Rattle.ospf_types.specs.declared.key.Dest.{Dest}
use Rattle.ospf_types.specs.declared.key.Key.{Key}
use Rattle.advertised_index.specs.declared.index_filter.IndexFilter.{IndexFilter}
use Rattle.advertised_index.specs.declared.index_key.IndexKey.{IndexKey}
use Rattle.advertised_index.specs.IndexFilter.{MayHave, AreAmong}
use Rattle.advertised_index.specs.KnownKeys.{HasKey}
use Rattle.advertised_index.proofs.Groups.{Member}

-- more groups may have a key
pub still_among : (ms : List Member) (c d : IndexFilter) → AreAmong ms c → ((g : IndexKey) → MayHave c g → MayHave d g) → AreAmong ms d
still_among ms c d are kept m there = kept m.0 (are m there)

-- a key was added
pub among_with : (old new : List Member) (c : IndexFilter) (group : IndexKey) (key : Key) → AreAmong old c → ((m : Member) → Contains new m → Contains old m ⊎ (m ≡ (group, key))) → MayHave c group → AreAmong new c
among_with old new c group key are came may m there = elim (came m there) [
  | inl was ↦ are m was
  | inr is ↦ subst (λ (x : Member). MayHave c x.0) (sym is) may
]

-- keys were removed
pub among_without : (old new : List Member) (c : IndexFilter) → AreAmong old c → ((m : Member) → Contains new m → Contains old m) → AreAmong new c
among_without old new c are was m there = are m (was m there)

-- a group that has no mark has no key
pub none_among : (ms ns : List Member) (c : IndexFilter) (group : IndexKey) → AreAmong ms c → ms ≡ ns → (MayHave c group → ⊥) → HasKey ns group → ⊥
none_among ms ns c group are is none has = none (are (group, has.0) (subst (λ (ks : List Member). Contains ks (group, has.0)) (sym is) has.1))
