-- How entries are recomputed, one network after another.
use Rattle.std.specs.Prelude.{◌≡◌, List, Option, map}
use Rattle.std.specs.FinMap.{get}
use Rattle.ospf_types.specs.declared.entry.Entry.{Entry}
use Rattle.ospf_types.specs.declared.key.Dest.{Dest}
use Rattle.ospf_types.specs.declared.key.Dest.TheVariants.{Net}
use Rattle.ospf_types.specs.declared.prefix.Prefix.{Prefix}
use Rattle.ospf_types.specs.Network.{network_cmp}
use Rattle.route_choice.specs.Chosen.{AreRechosen}
use Rattle.intra.specs.Indexes.{IndexedOffers}
use Rattle.intra.specs.Inputs.{InputsValue}
use Rattle.intra.specs.Intras.{AreaIntraValue, IntraValue, IsEntryFor}

-- the entry is the best of what the indexes of these areas offer to the network
abbrev pub IsEntryBy : InputsValue → List AreaIntraValue → Prefix → Option Entry → Type 0
IsEntryBy v areas p e = IsEntryFor (IndexedOffers v (map (λ (a : AreaIntraValue). a.index) areas) v.areas p) e

-- only the entries of these networks are recomputed; the networks with another entry are named, in
-- this order
pub record AreEntriesChosenAnew (v : InputsValue) (old new : IntraValue) (networks : List Prefix) (dests : List Dest) : Type 0 where
  pub areas : new.areas ≡ old.areas
  pub spent : new.spent ≡ old.spent
  pub entries : AreRechosen network_cmp (IsEntryBy v old.areas) Net (get old.entries) (get new.entries) networks dests
