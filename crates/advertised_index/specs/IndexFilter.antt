-- Which groups may have a key.
use Rattle.std.specs.Prelude.{◌/◌, List, Contains}
use Rattle.ospf_types.specs.declared.key.Dest.TheVariants.{Net, Router}
use Rattle.ospf_types.specs.declared.key.Key.{Key}
use Rattle.advertised_index.specs.declared.index_filter.IndexFilter.{IndexFilter}
use Rattle.advertised_index.specs.declared.index_key.IndexKey.{IndexKey}
use Rattle.advertised_index.specs.declared.index_key.IndexKey.TheVariants.{To, By, Forwarded}
use Rattle.advertised_index.specs.BloomFilter.{IsMarked}

-- the group is among those that are marked, or is of a kind that is not
abbrev pub MayHave : IndexFilter → IndexKey → Type 0
MayHave c (To (Net p)) = IsMarked c.networks p.address
MayHave c (To (Router r)) = Unit {0}
MayHave c (By r) = Unit {0}
MayHave c (Forwarded a) = IsMarked c.blocks (a / 256)

-- each group with a key is among them
abbrev pub AreAmong : List (IndexKey × Key) → IndexFilter → Type 0
AreAmong members c = (m : IndexKey × Key) → Contains members m → MayHave c m.0
