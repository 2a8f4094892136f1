-- The entries of an index, and the finite maps that they make.
use Rattle.std.proofs.Common.{◌≡◌, cond, List, Option, Some, None, ap, ◌∙◌}
use Rattle.std.specs.Prelude.{option_map}
use Rattle.std.specs.FinMap.{get, insert, remove}
use Rattle.std.specs.Map.{lookup}
use Rattle.smallvec.specs.SmallVec.{SmallVec}
use Rattle.ospf_types.specs.Network.{Network}
use Rattle.ospf_types.proofs.Orders.{network_total, network_exact}
use Rattle.intra.specs.declared.area_index.PrefixSource.{PrefixSource}
use Rattle.intra.specs.Indexes.{SourcesByPrefix, sources_of}
use Rattle.ospf_types.proofs.KeyOrders.{prefixes_equal, prefixes_order}
use Rattle.route_choice.proofs.KeyedMaps.{view_of, looked_up_viewed, inserted_viewed, removed_viewed}

-- the list in a vector, or `None` if there is no vector
abbrev pub items_of : SmallVec PrefixSource → List PrefixSource
items_of v = v.items

abbrev pub listed : Option (SmallVec PrefixSource) → List PrefixSource
listed o = sources_of (option_map items_of o)

abbrev pub sources_map : List (Network × SmallVec PrefixSource) → SourcesByPrefix
sources_map es = view_of items_of network_total network_exact prefixes_order es

-- what a lookup by `==` lists
pub sources_found : (es : List (Network × SmallVec PrefixSource)) (p : Network) → listed (lookup (prefixes_equal p) es) ≡ sources_of (get (sources_map es) p)
sources_found es p = ap sources_of (looked_up_viewed items_of network_total network_exact prefixes_order es p)

module _ (es : List (Network × SmallVec PrefixSource)) (p : Network) where
  pub sources_at : (o : Option (SmallVec PrefixSource)) → o ≡ lookup (prefixes_equal p) es → option_map items_of o ≡ get (sources_map es) p
  sources_at o is = ap (option_map items_of) is ∙ looked_up_viewed items_of network_total network_exact prefixes_order es p

  pub sources_written : (fs : List (Network × SmallVec PrefixSource)) (v : SmallVec PrefixSource) → ((q : Network) → lookup (prefixes_equal q) fs ≡ cond (prefixes_equal p q) (Some v) (lookup (prefixes_equal q) es))
      → sources_map fs ≡ insert (sources_map es) p v.items
  sources_written fs v updates = inserted_viewed items_of network_total network_exact prefixes_order es fs p v updates

  pub sources_removed : (fs : List (Network × SmallVec PrefixSource)) → ((q : Network) → lookup (prefixes_equal q) fs ≡ cond (prefixes_equal p q) None (lookup (prefixes_equal q) es))
      → sources_map fs ≡ remove (sources_map es) p
  sources_removed fs updates = removed_viewed items_of network_total network_exact prefixes_order es fs p updates
