-- A destination, and the database of an LSA, as JSON.
use Rattle.std.specs.Prelude.{codes}
use Rattle.serde_json.specs.Data.{Data, string}
use Rattle.ospf_types.specs.declared.key.Dest.{Dest}
use Rattle.ospf_types.specs.declared.key.Dest.TheVariants.{Net, Router}
use Rattle.ospf_types.specs.declared.key.Scope.{Scope}
use Rattle.ospf_types.specs.declared.key.Scope.TheVariants.{Area, As}
use Rattle.output_lines.specs.Members.{address_data, network_data}

-- a network, or the Router ID of an AS boundary router
abbrev pub dest_data : Dest → Data
dest_data (Net p) = network_data p
dest_data (Router router) = address_data router

-- the database: that of an area, or that of AS-external-LSAs
abbrev pub scope_data : Scope → Data
scope_data (Area area) = address_data area
scope_data As = string (codes "as")
