-- The printed text of addresses, networks, next hops, paths and entries.
use Rattle.std.specs.Prelude.{ℕ, ◌++◌, List, [], Option, Some, None, codes, decimal}
use Rattle.std.specs.Int.{w32, to_be_bytes}
use Rattle.std.specs.List.{join_by}
use Rattle.std.specs.Net.Text.{ipv4_text}
use Rattle.ospf_types.specs.declared.prefix.Prefix.{Prefix}
use Rattle.ospf_types.specs.declared.hop.NextHop.{NextHop}
use Rattle.ospf_types.specs.declared.hop.NextHop.TheVariants.{Direct, Peer, Router}
use Rattle.ospf_types.specs.declared.hop.Path.{Path}
use Rattle.ospf_types.specs.declared.entry.Entry.{Entry}
use Rattle.ospf_types.specs.declared.entry.PathType.{PathType}
use Rattle.ospf_types.specs.declared.entry.PathType.TheVariants.{Intra, Inter, External1, External2}

-- an address in host order: its four bytes in decimal, the highest first, with dots between them
abbrev pub address_text : ℕ → List ℕ
address_text address = ipv4_text (to_be_bytes w32 address)

abbrev pub prefix_text : Prefix → List ℕ
prefix_text p = address_text p.address ++ codes "/" ++ decimal p.length

abbrev pub kind_text : PathType → List ℕ
kind_text Intra = codes "intra"
kind_text Inter = codes "inter"
kind_text External1 = codes "ext1"
kind_text External2 = codes "ext2"

abbrev pub hop_text : NextHop → List ℕ
hop_text (Direct id) = codes "direct:" ++ decimal id
hop_text (Peer id) = codes "peer:" ++ decimal id
hop_text (Router id address) = codes "router:" ++ decimal id ++ codes ":" ++ address_text address

abbrev pub advertiser_text : Option ℕ → List ℕ
advertiser_text None = []
advertiser_text (Some router) = codes "@" ++ address_text router

abbrev pub path_text : Path → List ℕ
path_text path = hop_text path.hop ++ advertiser_text path.advertiser

-- the paths in their order, with commas between them
abbrev pub paths_text : List Path → List ℕ
paths_text paths = join_by path_text (codes ",") paths

-- the Area ID, or a dash for an external route
abbrev pub area_text : Option ℕ → List ℕ
area_text None = codes "-"
area_text (Some area) = address_text area

-- kind, area, both costs and paths, with spaces between them
abbrev pub entry_text : Entry → List ℕ
entry_text e = kind_text e.kind ++ codes " " ++ area_text e.area ++ codes " " ++ decimal e.cost ++ codes " " ++ decimal e.cost2 ++ codes " " ++ paths_text e.paths

-- the refusal because memory ran out
abbrev pub memory_text : List ℕ
memory_text = codes "30 Memory"
