-- The order of next hops and of paths.
use Rattle.std.specs.Prelude.{ℕ, Option, Some, None}
use Rattle.std.specs.Ordering.{nat_cmp, ordering_then}
use Rattle.std.specs.declared.cmp.Ordering.{Ordering}
use Rattle.ospf_types.specs.declared.hop.NextHop.{NextHop}
use Rattle.ospf_types.specs.declared.hop.NextHop.TheVariants.{Direct, Peer, Router}
use Rattle.ospf_types.specs.declared.hop.Path.{Path}

-- kind, interface, address
abbrev pub hop_rank : NextHop → ℕ × ℕ × ℕ
hop_rank (Direct id) = (0, id, 0)
hop_rank (Peer id) = (1, id, 0)
hop_rank (Router id address) = (2, id, address)

-- no advertiser comes before each
abbrev pub advertiser_rank : Option ℕ → ℕ × ℕ
advertiser_rank None = (0, 0)
advertiser_rank (Some router) = (1, router)

abbrev pub hop_cmp : NextHop → NextHop → Ordering
hop_cmp x y = let a = hop_rank x in let b = hop_rank y in ordering_then (nat_cmp a.0 b.0) (ordering_then (nat_cmp a.1 b.1) (nat_cmp a.2 b.2))

abbrev pub advertiser_cmp : Option ℕ → Option ℕ → Ordering
advertiser_cmp x y = let a = advertiser_rank x in let b = advertiser_rank y in ordering_then (nat_cmp a.0 b.0) (nat_cmp a.1 b.1)

-- by the hop, and then by the advertiser
abbrev pub path_cmp : Path → Path → Ordering
path_cmp x y = ordering_then (hop_cmp x.hop y.hop) (advertiser_cmp x.advertiser y.advertiser)
