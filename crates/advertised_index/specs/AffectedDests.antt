-- How what is affected grows.
use Rattle.std.specs.Prelude.{ℕ, Contains, Option}
use Rattle.ospf_types.specs.declared.key.Dest.{Dest}
use Rattle.advertised_index.specs.AdvertisedRoute.{AdvertisedValue}
use Rattle.advertised_index.specs.Indexes.{ChangedOffersValue, HasDest, HasForwarding}

-- what the route is about has come to what is affected, and what was there has stayed
pub record AreAdded (route : Option AdvertisedValue) (before after : ChangedOffersValue) : Type 0 where
  pub dests : (dest : Dest) → Contains before.dests dest → Contains after.dests dest
  pub addresses : (address : ℕ) → Contains before.addresses address → Contains after.addresses address
  pub dest : (dest : Dest) → HasDest route dest → Contains after.dests dest
  pub forwarding : (address : ℕ) → HasForwarding route address → Contains after.addresses address
