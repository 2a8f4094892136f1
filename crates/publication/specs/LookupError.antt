-- The reason why a lookup failed.
use Rattle.std.specs.Prelude.{◌≡◌, ◌<◌, length}
use Rattle.publication.specs.Forwarders.{ForwarderValue}
use Rattle.publication.specs.declared.lookup_error.LookupError.{LookupError}
use Rattle.publication.specs.declared.lookup_error.LookupError.TheVariants.{NoEntry, Shorter}

-- the one that comes back
abbrev pub forwarder_in : LookupError → ForwarderValue
forwarder_in (NoEntry f) = f
forwarder_in (Shorter f told) = f

-- The forwarder comes back unchanged. If a table was entered, its list is shorter than the list
-- that the forwarder knows
abbrev pub IsLookupError : ForwarderValue → LookupError → Type 0
IsLookupError f (NoEntry g) = g ≡ f
IsLookupError f (Shorter g told) = (g ≡ f) × (told.name ≡ f.name) × (length told.list < length f.known)
