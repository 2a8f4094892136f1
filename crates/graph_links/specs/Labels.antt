-- The contents of a link's label, and its form in memory.
use Rattle.std.specs.Prelude.{ℕ, List, [], ◌∷◌, Option, Some, None}
use Rattle.ospf_types.specs.declared.label.Label.{Label}
use Rattle.ospf_types.specs.declared.label.Label.TheVariants.{Over, At, Plain}
use Rattle.graph_links.specs.declared.label.StoredLabel.{StoredLabel}
use Rattle.graph_links.specs.declared.label.StoredLabel.TheVariants as kept

-- the interface that a link with this label leads over
abbrev pub interface_of : Label → Option ℕ
interface_of (Over id) = Some id
interface_of (At addresses) = None
interface_of Plain = None

-- the addresses that a link with this label leads to
abbrev pub addresses_of : Label → List ℕ
addresses_of (Over id) = []
addresses_of (At addresses) = addresses
addresses_of Plain = []

-- the label that is kept so
abbrev pub label_of : StoredLabel → Label
label_of (kept.Over id) = Over id
label_of (kept.Single address) = At (address ∷ [])
label_of (kept.Several addresses) = At addresses.value
label_of kept.Plain = Plain
