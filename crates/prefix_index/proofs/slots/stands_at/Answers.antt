use Rattle.std.proofs.Common.{sym, ◌∙◌}
use Rattle.ospf_types.proofs.KeyOrders.{prefixes_decided}
use Rattle.prefix_index.proofs.Lookups.{has_at}
use Rattle.prefix_index.proofs.slots.stands_at.Goals as goal

pub returns-then-place-entries : goal.returns-then-place-entries
returns-then-place-entries g c = λ yes.
    has_at c.args.entries.now c.args.place c.args.network c.index-entries-place.result c.if-place-entries.true
    ((prefixes_decided _ c.args.network).0 (sym c.eq.ensures ∙ yes))
