use Rattle.std.proofs.Common.{◌≡◌, Some, None, true, false, sym, ◌∙◌}
use Rattle.std.specs.FinMap as map
use Rattle.external.proofs.ExternalOffers.{chosen_from, entry_from, none_beside}
use Rattle.external.proofs.choose.Choosing.choose_entry.Goals as goal

pub entry-requires : goal.entry-requires
entry-requires c =
    (chosen_from c.args.self.now.index.now (map.from_entries c.args.self.now.preferred.now.entries) (map.from_entries c.args.self.now.forwards.now.entries) c.args.self.now.inputs.now c.args.network (λ some. let e : true ≡ false = sym (c.has_internal.ensures.1 some) ∙ c.if-has_internal.false in cc) c.new-best.result c.offer_network.new.best (Some c.in-Some.choice) c.new-best.ensures (sym c.in-Some.ensures) c.in_ok-offer_network.ensures).1

pub returns-in-Some : goal.returns-in-Some
returns-in-Some c =
    entry_from c.args.self.now.index.now (map.from_entries c.args.self.now.preferred.now.entries) (map.from_entries c.args.self.now.forwards.now.entries) c.args.self.now.inputs.now c.args.network c.in-Some.choice c.entry.result c.entry.ensures
    (chosen_from c.args.self.now.index.now (map.from_entries c.args.self.now.preferred.now.entries) (map.from_entries c.args.self.now.forwards.now.entries) c.args.self.now.inputs.now c.args.network (λ some. let e : true ≡ false = sym (c.has_internal.ensures.1 some) ∙ c.if-has_internal.false in cc) c.new-best.result c.offer_network.new.best (Some c.in-Some.choice) c.new-best.ensures (sym c.in-Some.ensures) c.in_ok-offer_network.ensures)

pub returns-in-None : goal.returns-in-None
returns-in-None c =
    chosen_from c.args.self.now.index.now (map.from_entries c.args.self.now.preferred.now.entries) (map.from_entries c.args.self.now.forwards.now.entries) c.args.self.now.inputs.now c.args.network (λ some. let e : true ≡ false = sym (c.has_internal.ensures.1 some) ∙ c.if-has_internal.false in cc) c.new-best.result c.offer_network.new.best None c.new-best.ensures (sym c.in-None.ensures) c.in_ok-offer_network.ensures

pub returns-then-has_internal : goal.returns-then-has_internal
returns-then-has_internal c =
    none_beside c.args.self.now.index.now (map.from_entries c.args.self.now.preferred.now.entries) (map.from_entries c.args.self.now.forwards.now.entries) c.args.self.now.inputs.now c.args.network (c.has_internal.ensures.0 c.if-has_internal.true)
