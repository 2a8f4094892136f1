-- The best of what the keys of the group offer.
use Rattle.std.proofs.Common.{ap, Some, None, sym, true≢false, ◌∙◌}
use Rattle.inter.specs.Choosing.{IsListed}
use Rattle.inter.specs.Inputs.{InterInputsValue}
use Rattle.inter.specs.Offers.{OffersBy}
use Rattle.inter.proofs.Chosen.{chosen_from, entry_from}
use Rattle.inter.proofs.choose.Choosing.choose_in.Goals as goal

pub entry-requires : goal.entry-requires
entry-requires c =
    (chosen_from c.args.self.now.inputs.now c.args.area c.args.self.now.index.now c.args.dest.now c.new-keys.result.items c.list_keys.new.keys.items c.as_slice.result.now c.inputs.inside.intra.now.areas
    c.new-keys.ensures.items c.in_ok-list_keys.ensures.exact c.as_slice.ensures.value (ap (λ (v : InterInputsValue). v.intra.areas) c.inputs.view_is)
    (λ taken. true≢false (sym (c.is_taken_below.ensures.1 taken) ∙ c.if-is_taken_below.false))
    c.new-best.result c.offer_keys.new.best (Some c.in-Some.choice) c.new-best.ensures (sym c.into_choice.ensures ∙ c.in-Some.is) c.in_ok-offer_keys.ensures).1

pub returns-in-Some : goal.returns-in-Some
returns-in-Some c =
    entry_from c.args.area (OffersBy c.args.self.now.inputs.now c.args.area (IsListed c.args.self.now.index.now) c.args.dest.now) c.in-Some.choice c.entry.result c.entry.ensures
    (chosen_from c.args.self.now.inputs.now c.args.area c.args.self.now.index.now c.args.dest.now c.new-keys.result.items c.list_keys.new.keys.items c.as_slice.result.now c.inputs.inside.intra.now.areas
    c.new-keys.ensures.items c.in_ok-list_keys.ensures.exact c.as_slice.ensures.value (ap (λ (v : InterInputsValue). v.intra.areas) c.inputs.view_is)
    (λ taken. true≢false (sym (c.is_taken_below.ensures.1 taken) ∙ c.if-is_taken_below.false))
    c.new-best.result c.offer_keys.new.best (Some c.in-Some.choice) c.new-best.ensures (sym c.into_choice.ensures ∙ c.in-Some.is) c.in_ok-offer_keys.ensures)

pub returns : goal.returns
returns c =
    chosen_from c.args.self.now.inputs.now c.args.area c.args.self.now.index.now c.args.dest.now c.new-keys.result.items c.list_keys.new.keys.items c.as_slice.result.now c.inputs.inside.intra.now.areas
    c.new-keys.ensures.items c.in_ok-list_keys.ensures.exact c.as_slice.ensures.value (ap (λ (v : InterInputsValue). v.intra.areas) c.inputs.view_is)
    (λ taken. true≢false (sym (c.is_taken_below.ensures.1 taken) ∙ c.if-is_taken_below.false))
    c.new-best.result c.offer_keys.new.best None c.new-best.ensures (sym c.into_choice.ensures ∙ c.in-None.is) c.in_ok-offer_keys.ensures
