use Rattle.std.proofs.Common.{sym, ap, subst, ◌∙◌}
use Rattle.std.specs.Prelude.{option_copied}
use Rattle.std.specs.FinMap.{get, from_entries}
use Rattle.advertised_index.specs.Indexes.{OfferIndexValue}
use Rattle.advertised_index.specs.LsasByKey.{AreMembersOf}
use Rattle.advertised_index.proofs.Listing.{exchanged, undone}
use Rattle.advertised_index.proofs.index.AdvertisedIndex.put.Goals as goal

pub invariant_of-self : goal.invariant_of-self
invariant_of-self c =
    let key = c.args.key in
    let put = c.in-Ok.ensures in
    exchanged _ c.self.inside.members c.put_in.new.members c.leave.new.self key (option_copied c.args.old) (option_copied c.args.fresh) c.self.invariant
    (ap (λ (i : OfferIndexValue). get i.routes key) c.self.view_is ∙ c.requires)
    c.put_in.ensures.kept c.put_in.ensures.only _ put.here put.others put.listed c.leave.ensures.kept c.leave.ensures.only

pub invariant_of-self-in-Err : goal.invariant_of-self-in-Err
invariant_of-self-in-Err c =
    let key = c.args.key in
    let back = undone _ c.self.inside.members c.put_in.new.members c.leave-in-Err.new.self key (option_copied c.args.old) (option_copied c.args.fresh) c.self.invariant
    (ap (λ (i : OfferIndexValue). get i.routes key) c.self.view_is ∙ c.requires)
    c.put_in.ensures.kept c.put_in.ensures.only c.leave-in-Err.ensures.kept c.leave-in-Err.ensures.only in
    subst (λ es. AreMembersOf (from_entries es) c.leave-in-Err.new.self) (sym c.in-Err.ensures.unchanged) back
