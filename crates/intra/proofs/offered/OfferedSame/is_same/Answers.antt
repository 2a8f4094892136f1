use Rattle.std.proofs.Common.{◌≡◌, sym, ap, ◌∙◌}
use Rattle.std.proofs.lemmas.Slice.Eq.{slice_eq-Decides}
use Rattle.intra.specs.Indexes.{OfferedValue}
use Rattle.intra.proofs.OfferTests.{offers_decided}
use Rattle.intra.proofs.offered.OfferedSame.is_same.Goals as goal

pub returns-then-self-other : goal.returns-then-self-other
returns-then-self-other c =
    let decided = slice_eq-Decides offers_decided c.self.inside.offers.items c.other.inside.offers.items c.eq.result c.eq.ensures in
    let one : c.self.inside.offers.items ≡ c.args.self.now.offers = ap (λ (o : OfferedValue). o.offers) c.self.view_is in
    let two : c.other.inside.offers.items ≡ c.args.other.now.offers = ap (λ (o : OfferedValue). o.offers) c.other.view_is in
    let flags : c.args.self.now.flags ≡ c.args.other.now.flags =
    sym (ap (λ (o : OfferedValue). o.flags) c.self.view_is) ∙ c.if-self-other.true ∙ ap (λ (o : OfferedValue). o.flags) c.other.view_is in
    (λ t. λ i. record { flags = flags i; offers = (sym one ∙ decided.0 t ∙ two) i }, λ same. decided.1 (one ∙ ap (λ (o : OfferedValue). o.offers) same ∙ sym two))
