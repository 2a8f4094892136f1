-- The index took what the key's vertex offers, or the key names none.
use Rattle.std.proofs.Common.{sym, subst}
use Rattle.intra.specs.Indexes.{IsIndex}
use Rattle.intra.specs.Intras.{AreaIntraValue}
use Rattle.intra.proofs.area.AreaIntra.follow_key.Goals as goal

pub follow-requires-clause-index : goal.follow-requires-clause-index
follow-requires-clause-index c = subst (λ (a : AreaIntraValue). IsIndex a.index) (sym c.self.view_is) c.requires.index
