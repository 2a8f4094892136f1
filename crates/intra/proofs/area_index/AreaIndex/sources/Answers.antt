use Rattle.std.proofs.Common.{◌≡◌, Some, sym, ap, subst, ◌∙◌}
use Rattle.std.specs.FinMap.{get}
use Rattle.std.specs.Map.{lookup}
use Rattle.ospf_types.specs.declared.prefix.Prefix.{Prefix}
use Rattle.ospf_types.proofs.KeyOrders.{prefixes_equal, prefixes_decided}
use Rattle.intra.specs.Indexes.{IndexValue, sources_of}
use Rattle.intra.proofs.SourceMaps.{listed, sources_found}
use Rattle.intra.proofs.area_index.AreaIndex.sources.Goals as goal

pub returns-in-Some : goal.returns-in-Some
returns-in-Some c =
    let es = c.self.inside.sources.entries in
    let own = (prefixes_decided c.in-Some.kept.now c.args.prefix).0 (sym c.if-eq.ensures) in
    let found = subst (λ (p : Prefix). lookup (prefixes_equal p) es ≡ Some c.in-Some.sources.now) own c.in-Some.ensures.value in
    c.as_slice.ensures ∙ ap listed (sym found) ∙ sources_found es c.args.prefix
    ∙ ap (λ (i : IndexValue). sources_of (get i.sources c.args.prefix)) c.self.view_is
