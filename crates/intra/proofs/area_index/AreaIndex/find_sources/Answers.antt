use Rattle.std.proofs.Common.{ap, ◌∙◌}
use Rattle.std.specs.FinMap.{get}
use Rattle.intra.specs.Indexes.{IndexValue, sources_of}
use Rattle.intra.proofs.SourceMaps.{listed, sources_found}
use Rattle.intra.proofs.area_index.AreaIndex.find_sources.Goals as goal

pub returns-in-Some : goal.returns-in-Some
returns-in-Some c =
    c.as_slice.ensures ∙ ap listed c.in-Some.ensures.value ∙ sources_found c.self.inside.sources.entries c.args.prefix
    ∙ ap (λ (i : IndexValue). sources_of (get i.sources c.args.prefix)) c.self.view_is

pub returns-in-None : goal.returns-in-None
returns-in-None c =
    ap listed c.in-None.ensures.value ∙ sources_found c.self.inside.sources.entries c.args.prefix
    ∙ ap (λ (i : IndexValue). sources_of (get i.sources c.args.prefix)) c.self.view_is
