use Rattle.std.proofs.Common.{rules, ap, ◌∙◌}
use Rattle.indexmap.proofs.CallerLemmas.{filter-RetainsPairs}
use Rattle.vertex_map.specs.Values.{values_of}
use Rattle.vertex_map.proofs.Values.{has_value, values_kept}
use Rattle.vertex_map.proofs.vertex_map.tidy.Goals as goal

pub returns : goal.returns
returns g c =
    ap values_of (filter-RetainsPairs _ has_value _ (λ k v b w f h. search rules) c.args.entries.now.entries c.retain.new.self.entries c.retain.ensures.filtered)
    ∙ values_kept c.args.entries.now.entries c.len.ensures.unique
