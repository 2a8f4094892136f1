use Rattle.std.proofs.Common.{◌++◌, ap, sym, ◌∙◌, List}
use Rattle.std.specs.List.{filter_map}
use Rattle.std.proofs.lemmas.List.{append-nil}
use Rattle.ospf_types.specs.declared.lsa.Link.{Link}
use Rattle.lsa_codec.specs.Readers.{links_of}
use Rattle.vertex_graph.specs.Ends.{end_of_link}
use Rattle.vertex_graph.proofs.Gathered.{ends_without_tos}
use Rattle.vertex_graph.proofs.ends.router_ends.Goals as goal

pub returns : goal.returns
returns c =
    sym (append-nil c.loop-link.ends.items)
    ∙ ap (λ (rest : List Link). c.loop-link.ends.items ++ filter_map end_of_link rest) (sym c.in-None.ensures.steps.0)
    ∙ c.loop-link.invariant
    ∙ ap (filter_map end_of_link) (c.into_iter-link-iterator.ensures.into_iter_gives ∙ c.links-link-items.ensures)
    ∙ ends_without_tos (links_of c.args.lsa.now.body)
