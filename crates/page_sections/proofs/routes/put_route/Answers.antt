use Rattle.std.proofs.Common.{◌++◌, ap, string_bytes, ◌∙◌}
use Rattle.page_sections.specs.Routes.{paths_text}
use Rattle.page_sections.proofs.Pieces.{five_pieces}
use Rattle.page_sections.proofs.routes.put_route.Goals as goal

pub returns : goal.returns
returns c =
    let paths = c.in_ok-put_paths.ensures ∙ ap (λ l. string_bytes c.put_costs.new.text ++ paths_text l) c.as_slice.ensures.value in
    five_pieces _ _ _ _ _ _ _ _ _ _ _ c.in_ok-write.ensures.bytes c.in_ok-put_type.ensures c.in_ok-put_area.ensures c.in_ok-put_costs.ensures paths
