use Rattle.std.proofs.Common.{◌≡◌, sym, ◌∙◌}
use Rattle.std.proofs.lemmas.Slice.Eq.{slice_eq-Decides}
use Rattle.ospf_types.proofs.Paths.{path_eq-Decides}
use Rattle.ospf_types.proofs.entry.Paths.is_same.Goals as goal

pub returns : goal.returns
returns c =
    let decided = slice_eq-Decides path_eq-Decides c.self.inside.items.items c.other.inside.items.items c.eq.result c.eq.ensures in
    let one : c.self.inside.items.items ≡ c.args.self.now = c.self.view_is in
    let two : c.other.inside.items.items ≡ c.args.other.now = c.other.view_is in
    (λ t. sym one ∙ decided.0 t ∙ two, λ same. decided.1 (one ∙ same ∙ sym two))
