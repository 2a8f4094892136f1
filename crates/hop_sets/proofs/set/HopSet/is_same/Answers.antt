use Rattle.std.proofs.Common.{sym, ◌∙◌}
use Rattle.std.proofs.lemmas.Slice.Eq.{slice_eq-Decides}
use Rattle.ospf_types.proofs.Paths.{hop_eq-Decides}
use Rattle.hop_sets.proofs.set.HopSet.is_same.Goals as goal

pub returns : goal.returns
returns c =
    let decides = slice_eq-Decides hop_eq-Decides c.as_slice.result.now c.as_slice-2.result.now c.eq.result c.eq.ensures in
    let left = c.as_slice.ensures.value in
    let right = c.as_slice-2.ensures.value in
    (λ h. sym left ∙ decides.0 h ∙ right, λ e. decides.1 (left ∙ e ∙ sym right))
