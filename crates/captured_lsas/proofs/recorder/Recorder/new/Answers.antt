use Rattle.std.proofs.Common.{◌≡◌, ℕ, List, [], sym, ap₂, option_map, rules, subst}
use Rattle.captured_lsas.specs.Newest.{Newest}
use Rattle.captured_lsas.specs.Progress.{CaptureProgress, start}
use Rattle.captured_lsas.specs.History.{HasHistory}
use Rattle.captured_lsas.proofs.Histories.{history_of}
use Rattle.captured_lsas.proofs.recorder.Recorder.new.Goals as goal

pub returns-clause-history : goal.returns-clause-history
returns-clause-history c =
    let areas = option_map (λ v. v.items) c.args.areas in
    let none : c.with_hasher.result.keys ≡ [] = search rules in
    subst (λ (p : CaptureProgress). HasHistory c.args.options areas p)
    (sym (ap₂ (λ (newest : Newest) (strange : List ℕ). record (start c.args.options areas) { newest = newest; strange = strange }) c.new.ensures none))
    (history_of c.args.options areas)
