use Rattle.event_core.specs.Cores.{IsCore, IsCurrent}
use Rattle.change_log.specs.Changes.{Give}
use Rattle.change_log.specs.Lines.{Change}
use Rattle.std.proofs.Common.{◌≡◌, List}
use Rattle.replay.specs.Advance.{IsProgress}
use Rattle.change_log.proofs.FollowSteps.{SoFar}
use Rattle.change_log.proofs.following.Run.follow.Given as goal

abbrev pub invariant-loop : goal.invariant-loop
invariant-loop g l = record {
  kept : IsCore l.self.core;
  current : IsCurrent l.self.core;
  same : l.self.progress ≡ l.initial.self.progress;
  shown : IsProgress l.initial.self.progress (g.F.Write.contents l.initial.faults) (g.F.Write.contents l.faults);
  taken : (before : List Change) → Give before l.initial.self.core → SoFar before l.initial.self l.self l.initial.lines l.lines (g.R.Read.remaining l.initial.input) (g.R.Read.remaining l.input) (g.W.Write.contents l.initial.out) (g.W.Write.contents l.out);
}
