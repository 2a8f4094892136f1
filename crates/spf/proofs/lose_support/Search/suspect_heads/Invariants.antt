use Rattle.std.proofs.Common.{◌≡◌, take}
use Rattle.std.specs.FinMap.{get}
use Rattle.spf.specs.Suspects.{WasLeast, IsHead, AreToldOf}
use Rattle.spf.proofs.lose_support.Search.suspect_heads.Given as goal

abbrev pub invariant-loop-link : goal.invariant-loop-link
invariant-loop-link l = record {
  told : AreToldOf (IsHead (WasLeast l.root (get l.distances)) (take l.link-index l.gone)) l.fn.self.lost l.fn.self.pending.stale l.self.pending.stale l.fn.self.suspects l.self.suspects;
  lost : l.self.lost ≡ l.fn.self.lost;
}
