use Rattle.std.proofs.Common.{◌≡◌, length, take}
use Rattle.std.specs.FinMap.{get}
use Rattle.spf.specs.HandedOn.{AreBlanked}
use Rattle.spf.proofs.update_next_hops.HopWriter.blank.Given as goal

-- what is lost for good so far is blank
abbrev pub invariant-loop-vertex : goal.invariant-loop-vertex
invariant-loop-vertex l = record {
  blanked : AreBlanked (get l.distances) (take l.vertex-index l.lost) l.initial.hops l.hops l.self.written;
  taken : l.self.touched.taken ≡ l.initial.self.touched.taken;
  counted : l.self.touched.hop_sets ≡ length l.self.written;
}
