-- So far it is noted of the prefixes up to here.
use Rattle.std.proofs.Common.{◌≡◌, map, take}
use Rattle.std.specs.List.{Contains}
use Rattle.active_ranges.specs.Following.{IsNotedOf}
use Rattle.active_ranges.specs.declared.active.Noted.{Noted}
use Rattle.active_ranges.proofs.active.ActiveRanges.noted.Given as goal

abbrev pub invariant-loop-prefix : goal.invariant-loop-prefix
invariant-loop-prefix l = record {
  listed : map (λ (n : Noted). n.prefix) l.noted.items ≡ take l.prefix-index l.prefixes;
  exact : (n : Noted) → Contains l.noted.items n → IsNotedOf l.self n;
}
