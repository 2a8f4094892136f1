use Rattle.std.proofs.Common.{◌≡◌, ◌-◌}
use Rattle.lsa_codec.specs.Faults.{walk}
use Rattle.lsa_codec.proofs.links.after_links.Given as goal

-- the walk over the rest completes the walk over all
abbrev pub invariant-loop : goal.invariant-loop
invariant-loop l = (walk (l.count - l.counter) l.rest).left ≡ (walk l.count l.bytes).left
