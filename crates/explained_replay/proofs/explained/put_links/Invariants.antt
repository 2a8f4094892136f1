use Rattle.std.proofs.Common.{◌≡◌, ◌++◌, string_bytes, take}
use Rattle.std.specs.List.{flat_map}
use Rattle.explained_replay.specs.Lines.{link_line}
use Rattle.explained_replay.proofs.explained.put_links.Given as goal

abbrev pub invariant-loop-step : goal.invariant-loop-step
invariant-loop-step l = string_bytes l.text ≡ string_bytes l.initial.text ++ flat_map (link_line l.fn.format) (take l.step-index l.steps)
