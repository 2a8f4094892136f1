use Rattle.std.proofs.Common.{◌≡◌, ◌++◌, string_bytes, take}
use Rattle.std.specs.List.{flat_map}
use Rattle.explained_replay.specs.Explanations.{trace_text}
use Rattle.explained_replay.proofs.explained.put_traces.Given as goal

abbrev pub invariant-loop-trace : goal.invariant-loop-trace
invariant-loop-trace l = string_bytes l.text ≡ string_bytes l.initial.text ++ flat_map (trace_text l.fn.format) (take l.trace-index l.traces)
