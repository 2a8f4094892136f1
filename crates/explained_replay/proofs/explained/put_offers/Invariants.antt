use Rattle.std.proofs.Common.{◌≡◌, ◌++◌, string_bytes, take}
use Rattle.std.specs.List.{flat_map}
use Rattle.explained_replay.specs.Explanations.{text_if_of}
use Rattle.explained_replay.proofs.explained.put_offers.Given as goal

abbrev pub invariant-loop-candidate : goal.invariant-loop-candidate
invariant-loop-candidate l = string_bytes l.text ≡ string_bytes l.initial.text ++ flat_map (text_if_of l.fn.format l.fn.network) (take l.candidate-index l.candidates)
