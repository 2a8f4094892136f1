use Rattle.std.proofs.Common.{◌≡◌, ◌++◌, string_bytes}
use Rattle.std.specs.List.{flat_map}
use Rattle.explained_replay.specs.Explanations.{network_text, networks_below}
use Rattle.explained_replay.proofs.explained.Explained.put_networks.Given as goal

abbrev pub invariant-loop-bits : goal.invariant-loop-bits
invariant-loop-bits l =
    let text = network_text l.format l.self.table.now.items l.self.candidates.now in
    string_bytes l.text ++ flat_map text (networks_below l.self.address l.bits) ≡ string_bytes l.initial.text ++ flat_map text (networks_below l.self.address 33)
