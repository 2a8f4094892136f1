use Rattle.std.proofs.Common.{List, ℕ, ◌++◌, string_bytes, ap, ◌∙◌}
use Rattle.ospf_types.specs.Network.{Network}
use Rattle.explained_replay.specs.Explanations.{network_text}
use Rattle.explained_replay.proofs.Networks.{network_printed, all_networks_printed}
use Rattle.explained_replay.proofs.explained.Explained.put_networks.Goals as goal

pub loop-bits-preserved : goal.loop-bits-preserved
loop-bits-preserved c =
    let text : Network → List ℕ = network_text c.args.format c.args.self.table.now.items c.args.self.candidates.now in
    network_printed text c.args.self.address c.loop-bits.bits _ _ _ c.loop-bits.invariant c.loop-bits-test.true (c.in_ok-put_network.ensures ∙ ap (λ p. string_bytes c.loop-bits.text ++ text p) c.around-network.ensures)

pub returns : goal.returns
returns c = all_networks_printed (network_text c.args.format c.args.self.table.now.items c.args.self.candidates.now) c.args.self.address c.loop-bits.bits _ _ c.loop-bits.invariant c.loop-bits-test.false
