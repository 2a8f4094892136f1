use Rattle.std.proofs.Common.{string_bytes, drop, map}
use Rattle.std.specs.List.{flat_map}
use Rattle.replay.proofs.Paging.{Adding}
use Rattle.change_log.specs.Lines.{line_of, lines_of}
use Rattle.change_log.specs.Changes.{network_change}
use Rattle.change_log.proofs.showing.show_networks.Given as goal

abbrev pub invariant-loop-prefix : goal.invariant-loop-prefix
invariant-loop-prefix g l =
    Adding (g.W.Write.contents l.initial.out) (g.W.Write.contents l.out) (string_bytes l.initial.buffer) (string_bytes l.buffer)
    (lines_of l.at.number l.at.wanted (map (network_change l.fn.table.items) l.networks)) (flat_map (λ p. line_of l.at.number l.at.wanted (network_change l.fn.table.items p)) (drop l.prefix-index l.networks))
