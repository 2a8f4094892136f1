use Rattle.std.proofs.Common.{◌++◌, ◌-◌, ◌/◌, length, string_bytes}
use Rattle.std.specs.List.{flat_map}
use Rattle.lsa_codec.specs.Decoding.{router_id_at, records_met}
use Rattle.output_lines.specs.Words.{attached_line}
use Rattle.output_lines.proofs.Walked.{RecordsLeft}
use Rattle.output_lines.proofs.network.put_routers.Given as goal

abbrev pub invariant-loop : goal.invariant-loop
invariant-loop l =
    RecordsLeft router_id_at 4 attached_line (length l.routers / 4 - l.counter) l.rest (string_bytes l.text) (string_bytes l.initial.text ++ flat_map attached_line (records_met router_id_at 4 l.routers))
