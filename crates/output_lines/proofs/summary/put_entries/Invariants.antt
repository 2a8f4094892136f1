use Rattle.std.proofs.Common.{◌++◌, ◌-◌, ◌/◌, length, string_bytes}
use Rattle.std.specs.List.{flat_map}
use Rattle.lsa_codec.specs.Decoding.{summary_tos_at, records_met}
use Rattle.output_lines.specs.Words.{summary_tos_line}
use Rattle.output_lines.proofs.Walked.{RecordsLeft}
use Rattle.output_lines.proofs.summary.put_entries.Given as goal

abbrev pub invariant-loop : goal.invariant-loop
invariant-loop l =
    RecordsLeft summary_tos_at 4 summary_tos_line (length l.entries / 4 - l.counter) l.rest (string_bytes l.text) (string_bytes l.initial.text ++ flat_map summary_tos_line (records_met summary_tos_at 4 l.entries))
