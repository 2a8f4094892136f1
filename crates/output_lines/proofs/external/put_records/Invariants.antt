use Rattle.std.proofs.Common.{◌++◌, ◌-◌, ◌/◌, length, string_bytes}
use Rattle.std.specs.List.{flat_map}
use Rattle.lsa_codec.specs.Decoding.{external_at, records_met}
use Rattle.output_lines.specs.Words.{record_line}
use Rattle.output_lines.proofs.Walked.{RecordsLeft}
use Rattle.output_lines.proofs.external.put_records.Given as goal

abbrev pub invariant-loop : goal.invariant-loop
invariant-loop l =
    RecordsLeft external_at 12 record_line (length l.records / 12 - l.counter) l.rest (string_bytes l.text) (string_bytes l.initial.text ++ flat_map record_line (records_met external_at 12 l.records))
