use Rattle.std.proofs.Common.{◌++◌, ◌-◌, map, string_bytes}
use Rattle.std.specs.List.{flat_map}
use Rattle.lsa_codec.specs.Faults.{raw_entries}
use Rattle.lsa_codec.specs.Decoding.{tos_of}
use Rattle.output_lines.specs.Words.{link_tos_line}
use Rattle.output_lines.proofs.Walked.{EntriesLeft}
use Rattle.output_lines.proofs.router.put_entries.Given as goal

abbrev pub invariant-loop : goal.invariant-loop
invariant-loop l =
    EntriesLeft (link_tos_line l.number) (l.count - l.counter) l.rest (string_bytes l.text) (string_bytes l.initial.text ++ flat_map (link_tos_line l.number) (map tos_of (raw_entries l.count l.entries)))
