use Rattle.std.proofs.Common.{◌≡◌, ◌-◌, ◌*◌, ◌≤◌, length}
use Rattle.std.specs.List.{list_any}
use Rattle.lsa_codec.specs.Faults.{raw_entries}
use Rattle.lsa_codec.proofs.Walks.{is_set}
use Rattle.lsa_codec.proofs.links.has_reserved.Given as goal

abbrev pub invariant-loop : goal.invariant-loop
invariant-loop l = record {
  entries : list_any is_set (raw_entries (l.count - l.counter) l.rest) ≡ list_any is_set (raw_entries l.count l.bytes);
  room : 4 * (l.count - l.counter) ≤ length l.rest;
}
