use Rattle.std.proofs.Common.{◌≡◌, ◌-◌, ◌+◌, ◌||◌, length}
use Rattle.std.specs.List.{list_any}
use Rattle.lsa_codec.specs.Faults.{walk, has_reserved_entry, has_wrong_mask, is_unknown}
use Rattle.lsa_codec.proofs.links.links_findings.Given as goal

-- the walk over the rest completes the walk over all
abbrev pub invariant-loop : goal.invariant-loop
invariant-loop l = record {
  reserved : (l.found.reserved || list_any has_reserved_entry (walk (l.count - l.counter) l.rest).met) ≡ list_any has_reserved_entry (walk l.count l.bytes).met;
  mask : (l.found.mask || list_any has_wrong_mask (walk (l.count - l.counter) l.rest).met) ≡ list_any has_wrong_mask (walk l.count l.bytes).met;
  link_type : (l.found.link_type || list_any is_unknown (walk (l.count - l.counter) l.rest).met) ≡ list_any is_unknown (walk l.count l.bytes).met;
  met : l.counter + length (walk (l.count - l.counter) l.rest).met ≡ length (walk l.count l.bytes).met;
  left : (walk (l.count - l.counter) l.rest).left ≡ (walk l.count l.bytes).left;
}
