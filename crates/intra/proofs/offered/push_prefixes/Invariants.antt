-- So far the prefixes of the offers up to here are there.
use Rattle.std.proofs.Common.{ℕ, take}
use Rattle.std.specs.List.{Contains}
use Rattle.ospf_types.specs.declared.prefix.Prefix.{Prefix}
use Rattle.intra.proofs.offered.push_prefixes.Given as goal

abbrev pub invariant-loop-offer : goal.invariant-loop-offer
invariant-loop-offer l = record {
  kept : (p : Prefix) → Contains l.initial.prefixes.items p → Contains l.prefixes.items p;
  offered : (p : Prefix) (metric : ℕ) → Contains (take l.offer-index l.offers) (record { prefix = p; metric = metric }) → Contains l.prefixes.items p;
}
