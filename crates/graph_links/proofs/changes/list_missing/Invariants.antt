-- So far those up to here that are not among the others.
use Rattle.std.proofs.Common.{◌++◌, drop}
use Rattle.graph_links.specs.Pairs.{AreApart}
use Rattle.graph_links.proofs.Taking.{AreMissingUpTo}
use Rattle.graph_links.proofs.changes.list_missing.Given as goal

abbrev pub invariant-loop-link : goal.invariant-loop-link
invariant-loop-link l = record {
  missing : AreMissingUpTo l.others l.fn.links.items l.has l.link-index l.links.items;
  apart : AreApart (l.fn.links.items ++ l.has) → AreApart (l.links.items ++ drop l.link-index l.has);
}
