-- So far those up to here are copied.
use Rattle.std.proofs.Common.{◌≡◌, take}
use Rattle.graph_links.proofs.changes.copies.Given as goal

abbrev pub invariant-loop-link : goal.invariant-loop-link
invariant-loop-link l = l.made.items ≡ take l.link-index l.links
