use Rattle.std.proofs.Common.{◌++◌, ◌+◌, ◌-◌, string_bytes}
use Rattle.output_lines.specs.Words.{links_words}
use Rattle.output_lines.proofs.Walked.{LinksLeft, links_in}
use Rattle.output_lines.proofs.router.put_links.Given as goal

abbrev pub invariant-loop-place : goal.invariant-loop-place
invariant-loop-place l =
    LinksLeft (l.place + 1) (l.count - l.place) l.rest (string_bytes l.text) (string_bytes l.initial.text ++ links_words 1 (links_in l.count l.links))
