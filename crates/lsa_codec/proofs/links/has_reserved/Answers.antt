use Rattle.std.proofs.Common.{arith}
use Rattle.std.proofs.lemmas.Bool.{eq-eqb, ne_eqb}
use Rattle.std.proofs.lemmas.List.{length-drop}
use Rattle.lsa_codec.proofs.Checksums.{from_place}
use Rattle.lsa_codec.proofs.Walks.{entries_go_on, entries_found, entries_done}
use Rattle.lsa_codec.proofs.links.has_reserved.Goals as goal

pub loop-preserved : goal.loop-preserved
loop-preserved c =
    rw (from_place 4 c.loop.rest.now) (record {
      entries = entries_go_on c.args.count c.loop.counter c.loop.rest.now _ c.loop-test.true (eq-eqb _ _ c.if-rest-ne0.false) c.loop.invariant.entries;
      room = omega (arith, length-drop 4 c.loop.rest.now);
    })

pub returns-then-rest-ne0 : goal.returns-then-rest-ne0
returns-then-rest-ne0 c =
    entries_found c.args.count c.loop.counter c.loop.rest.now _ c.loop-test.true (ne_eqb _ _ c.if-rest-ne0.true) c.loop.invariant.entries

pub returns : goal.returns
returns c = entries_done c.args.count c.loop.counter c.loop.rest.now _ c.loop-test.false c.loop.invariant.entries
