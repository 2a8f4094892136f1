use Rattle.std.proofs.Common.{true, false, refl}
use Rattle.std.specs.Prelude.{◌≡◌, option_copied}
use Rattle.std.specs.FinMap.{get}
use Rattle.std.proofs.lemmas.Result.{on_ok_weaker}
use Rattle.vertex_graph.specs.Graphs.{LinksOf}
use Rattle.spf.proofs.HopRounds.{settled_same, settled_written}
use Rattle.spf.proofs.update_next_hops.HopWriter.settle.Goals as goal

pub returns-then-are_same : goal.returns-then-are_same
returns-then-are_same c = record {
  settled = settled_same (LinksOf c.args.least_links.graph.now) c.args.least_links.graph.now.root (get c.args.least_links.distances.now) c.args.hops.now c.args.taken.now.vertex c.in_ok-set.set c.in_ok-set.ensures c.args.queue.now c.args.self.now.written
      (option_copied c.get.result) c.get.ensures (c.if-are_same.ensures.0 refl);
  taken = refl;
  counted = c.requires.counted;
}

pub returns : goal.returns
returns c = record {
  settled = on_ok_weaker c.put_heads.result (λ heads.
      settled_written (LinksOf c.args.least_links.graph.now) c.args.least_links.graph.now.root (get c.args.least_links.distances.now) c.args.hops.now c.args.taken.now.vertex c.in_ok-set.set c.in_ok-set.ensures c.args.queue.now c.put_heads.new.queue c.args.self.now.written c.write.new.self.written c.write.new.hops
      (option_copied c.get.result) c.get.ensures (λ same. let wrong : false ≡ true = c.if-are_same.ensures.1 same in cc) c.in_ok-write.ensures.hops c.in_ok-write.ensures.written heads) c.put_heads.ensures;
  taken = on_ok_weaker c.put_heads.result (λ heads. c.in_ok-write.ensures.taken) c.put_heads.ensures;
  counted = on_ok_weaker c.put_heads.result (λ heads. c.in_ok-write.ensures.counted) c.put_heads.ensures;
}
