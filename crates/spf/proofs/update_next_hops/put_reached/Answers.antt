use Rattle.std.proofs.Common.{subst}
use Rattle.std.specs.FinMap.{get}
use Rattle.ospf_types.specs.declared.entry.Vertex.{Vertex}
use Rattle.spf.specs.HandedOn.{ArePut, IsReachedAt}
use Rattle.spf.proofs.QueuePuts.{put_start, put_turn, put_end}
use Rattle.spf.proofs.update_next_hops.put_reached.Goals as goal

pub loop-vertex-init : goal.loop-vertex-init
loop-vertex-init c = put_start (get c.args.distances.now) (IsReachedAt c.args.root (get c.args.distances.now)) c.args.vertices.now (get c.args.queue.now)

pub loop-vertex-preserved : goal.loop-vertex-preserved
loop-vertex-preserved c =
    put_turn (get c.args.distances.now) (IsReachedAt c.args.root (get c.args.distances.now)) c.args.vertices.now c.loop-vertex.vertex-index c.vertex-item.result (get c.args.queue.now) (get c.loop-vertex.queue) (get c.put_if_reached.new.queue)
    c.loop-vertex-test.true c.loop-vertex.invariant
    (subst (λ (v : Vertex). ArePut (get c.args.distances.now) (IsReachedAt c.args.root (get c.args.distances.now) v) (get c.loop-vertex.queue) (get c.put_if_reached.new.queue)) c.vertex-item.is c.in_ok-put_if_reached.ensures)

pub returns : goal.returns
returns c = put_end (get c.args.distances.now) (IsReachedAt c.args.root (get c.args.distances.now)) c.args.vertices.now c.loop-vertex.vertex-index (get c.args.queue.now) (get c.loop-vertex.queue) c.loop-vertex-test.false c.loop-vertex.invariant
