-- Why each vertex is looked at, through the loops of a repair.
use Rattle.std.proofs.Common.{◌≡◌, ℕ, List, [], Option, Some, sym, subst, ◌⊎◌, inl, inr}
use Rattle.std.specs.List.{Contains}
use Rattle.ospf_types.specs.declared.entry.Vertex.{Vertex}
use Rattle.ospf_types.specs.declared.hop.NextHop.{NextHop}
use Rattle.ospf_types.specs.declared.label.Label.{Label}
use Rattle.ospf_types.specs.Distances.{Links}
use Rattle.vertex_queue.specs.VertexSet.{IsAdded}
use Rattle.spf.specs.Repairs.{IsDue, Moved, Went, Came, OutOfLost, OutOfMoved, OutOfWritten}
use Rattle.spf.specs.Loops.{IsUpdated, AreVerticesDue, AreQueuedDue}
use Rattle.ospf_types.proofs.Elements.{no_element}

module _ {after gone come : Links} where
  -- what is due stays so when more is lost, moved or written
  pub due_more : (lost more_lost moved more_moved written more_written : List Vertex) → ((v : Vertex) → Contains lost v → Contains more_lost v) → ((v : Vertex) → Contains moved v → Contains more_moved v)
      → ((v : Vertex) → Contains written v → Contains more_written v) → (v : Vertex) → IsDue after gone come lost moved written v → IsDue after gone come more_lost more_moved more_written v
  due_more lost more_lost moved more_moved written more_written l m w v (Moved c) = Moved (m v c)
  due_more lost more_lost moved more_moved written more_written l m w v (Went from cost label went) = Went from cost label went
  due_more lost more_lost moved more_moved written more_written l m w v (Came from cost label came) = Came from cost label came
  due_more lost more_lost moved more_moved written more_written l m w v (OutOfLost from cost label taken c) = OutOfLost from cost label taken (l from c)
  due_more lost more_lost moved more_moved written more_written l m w v (OutOfMoved from cost label taken c) = OutOfMoved from cost label taken (m from c)
  due_more lost more_lost moved more_moved written more_written l m w v (OutOfWritten from cost label taken c) = OutOfWritten from cost label taken (w from c)

  -- A stale vertex is due: at the start by a removed link, while support is lost by a link out of
  -- what is lost, then by an added link, and while distances are relaxed by a link out of what is
  -- moved.
  pub due_went : (stale : List Vertex) → ((v : Vertex) → Contains stale v → (from : Vertex) × (cost : ℕ) × (label : Label) × gone from v cost label) → AreVerticesDue after gone come [] [] [] stale
  due_went stale by = record { due = λ v c. let w = by v c in Went w.0 w.1 w.2 w.3 }

  -- where the heads of the links out of what is lost become stale
  pub due_lost : (lost more stale wider : List Vertex) (v : Vertex) → AreVerticesDue after gone come lost [] [] stale → IsAdded lost more v
      → ((w : Vertex) → Contains wider w → Contains stale w ⊎ ((cost : ℕ) × (label : Label) × after v w cost label)) → AreVerticesDue after gone come more [] [] wider
  due_lost lost more stale wider v d added by = record {
    due = λ w c. elim (by w c) [
      | inl was ↦ due_more lost more [] [] [] [] added.grows (λ u x. x) (λ u x. x) w (d.due w was)
      | inr led ↦ OutOfLost v led.0 led.1 led.2 added.here
    ];
  }

  -- where the heads of added links become stale
  pub due_came : (lost stale wider : List Vertex) → AreVerticesDue after gone come lost [] [] stale
      → ((w : Vertex) → Contains wider w → Contains stale w ⊎ ((from : Vertex) × (cost : ℕ) × (label : Label) × come from w cost label)) → AreVerticesDue after gone come lost [] [] wider
  due_came lost stale wider d by = record { due = λ w c. elim (by w c) [ inl was ↦ d.due w was | inr came ↦ Came came.0 came.1 came.2 came.3 ] }

  -- where the heads of the links out of what is moved become stale
  pub due_moved : (lost moved all stale wider : List Vertex) (v : Vertex) → AreVerticesDue after gone come lost moved [] stale → IsAdded moved all v
      → ((w : Vertex) → Contains wider w → Contains stale w ⊎ ((cost : ℕ) × (label : Label) × after v w cost label)) → AreVerticesDue after gone come lost all [] wider
  due_moved lost moved all stale wider v d added by = record {
    due = λ w c. elim (by w c) [
      | inl was ↦ due_more lost lost moved all [] [] (λ u x. x) added.grows (λ u x. x) w (d.due w was)
      | inr led ↦ OutOfMoved v led.0 led.1 led.2 added.here
    ];
  }

  -- A moved or stale vertex is queued for its next hops.
  pub due_queued : (lost moved stale : List Vertex) (queue : Vertex → Option ℕ) → AreVerticesDue after gone come lost moved [] stale → ((v : Vertex) (k : ℕ) → queue v ≡ Some k → Contains moved v ⊎ Contains stale v)
      → AreQueuedDue after gone come lost moved [] queue
  due_queued lost moved stale queue d by = record { due = λ v k at. elim (by v k at) [ inl m ↦ Moved m | inr s ↦ d.due v s ] }

  -- nothing is taken at the start
  pub none_due : (lost moved written : List Vertex) → AreVerticesDue after gone come lost moved written []
  none_due lost moved written = record { due = λ v none. absurd (no_element v none) }

  -- In each round of updating next hops what is taken was queued, and what is put is the head of a
  -- link out of what is written.
  pub due_updated : {root : ℕ} {distance queue more : Vertex → Option ℕ} {now new : Vertex → NextHop → Type 0} (lost moved written wider taken all : List Vertex) (v : Vertex) (k : ℕ)
      → AreQueuedDue after gone come lost moved written queue → AreVerticesDue after gone come lost moved written taken
      → IsUpdated after root distance queue more now new written wider v k → IsAdded taken all v → ((w : Vertex) → Contains written w → Contains wider w)
      → AreQueuedDue after gone come lost moved wider more × AreVerticesDue after gone come lost moved wider all
  due_updated lost moved written wider taken all v k q d t added grows =
      let wide = due_more lost lost moved moved written wider (λ u x. x) (λ u x. x) grows in (
        record { due = λ w e at. elim (t.put w e at) [ inl was ↦ wide w (q.due w e was.1) | inr p ↦ OutOfWritten v p.0.cost p.0.label p.0.least.taken p.1 ] },
        record { due = λ w c. elim (added.only w c) [ inr was ↦ wide w (d.due w was) | inl same ↦ subst (λ u. IsDue after gone come lost moved wider u) (sym same) (wide v (q.due v k t.waits)) ] },
      )
