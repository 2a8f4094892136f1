-- Losing support: the invariant of the loop holds at the start and in each round.
use Rattle.std.proofs.Common.{◌≡◌, ◌≢◌, ℕ, List, [], Option, Some, sym, ap, subst, ◌∙◌, ◌⊎◌, inl, inr}
use Rattle.std.specs.List.{Contains}
use Rattle.ospf_types.specs.declared.entry.Vertex.{Vertex}
use Rattle.ospf_types.specs.declared.entry.Vertex.TheVariants.{Router}
use Rattle.ospf_types.specs.declared.label.Label.{Label}
use Rattle.ospf_types.specs.Distances.{Links}
use Rattle.vertex_queue.specs.VertexSet.{IsAdded}
use Rattle.spf.specs.Trees.{AreDistances, IsShortestLink}
use Rattle.spf.specs.Repairs.{AreGone, IsSupported}
use Rattle.spf.specs.Loops.{IsReached, AreLosingSupport, IsLost}
use Rattle.ospf_types.proofs.Elements.{no_element}
use Rattle.spf.proofs.LostVertices.{held_at_start, held_passed, held_lost, dear_at_start, dear_lost}

module _ {before after gone : Links} {root : ℕ} {had_root has_root : Type 0} {old : Vertex → Option ℕ} (were : AreDistances before root had_root old) where
  -- at the start the heads of the removed least links are suspected and stale
  pub lose_support_start : AreGone before after gone → (suspects stale : List Vertex)
      → ((from to : Vertex) (cost : ℕ) (label : Label) → to ≢ Router root → IsShortestLink gone old from to cost label → Contains suspects to × Contains stale to)
      → ((v : Vertex) → Contains suspects v → IsReached root old v)
      → AreLosingSupport before after gone root had_root has_root old [] suspects stale
  lose_support_start are_gone suspects stale found reached = record {
    held = held_at_start are_gone were suspects (λ from to cost label other least. (found from to cost label other least).0);
    dear = dear_at_start after has_root were;
    told = record { went = λ from to cost label other least. (found from to cost label other least).1; led = λ from to cost label d e none. absurd (no_element from none) };
    reached = λ v none. absurd (no_element v none);
    suspected = reached;
  }

  -- a round in which the suspect is lost already, or supported
  pub lose_support_passed : (lost rest suspects stale : List Vertex) (v : Vertex) → AreLosingSupport before after gone root had_root has_root old lost suspects stale → IsAdded rest suspects v
      → Contains lost v ⊎ ((d : ℕ) → old v ≡ Some d → IsSupported after old lost v d) → AreLosingSupport before after gone root had_root has_root old lost rest stale
  lose_support_passed lost rest suspects stale v l popped passed = record {
    held = held_passed lost suspects rest v l.held popped.only passed;
    dear = l.dear;
    told = l.told;
    reached = l.reached;
    suspected = λ w c. l.suspected w (popped.grows w c);
  }

  -- a round in which the suspect is lost
  pub lose_support_lost : (lost more rest suspects again stale wider : List Vertex) (v : Vertex) → AreLosingSupport before after gone root had_root has_root old lost suspects stale → IsAdded rest suspects v
      → IsLost after root old lost more rest again stale wider v → AreLosingSupport before after gone root had_root has_root old more again wider
  lose_support_lost lost more rest suspects again stale wider v l popped is = record {
    held = held_lost lost more suspects again v l.held
        (λ w c. elim (popped.only w c) [ inl same ↦ inl same | inr later ↦ inr (is.waits w later) ])
        is.adds.grows is.adds.here is.adds.only
        (λ to cost label d e taken other from_at to_at most. (is.led to cost label d e taken other from_at to_at most).1);
    dear = dear_lost after has_root were lost more v l.dear suspect.other is.unsupported is.adds.only;
    told = record {
      went = λ from to cost label other least. is.widens to (l.told.went from to cost label other least);
      led = λ from to cost label d e c taken other from_at to_at most. elim (is.adds.only from c) [
        | inr earlier ↦ is.widens to (l.told.led from to cost label d e earlier taken other from_at to_at most)
        | inl same ↦ (is.led to cost label d e (subst (λ w. after w to cost label) same taken) other (ap old (sym same) ∙ from_at) to_at most).0
      ];
    };
    reached = λ w c. elim (is.adds.only w c) [ inr earlier ↦ l.reached w earlier | inl same ↦ subst (λ u. IsReached root old u) (sym same) suspect ];
    suspected = λ w c. elim (is.only w c) [ inr reached ↦ reached | inl waits ↦ l.suspected w (popped.grows w waits) ];
  }
    where
      suspect : IsReached root old v
      suspect = l.suspected v popped.here
