-- The first tree is built as a repair of the blank one: no links were there, nothing was reached,
-- and the links of the root are the added ones.
use Rattle.std.proofs.Common.{ℕ, [], Option, ◌⊎◌, inr}
use Rattle.ospf_types.specs.declared.entry.Vertex.{Vertex}
use Rattle.ospf_types.specs.declared.entry.Vertex.TheVariants.{Router}
use Rattle.ospf_types.specs.declared.label.Label.{Label}
use Rattle.ospf_types.specs.Distances.{Links}
use Rattle.spf.specs.Repairs.{AreGone, AreCome, IsReset}
use Rattle.spf.specs.Loops.{AreLosingSupport}
use Rattle.ospf_types.proofs.Elements.{no_element}
use Rattle.spf.proofs.QueuedDistances.{Starts, AsRoot, AsKept, starts}
use Rattle.spf.proofs.LoseSupportLoop.{lose_support_start}
use Rattle.spf.proofs.Whole.{NoLinks, no_distances, blank_tree}

module _ (after : Links) (root : ℕ) (has_root : Type 0) where
  -- no link was removed
  pub none_went : AreGone NoLinks after NoLinks
  none_went = record { went = λ from to cost label taken. absurd taken }

  -- nothing is lost
  pub none_lost : AreLosingSupport NoLinks after NoLinks root ⊥ has_root no_distances [] [] []
  none_lost = lose_support_start (blank_tree root).distances none_went [] [] (λ from to cost label other least. absurd least.taken) (λ v none. absurd (no_element v none))

  -- Only the root has a distance at the start, so it is enough that its links are added.
  pub root_came : (come : Links) (start : Vertex → Option ℕ) → has_root ⊎ (has_root → ⊥) → IsReset root has_root no_distances [] start
      → ((to : Vertex) (cost : ℕ) (label : Label) → after (Router root) to cost label → come (Router root) to cost label) → AreCome NoLinks after come start
  root_came come start flag reset came = record { came = λ from to cost label d taken at. inr (go from to cost label d taken (starts flag reset from d at)) }
    where
      go : (from to : Vertex) (cost : ℕ) (label : Label) (d : ℕ) → after from to cost label → Starts root has_root no_distances [] from d → come from to cost label
      go from to cost label d taken (AsRoot is_root has zero) = rw is_root (came to cost label (rw is_root at taken))
      go from to cost label d taken (AsKept other kept was) = absurd cc
