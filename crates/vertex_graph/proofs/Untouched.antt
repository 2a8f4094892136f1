-- The links of vertices that a change does not touch stay.
use Rattle.std.proofs.Common.{◌≡◌, ◌≢◌, ℕ, List, Option, ⊎_elim, sym, subst}
use Rattle.std.specs.Prelude.{◌↔◌, Contains}
use Rattle.ospf_types.specs.declared.entry.Vertex.{Vertex}
use Rattle.ospf_types.specs.declared.entry.Vertex.TheVariants.{Router}
use Rattle.ospf_types.specs.declared.label.Label.{Label}
use Rattle.ospf_types.specs.Distances.{Links}
use Rattle.graph_links.specs.declared.link_end.LinkEnd.{LinkEnd}
use Rattle.graph_links.specs.declared.link.Up.{Up}
use Rattle.graph_links.specs.Pairs.{Names, AreAlikeAt}
use Rattle.graph_links.specs.Sides.{Leading, LinksBy, ends_or}
use Rattle.vertex_graph.specs.Stagings.{AreTouched}
use Rattle.graph_links.proofs.PairAlike.{alike_back, pair_names, pair_alike, pair_elsewhere}
use Rattle.graph_links.proofs.VertexTests.{one_or_other}

-- the links out of the vertex and into it are the same
pub record IsAlike (Here There : Links) (v : Vertex) : Type 0 where
  pub out : (w : Vertex) (cost : ℕ) (label : Label) → Here v w cost label ↔ There v w cost label
  pub into : (w : Vertex) (cost : ℕ) (label : Label) → Here w v cost label ↔ There w v cost label

-- where both vertices lead to each other as before
module _ (root : ℕ) (ups : List Up) (before after : Leading) (v : Vertex) (own : after v ≡ before v) (others : (w : Vertex) → AreAlikeAt v (ends_or (before w)) (ends_or (after w))) where
  unchanged : (w : Vertex) → AreAlikeAt w (ends_or (before v)) (ends_or (after v))
  unchanged w e at = subst (λ (o : Option (List LinkEnd)). Contains (ends_or (before v)) e ↔ Contains (ends_or o) e) (sym own) (λ h. h, λ h. h)

  pub kept : IsAlike (LinksBy root ups before) (LinksBy root ups after) v
  kept = record {
    out = λ w cost label. (
      pair_alike root ups v w (ends_or (before v)) (ends_or (after v)) (ends_or (before w)) (ends_or (after w)) cost label (unchanged w) (others w),
      pair_alike root ups v w (ends_or (after v)) (ends_or (before v)) (ends_or (after w)) (ends_or (before w)) cost label (alike_back w _ _ (unchanged w)) (alike_back v _ _ (others w)),
    );
    into = λ w cost label. (
      pair_alike root ups w v (ends_or (before w)) (ends_or (after w)) (ends_or (before v)) (ends_or (after v)) cost label (others w) (unchanged w),
      pair_alike root ups w v (ends_or (after w)) (ends_or (before w)) (ends_or (after v)) (ends_or (before v)) cost label (alike_back v _ _ (others w)) (alike_back w _ _ (unchanged w)),
    );
  }

pub untouched_by_ends : (root : ℕ) (ups : List Up) (before after : Leading) (touched : List Vertex) → AreTouched before after touched → (v : Vertex) → (Contains touched v → ⊥) → IsAlike (LinksBy root ups before) (LinksBy root ups after) v
untouched_by_ends root ups before after touched are v apart = kept root ups before after v (are.own v apart) (λ w. are.named v w apart)

-- other interfaces of the root
module _ (root : ℕ) (ups ups_new : List Up) (leading : Leading) (touched : List Vertex) (own : Contains touched (Router root)) (named : (v : Vertex) → Names (ends_or (leading (Router root))) v → Contains touched v) (v : Vertex) (apart : Contains touched v → ⊥) where
  not_root : v ≢ Router root
  not_root same = apart (subst (Contains touched) (sym same) own)

  into_one : (before after : List Up) (w : Vertex) (cost : ℕ) (label : Label) → LinksBy root before leading w v cost label → LinksBy root after leading w v cost label
  into_one before after w cost label link =
      ⊎_elim (λ (same : w ≡ Router root). absurd (apart (named v (subst (λ u. Names (ends_or (leading u)) v) same (pair_names root before w v (ends_or (leading w)) (ends_or (leading v)) cost label link)))))
      (λ (other : w ≢ Router root). pair_elsewhere root before after w v (ends_or (leading w)) (ends_or (leading v)) cost label other link) (one_or_other w (Router root))

  pub untouched_by_ups : IsAlike (LinksBy root ups leading) (LinksBy root ups_new leading) v
  untouched_by_ups = record {
    out = λ w cost label. (
      pair_elsewhere root ups ups_new v w (ends_or (leading v)) (ends_or (leading w)) cost label not_root,
      pair_elsewhere root ups_new ups v w (ends_or (leading v)) (ends_or (leading w)) cost label not_root,
    );
    into = λ w cost label. (into_one ups ups_new w cost label, into_one ups_new ups w cost label);
  }
