-- After some LSAs were passed there are no more routers than there were vertices, and those that
-- were passed.
use Rattle.std.proofs.Common.{◌≡◌, ℕ, ◌+◌, ◌<◌, ◌≤◌, List, length, map, get_or, ◌++◌, Option, Some, None, Bor, refl, sym, subst, ◌∙◌, ⊎_elim, arith}
use Rattle.std.specs.Prelude.{IsSome, option_map}
use Rattle.std.specs.FinMap.{get, keys, len, entries, len-entries}
use Rattle.std.specs.List.{Contains}
use Rattle.std.proofs.lemmas.List.{length-map, length-append, get_or-map}
use Rattle.std.proofs.lemmas.List.Elements.{Contains-append_left, Contains-append_right}
use Rattle.std.proofs.lemmas.Map.Entries.{length-keys_of}
use Rattle.lsa_codec.specs.declared.checked.Checked.{Checked}
use Rattle.ospf_types.specs.declared.entry.Vertex.{Vertex}
use Rattle.ospf_types.specs.declared.entry.Vertex.TheVariants.{Router}
use Rattle.ospf_types.specs.Lsa.{Body}
use Rattle.ospf_types.proofs.Elements.{mapped_element, mapped_from}
use Rattle.vertex_graph.specs.Graphs.{GraphValue, Handed, IsThereAfter, AreFewAfter, handed_of}
use Rattle.spf.specs.VertexSet.{HasNoDoubles}
use Rattle.spf.proofs.Counting.{no_longer}
use Rattle.spf.proofs.VertexMaps.{key_there}

-- the value of an option that has one
some_there : {X : Type 0} (o : Option X) → IsSome o → (x : X) × (o ≡ Some x)
some_there None is = absurd cc
some_there (Some x) is = (x, refl)

module _ (g : GraphValue) (handed : List Handed) where
  -- the vertices that were there, and those that are passed
  named : List Vertex
  named = keys g.ends ++ map (λ (h : Handed). h.0) handed

  -- a vertex that is there afterwards is one of them
  named_after : (v : Vertex) → IsThereAfter g handed v → Contains named v
  unfolding named
  named_after v there =
      ⊎_elim
      (λ (h : (body : Body) × Contains handed (v, Some body)). Contains-append_right (keys g.ends) (map (λ (h : Handed). h.0) handed) v (mapped_element (λ (h : Handed). h.0) handed (v, Some h.0) h.1))
      (λ (h : ((given : Option Body) → Contains handed (v, given) → ⊥) × IsSome (get g.ends v)).
      let is = some_there (get g.ends v) h.1 in
      Contains-append_left (keys g.ends) (map (λ (h : Handed). h.0) handed) v (key_there g.ends v is.0 is.1))
      there

  -- different routers are different vertices
  routers_apart : (routers : List ℕ) → HasNoDoubles routers → HasNoDoubles (map Router routers)
  routers_apart routers apart = λ i j d less within same.
      let j_in : j < length routers = omega (arith, within, length-map routers Router) in
      let i_in : i < length routers = omega (arith, less, j_in) in
      let equal : Router (get_or routers i 0) ≡ Router (get_or routers j 0) = sym (get_or-map Router routers i 0 d i_in) ∙ same ∙ get_or-map Router routers j 0 d j_in in
      apart i j 0 less j_in cc

  pub few_after : len g.ends + length handed ≤ 16384 → AreFewAfter g handed
  unfolding named
  few_after most routers apart there =
      let fits : length (map Router routers) ≤ length named = no_longer (map Router routers) named (routers_apart routers apart) (λ v c.
      let at = mapped_from Router routers v c in
      named_after v (subst (IsThereAfter g handed) at.2 (there at.0 at.1))) in
      omega (arith, fits, most, length-map routers Router, length-append (keys g.ends) (map (λ (h : Handed). h.0) handed), length-map handed (λ (h : Handed). h.0), length-keys_of (entries g.ends), len-entries g.ends)

-- as many are passed as there are LSAs
pub handed_length : (lsas : List (Vertex × Option (Bor Checked))) → length (handed_of lsas) ≡ length lsas
handed_length lsas = length-map lsas (λ (p : Vertex × Option (Bor Checked)). (p.0, option_map (λ (l : Bor Checked). l.now.body) p.1))
