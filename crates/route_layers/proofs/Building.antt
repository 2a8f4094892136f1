-- The trees of the areas are built one by one.
use Rattle.std.proofs.Common.{◌≡◌, ℕ, ◌+◌, ◌<◌, List, [], ◌∷◌, ◌++◌, length, get_or, take, refl, sym, ap, subst, ◌∙◌}
use Rattle.std.specs.Prelude.{min}
use Rattle.std.proofs.lemmas.List.{take_more}
use Rattle.ospf_types.specs.declared.config.AreaConfig.{AreaConfig}
use Rattle.spf.specs.Touched.{Touched}
use Rattle.spf.specs.TreeValues.{IsWorkForAll}
use Rattle.area_trees.specs.Areas.{AreaTreeValue}
use Rattle.event_state.specs.States.{State}
use Rattle.route_layers.specs.Trees.{IsTreeFor, AreTreesOf}
use Rattle.route_layers.specs.Turns.{AreBuilt}
use Rattle.route_layers.specs.Works.{AreWorksForAll, most_count}
use Rattle.route_layers.proofs.Sums.{total_more}

trees_more : (s : State) (areas : List AreaConfig) (trees : List AreaTreeValue) (a : AreaConfig) (t : AreaTreeValue) → AreTreesOf s areas trees → IsTreeFor s a.id t → AreTreesOf s (areas ++ a ∷ []) (trees ++ t ∷ [])
trees_more s [] [] a t are is = (is, tt)
trees_more s (b ∷ areas) (u ∷ trees) a t are is = (are.0, trees_more s areas trees a t are.1 is)
trees_more s [] (u ∷ trees) a t are is = absurd are
trees_more s (b ∷ areas) [] a t are is = absurd are

works_more : (trees : List AreaTreeValue) (works : List Touched) (t : AreaTreeValue) (w : Touched) → AreWorksForAll trees works → IsWorkForAll t.area.graph t.tree w.taken w.hop_sets → AreWorksForAll (trees ++ t ∷ []) (works ++ w ∷ [])
works_more [] [] t w are is = (is, tt)
works_more (u ∷ trees) (x ∷ works) t w are is = (are.0, works_more trees works t w are.1 is)
works_more [] (x ∷ works) t w are is = absurd are
works_more (u ∷ trees) [] t w are is = absurd are

pub none_built : (s : State) → AreBuilt s [] [] (record { taken = 0; hop_sets = 0 })
none_built s = record { trees_are = tt; works = []; done = tt; total = (refl, refl) }

-- one more is built
pub one_built : (s : State) (areas : List AreaConfig) (i : ℕ) (a : AreaConfig) (trees : List AreaTreeValue) (t : AreaTreeValue) (w x both : Touched)
    → i < length areas → a ≡ get_or areas i a → AreBuilt s (take i areas) trees w → IsTreeFor s a.id t → IsWorkForAll t.area.graph t.tree x.taken x.hop_sets
    → both.taken ≡ min (w.taken + x.taken) most_count → both.hop_sets ≡ min (w.hop_sets + x.hop_sets) most_count → AreBuilt s (take (i + 1) areas) (trees ++ t ∷ []) both
one_built s areas i a trees t w x both lt here built right work taken sets = record {
  trees_are = subst (λ (list : List AreaConfig). AreTreesOf s list (trees ++ t ∷ [])) (sym (take_more areas i a lt ∙ ap (λ (b : AreaConfig). take i areas ++ b ∷ []) (sym here))) (trees_more s (take i areas) trees a t built.trees_are right);
  works = built.works ++ x ∷ [];
  done = works_more trees built.works t x built.done work;
  total = total_more built.works w x both built.total taken sets;
}
