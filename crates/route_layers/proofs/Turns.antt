-- The trees of the areas follow one by one, and what they then say.
--   turn_more: one more tree has followed
--   trees_followed: all trees belong to the state
--   works_followed: the works belong to the two states
--   areas_followed: the areas differ in no more than is named
use Rattle.std.proofs.Common.{◌≡◌, ℕ, suc, zero, ◌+◌, ◌<◌, ◌≤◌, true, List, [], ◌∷◌, ◌++◌, length, map, get_or, set, take, drop, refl, sym, ap, subst, ◌∙◌, inr, arith}
use Rattle.std.specs.Prelude.{min, option_map}
use Rattle.std.specs.List.{Contains}
use Rattle.std.proofs.lemmas.List.{take_all, take_more, take_more_set, drop-set-lt, drop-drop, map-append}
use Rattle.std.proofs.lemmas.List.Elements.{Contains-append_left, Contains-append_right}
use Rattle.ospf_types.specs.declared.config.AreaConfig.{AreaConfig}
use Rattle.ospf_types.specs.declared.entry.Vertex.{Vertex}
use Rattle.ospf_types.specs.declared.key.Key.{Key}
use Rattle.ospf_types.specs.declared.key.Scope.{Scope}
use Rattle.ospf_types.specs.declared.key.Scope.TheVariants.{Area}
use Rattle.ospf_types.specs.Lsa.{Body}
use Rattle.ospf_types.proofs.Elements.{mapped_element}
use Rattle.spf.specs.Touched.{Touched}
use Rattle.area_trees.specs.Areas.{AreaTreeValue}
use Rattle.spf.specs.TreeValues.{AreOthersKept}
use Rattle.area_trees.proofs.Work.{work_in}
use Rattle.intra.specs.Changes.{AreasDifferAmong}
use Rattle.event_state.specs.States.{State}
use Rattle.event_state.specs.Held.{AreFit}
use Rattle.event_state.proofs.InPlace.{not_reached}
use Rattle.route_layers.specs.Trees.{areas_with, IsTreeFor, AreTreesOf, StatesDifferAmong}
use Rattle.route_layers.specs.Turns.{Turn, IsTurn, AreTurns, AreFollowed, AreFollowedTo, AreOthersStill}
use Rattle.route_layers.specs.Works.{AreWorksOf, IsTotal, most_count}
use Rattle.route_layers.proofs.InputsAre.{area_is}
use Rattle.route_layers.proofs.Places.{body_used}
use Rattle.route_layers.proofs.Sums.{total_more}

-- ---- more vertices are named

turns_still : (s : State) (vertices more : List (ℕ × Vertex)) → ((area : ℕ) (v : Vertex) → Contains vertices (area, v) → Contains more (area, v)) → (turns : List Turn) → AreTurns s vertices turns → AreTurns s more turns
turns_still s vertices more kept [] are = tt
turns_still s vertices more kept (x ∷ xs) are = (
  record { right = are.0.right; others = λ v not. are.0.others v (λ c. not (kept x.area.id v c)); bounded = are.0.bounded; done = are.0.done },
  turns_still s vertices more kept xs are.1,
)

turns_more : (s : State) (vertices : List (ℕ × Vertex)) (turns : List Turn) (x : Turn) → AreTurns s vertices turns → IsTurn s vertices x → AreTurns s vertices (turns ++ x ∷ [])
turns_more s vertices [] x are is = (is, tt)
turns_more s vertices (y ∷ turns) x are is = (are.0, turns_more s vertices turns x are.1 is)

-- each vertex that the change names is named
pub others_still : (area : ℕ) (before : List (ℕ × Vertex)) (old new : AreaTreeValue) → AreOthersKept old.tree new.tree → AreOthersStill (before ++ map (λ v. (area, v)) new.tree.changed) area old new
others_still area before old new kept v not =
    kept v (λ c. not (Contains-append_right before (map (λ w. (area, w)) new.tree.changed) (area, v) (mapped_element (λ (w : Vertex). (area, w)) new.tree.changed v c)))

-- ---- one more tree has followed

pub none_followed : (s : State) (areas : List AreaConfig) (old : List AreaTreeValue) (vertices : List (ℕ × Vertex)) → AreFollowedTo s areas old old vertices (record { taken = 0; hop_sets = 0 }) 0
none_followed s areas old vertices = record { first = record { turns = []; areas_are = refl; old_are = refl; new_are = refl; each = tt; total = (refl, refl) }; rest = refl }

mapped_more : {X : Type 0} (f : Turn → X) (turns : List Turn) (x : Turn) (xs ys : List X) → map f turns ≡ xs → ys ≡ xs ++ f x ∷ [] → map f (turns ++ x ∷ []) ≡ ys
mapped_more f turns x xs ys are is = map-append f turns (x ∷ []) ∙ ap (λ zs. zs ++ f x ∷ []) are ∙ sym is

pub turn_more : (s : State) (areas : List AreaConfig) (old now : List AreaTreeValue) (vertices named : List (ℕ × Vertex)) (w both : Touched) (i : ℕ) (x : Turn)
    → i < length areas → length now ≡ length areas → length old ≡ length areas → x.area ≡ get_or areas i x.area → x.old ≡ get_or now i x.old
    → AreFollowedTo s areas old now vertices w i → IsTurn s (vertices ++ named) x
    → both.taken ≡ min (w.taken + x.work.taken) most_count → both.hop_sets ≡ min (w.hop_sets + x.work.hop_sets) most_count
    → AreFollowedTo s areas old (set now i x.new) (vertices ++ named) both (i + 1)
turn_more s areas old now vertices named w both i x lt now_long old_long area_is old_is to is taken sets =
    let first = to.first in
    let lt_now : i < length now = omega (arith, lt, now_long) in
    let lt_old : i < length old = omega (arith, lt, old_long) in
    let here = not_reached now old i x.old lt_now (now_long ∙ sym old_long) old_is to.rest in
    record {
      first = record {
        turns = first.turns ++ x ∷ [];
        areas_are = mapped_more (λ (y : Turn). y.area) first.turns x (take i areas) (take (i + 1) areas) first.areas_are (take_more areas i x.area lt ∙ ap (λ (a : AreaConfig). take i areas ++ a ∷ []) (sym area_is));
        old_are = mapped_more (λ (y : Turn). y.old) first.turns x (take i old) (take (i + 1) old) first.old_are (take_more old i x.old lt_old ∙ ap (λ (t : AreaTreeValue). take i old ++ t ∷ []) here);
        new_are = mapped_more (λ (y : Turn). y.new) first.turns x (take i now) (take (i + 1) (set now i x.new)) first.new_are (take_more_set now i x.new lt_now);
        each = turns_more s (vertices ++ named) first.turns x (turns_still s vertices (vertices ++ named) (λ area v c. Contains-append_left vertices named (area, v) c) first.turns first.each) is;
        total = subst (λ (works : List Touched). IsTotal works both) (sym (map-append (λ (y : Turn). y.work) first.turns (x ∷ []))) (total_more (map (λ (y : Turn). y.work) first.turns) w x.work both first.total taken sets);
      };
      rest = drop-set-lt (i + 1) now i x.new (omega arith) ∙ sym (drop-drop 1 i now) ∙ ap (drop 1) to.rest ∙ drop-drop 1 i old;
    }

pub all_followed : (s : State) (areas : List AreaConfig) (old now : List AreaTreeValue) (vertices : List (ℕ × Vertex)) (w : Touched) (i : ℕ)
    → length areas ≤ i → length old ≡ length areas → length now ≡ length areas → AreFollowedTo s areas old now vertices w i → AreFollowed s areas old now vertices w
all_followed s areas old now vertices w i le old_long now_long to =
    subst (λ (list : List AreaConfig). AreFollowed s list old now vertices w) (take_all i areas le)
    (subst (λ (list : List AreaTreeValue). AreFollowed s (take i areas) list now vertices w) (take_all i old (omega (arith, le, old_long)))
    (subst (λ (list : List AreaTreeValue). AreFollowed s (take i areas) (take i old) list vertices w) (take_all i now (omega (arith, le, now_long))) to.first))

-- ---- what the trees of a state say of each area

pub trees_long : (s : State) (areas : List AreaConfig) (trees : List AreaTreeValue) → AreTreesOf s areas trees → length trees ≡ length areas
trees_long s [] [] are = refl
trees_long s (a ∷ areas) (t ∷ trees) are = ap (λ (n : ℕ). suc n) (trees_long s areas trees are.1)
trees_long s [] (t ∷ trees) are = absurd are
trees_long s (a ∷ areas) [] are = absurd are

pub tree_at : (s : State) (areas : List AreaConfig) (trees : List AreaTreeValue) (i : ℕ) (a : AreaConfig) (t : AreaTreeValue) → AreTreesOf s areas trees → i < length areas → IsTreeFor s (get_or areas i a).id (get_or trees i t)
tree_at s [] trees i a t are lt = absurd (omega arith)
tree_at s (b ∷ areas) [] i a t are lt = absurd are
tree_at s (b ∷ areas) (u ∷ trees) zero a t are lt = are.0
tree_at s (b ∷ areas) (u ∷ trees) (suc i) a t are lt = tree_at s areas trees i a t are.1 (omega arith)

-- ---- all have followed

pub trees_followed : (s : State) (vertices : List (ℕ × Vertex)) (turns : List Turn) → AreTurns s vertices turns → AreTreesOf s (map (λ (x : Turn). x.area) turns) (map (λ (x : Turn). x.new) turns)
trees_followed s vertices [] are = tt
trees_followed s vertices (x ∷ turns) are = (are.0.right, trees_followed s vertices turns are.1)

module _ (s t : State) (fit : AreFit s.config.areas s.databases) (fit_after : AreFit t.config.areas t.databases) (config : t.config.router ≡ s.config.router) (vertices : List (ℕ × Vertex)) where
  pub works_followed : (areas : List AreaConfig) (turns : List Turn) → AreTurns t vertices turns → AreTreesOf s areas (map (λ (x : Turn). x.old) turns)
      → AreWorksOf s t areas (map (λ (x : Turn). x.area) turns) (map (λ (x : Turn). x.work) turns)
  works_followed [] [] are before = tt
  works_followed [] (x ∷ turns) are before = absurd before
  works_followed (a ∷ areas) [] are before = absurd before
  works_followed (a ∷ areas) (x ∷ turns) are before =
      let old = before.0 in
      let new = are.0.right in (
        work_in (area_is s fit a old.0 old.1) old.2 (area_is t fit_after x.area new.0 new.1) new.2 (sym config) are.0.bounded are.0.done,
        works_followed areas turns are.1 before.1,
      )

module _ (s t : State) (keys : List (Scope × Key)) (ids : List ℕ) (vertices : List (ℕ × Vertex)) (differ : StatesDifferAmong keys ids true s t) where
  pub areas_followed : (turns : List Turn) → AreTurns t vertices turns
      → AreasDifferAmong keys vertices (areas_with s (map (λ (x : Turn). x.area) turns) (map (λ (x : Turn). x.old) turns)) (areas_with t (map (λ (x : Turn). x.area) turns) (map (λ (x : Turn). x.new) turns))
  areas_followed [] are = tt
  areas_followed (x ∷ turns) are = (
    record {
      id = refl;
      lsas = λ key not.
          body_used t (Area x.area.id) key ∙ ap (option_map (λ (used : ℕ × Body). used.1)) (differ.usable (Area x.area.id) key not) ∙ sym (body_used s (Area x.area.id) key);
      tree = λ v not. inr (are.0.others v not);
    },
    areas_followed turns are.1,
  )
