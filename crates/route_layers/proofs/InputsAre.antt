-- What routes are calculated from is what the definitions speak of, and is ready to be calculated
-- from.
--   ready_of: each area's tree belongs to its database
--   area_is: an area with its database and its interfaces that are up is one of the definitions
--   inputs_are: what is kept of a state is calculated from what the definitions speak of
use Rattle.std.proofs.Common.{◌≡◌, List, [], ◌∷◌, map, length, Option, Some, None, refl, sym, subst, ◌∙◌, ⊎_elim, arith}
use Rattle.std.specs.List.{Contains}
use Rattle.std.specs.FinMap.{values, entries, empty, len-entries, len-empty}
use Rattle.std.proofs.lemmas.List.{length-map}
use Rattle.ospf_types.specs.declared.config.AreaConfig.{AreaConfig}
use Rattle.ospf_types.specs.declared.key.Key.{Key}
use Rattle.ospf_types.specs.declared.key.Scope.TheVariants.{Area as area_scope}
use Rattle.ospf_types.specs.Keys.{key_cmp}
use Rattle.ospf_types.specs.Lsa.{Lsa}
use Rattle.ospf_types.proofs.Elements.{no_element, first_or_later}
use Rattle.lsdb.specs.Databases.{Database}
use Rattle.vertex_graph.specs.Up.{Up}
use Rattle.area_trees.specs.Areas.{AreaTreeValue, IsAreaTree, IsAreaOf}
use Rattle.intra.specs.Inputs.{AreaValue, InputsValue, AreReady}
use Rattle.intra.specs.Right.{AreInputAreas, AreInputsOf}
use Rattle.event_state.specs.States.{State, database_of, lsas_of, inputs_of}
use Rattle.event_state.specs.Held.{AreFit}
use Rattle.route_layers.specs.Trees.{lsas_in, areas_with, inputs_with, AreUpsOf, AreTreesOf}
use Rattle.route_layers.specs.Works.{area_of}
use Rattle.route_layers.proofs.Places.{fit_lsas}

-- each tree belongs to its area's database
ready : (s : State) (areas : List AreaConfig) (trees : List AreaTreeValue) → AreTreesOf s areas trees → (a : AreaValue) → Contains (areas_with s areas trees) a → (ups : List Up) × IsAreaTree s.config.router a.lsas ups a.tree
ready s [] [] are a c = absurd (no_element a c)
ready s (b ∷ areas) (t ∷ trees) are a c =
    let first : AreaValue = record { id = b.id; lsas = lsas_in (database_of s (area_scope b.id)); tree = t } in
    ⊎_elim
    (λ (e : a ≡ first). subst (λ (x : AreaValue). (ups : List Up) × IsAreaTree s.config.router x.lsas ups x.tree) (sym e) (are.0.0, are.0.2))
    (λ (later : Contains (areas_with s areas trees) a). ready s areas trees are.1 a later)
    (first_or_later first a (areas_with s areas trees) c)
ready s [] (t ∷ trees) are a c = absurd are
ready s (b ∷ areas) [] are a c = absurd are

pub ready_of : (s : State) (trees : List AreaTreeValue) → AreTreesOf s s.config.areas trees → AreReady (inputs_with s trees)
ready_of s trees are a c = ready s s.config.areas trees are a c

-- the LSAs of a scope
no_length : {X : Type 0} (xs : List X) → length xs ≡ 0 → xs ≡ []
no_length [] e = refl
no_length (x ∷ xs) e = absurd (omega arith)

abbrev none : Database
none = empty

no_values : values none ≡ []
no_values = no_length (values none) (length-map (entries none) (λ (e : Key × Lsa). e.1) ∙ sym (len-entries none) ∙ len-empty key_cmp Lsa)

pub lsas_same : (o : Option Database) → lsas_of o ≡ values (lsas_in o)
lsas_same None = sym no_values
lsas_same (Some d) = refl

-- an area with its database and its interfaces that are up is one of the definitions
pub area_is : (s : State) → AreFit s.config.areas s.databases → (a : AreaConfig) (ups : List Up) → AreUpsOf s a.id ups → IsAreaOf (inputs_of s) (area_of s a) (lsas_in (database_of s (area_scope a.id))) ups
area_is s fit a ups are = record {
  lsas = lsas_same (database_of s (area_scope a.id));
  sound = (fit_lsas s fit (area_scope a.id)).sound;
  interfaces = λ u. (
    λ c. let w = (are u).0 c in (w.0, record { held = w.1; here = w.2; up = w.3 }, w.4),
    λ w. (are u).1 (w.0, w.1.held, w.1.here, w.1.up, w.2),
  );
}

areas_are : (s : State) → AreFit s.config.areas s.databases → (areas : List AreaConfig) (trees : List AreaTreeValue) → AreTreesOf s areas trees
    → AreInputAreas (inputs_of s) s.config.router (map (area_of s) areas) (areas_with s areas trees)
areas_are s fit [] [] are = tt
areas_are s fit (a ∷ areas) (t ∷ trees) are = (
  record { id = refl; ups = are.0.0; area = area_is s fit a are.0.0 are.0.1; tree = are.0.2 },
  areas_are s fit areas trees are.1,
)
areas_are s fit [] (t ∷ trees) are = absurd are
areas_are s fit (a ∷ areas) [] are = absurd are

-- what is kept of a state is calculated from what the definitions speak of
pub inputs_are : (s : State) (trees : List AreaTreeValue) → AreFit s.config.areas s.databases → AreTreesOf s s.config.areas trees → AreInputsOf (inputs_of s) (inputs_with s trees)
inputs_are s trees fit are = record { router = refl; areas = areas_are s fit s.config.areas trees are; interfaces = refl }

-- inputs of the same root, areas and interfaces are the same
pub inputs_made : (s : State) (trees : List AreaTreeValue) (v : InputsValue) → v.root ≡ s.config.router → v.areas ≡ areas_with s s.config.areas trees → v.interfaces ≡ entries s.interfaces → v ≡ inputs_with s trees
inputs_made s trees v root areas interfaces = λ j. record { root = root j; areas = areas j; interfaces = interfaces j }
