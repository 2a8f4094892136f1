-- An index of no LSAs, and a database that gets its first one.
use Rattle.std.proofs.Common.{◌≡◌, ◌≢◌, ℕ, [], ◌∷◌, Option, sym, ap, subst, ◌∙◌}
use Rattle.std.specs.Prelude.{Contains, option_and_then, option_map}
use Rattle.std.specs.FinMap as map
use Rattle.ospf_types.specs.declared.key.Key.{Key}
use Rattle.ospf_types.specs.declared.key.Scope.{Scope}
use Rattle.ospf_types.specs.Keys.{key_cmp}
use Rattle.ospf_types.specs.Lsa.{Lsa, Body}
use Rattle.ospf_types.proofs.Elements.{first_element}
use Rattle.ospf_types.proofs.Orders.{key_total, key_exact}
use Rattle.route_choice.proofs.KeyedMaps.{set_elsewhere}
use Rattle.lsdb.specs.Contents.{contents_of}
use Rattle.lsdb.specs.Databases.{Database}
use Rattle.advertised_index.specs.Indexes.{OfferIndexValue, IsIndexOf, LsasDifferAmong}
use Rattle.advertised_index.proofs.Following.{nothing_there}

pub index_of_nothing : (root : ℕ) (scope : Scope) (i : OfferIndexValue) → i ≡ record { routes = map.empty } → IsIndexOf root scope map.empty i
index_of_nothing root scope i is k = ap (λ (j : OfferIndexValue). map.get j.routes k) is ∙ map.get-empty key_cmp k ∙ sym (nothing_there root scope map.empty k (map.get-empty key_cmp k))

pub differs_first : (scope : Scope) (d : Database) (key named : Key) (l : Lsa) → d ≡ map.insert map.empty key l → named ≡ key → LsasDifferAmong ((scope, named) ∷ []) scope map.empty d
differs_first scope d key named l is same k apart =
    let other : k ≢ key = λ e. apart (subst (λ (q : Key). Contains {X = Scope × Key} ((scope, q) ∷ []) (scope, k)) (e ∙ sym same) (first_element (scope, k) [])) in
    ap (λ (o : Option Lsa). option_map (λ (used : ℕ × Body). used.1) (option_and_then contents_of o)) (ap (λ (e : Database). map.get e k) is ∙ set_elsewhere key_total key_exact map.empty key k l other)
