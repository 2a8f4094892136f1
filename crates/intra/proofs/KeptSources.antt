-- The lists of sources that an index keeps: none is empty, and none has a source twice.
use Rattle.std.proofs.Common.{◌≡◌, ◌≢◌, ℕ, ◌<◌, cond, List, [], ◌∷◌, ◌++◌, length, take, get_or, Some, None, sym, ap, subst, ◌∙◌, inl, inr, arith}
use Rattle.std.specs.FinMap.{get, insert, remove, empty, get-empty}
use Rattle.std.specs.Map.{lookup}
use Rattle.std.specs.List.{AllPairs, Contains}
use Rattle.std.proofs.lemmas.List.{length_push, get_or-take, length-take-le}
use Rattle.std.proofs.lemmas.List.Elements.{Contains-get_or}
use Rattle.std.proofs.lemmas.List.Quantifiers.{all_pairs_push}
use Rattle.ospf_types.specs.declared.prefix.Prefix.{Prefix}
use Rattle.smallvec.specs.SmallVec.{SmallVec}
use Rattle.ospf_types.specs.Network.{Network, network_cmp}
use Rattle.ospf_types.proofs.KeyOrders.{prefixes_equal}
use Rattle.ospf_types.proofs.Orders.{network_total, network_exact}
use Rattle.route_choice.proofs.KeyedMaps.{one_or_other, set_here, set_elsewhere, gone_here, gone_elsewhere}
use Rattle.intra.specs.declared.area_index.PrefixSource.{PrefixSource}
use Rattle.intra.specs.Indexes.{SourcesByPrefix, AreSourceLists}
use Rattle.intra.proofs.SourceMaps.{sources_map, sources_written, sources_removed}

abbrev pub IsSourceList : List PrefixSource → Type 0
IsSourceList list = (list ≢ []) × AllPairs (λ a b. a ≢ b) list

pub none_kept : (m : SourcesByPrefix) → m ≡ empty → AreSourceLists m
none_kept m is p list stands = absurd (let wrong : Some list ≡ None = sym stands ∙ ap (λ (n : SourcesByPrefix). get n p) is ∙ get-empty network_cmp p in cc)

module _ (old : SourcesByPrefix) (p : Prefix) (are : AreSourceLists old) where
  -- where one prefix gets another list, all are lists of sources still
  pub kept_with : (list : List PrefixSource) → IsSourceList list → AreSourceLists (insert old p list)
  kept_with list is q found stands =
      elim (one_or_other network_total network_exact p q) [
        | inl same ↦
            let here : Some list ≡ Some found = sym (set_here network_total old p list) ∙ sym (ap (get (insert old p list)) same) ∙ stands in
            let equal : list ≡ found = cc in
            subst IsSourceList equal is
        | inr other ↦ are q found (sym (set_elsewhere network_total network_exact old p q list other) ∙ stands)
      ]

  -- where one prefix loses its list, all are lists of sources still
  pub kept_without : (list : List PrefixSource) → AreSourceLists (remove (insert old p list) p)
  kept_without list q found stands =
      elim (one_or_other network_total network_exact p q) [
        | inl same ↦
            let wrong : None ≡ Some found = sym (gone_here network_total (insert old p list) p) ∙ sym (ap (get (remove (insert old p list) p)) same) ∙ stands in
            absurd cc
        | inr other ↦
            are q found (sym (set_elsewhere network_total network_exact old p q list other) ∙ sym (gone_elsewhere network_total network_exact (insert old p list) p q other) ∙ stands)
      ]

-- one prefix gets a list in the entries, and then loses it
pub taken_out : (es fs gs : List (Network × SmallVec PrefixSource)) (p : Network) (list : SmallVec PrefixSource) → AreSourceLists (sources_map es)
    → ((q : Network) → lookup (prefixes_equal q) fs ≡ cond (prefixes_equal p q) (Some list) (lookup (prefixes_equal q) es))
    → ((q : Network) → lookup (prefixes_equal q) gs ≡ cond (prefixes_equal p q) None (lookup (prefixes_equal q) fs))
    → AreSourceLists (sources_map gs)
taken_out es fs gs p list are written removed =
    subst AreSourceLists (sym (sources_removed fs p gs removed ∙ ap (λ (m : SourcesByPrefix). remove m p) (sources_written es p fs list written)))
    (kept_without (sources_map es) p are list.items)

-- one more source, which is not there
pub one_more : (had : List PrefixSource) (s : PrefixSource) → AllPairs (λ a b. a ≢ b) had → (Contains had s → ⊥) → IsSourceList (had ++ s ∷ [])
one_more had s apart absent = (
  λ none. omega (arith, length_push had s, ap (λ (xs : List PrefixSource). length xs) none),
  all_pairs_push (λ a b. a ≢ b) had s apart (λ k d lt same. absent (subst (λ (x : PrefixSource). Contains had x) same (Contains-get_or had k d lt))),
)

-- where none occurs twice, the one at a place is not before it
pub not_before : {X : Type 0} (xs : List X) → AllPairs (λ a b. a ≢ b) xs → (i : ℕ) (x : X) → i < length xs → x ≡ get_or xs i x → Contains (take i xs) x → ⊥
not_before xs apart i x lt at c =
    let long : length (take i xs) ≡ i = length-take-le i xs (omega (arith, lt)) in
    let before : c.0 < i = omega (arith, c.1, long) in
    apart c.0 i x before lt (sym (get_or-take i xs c.0 x before) ∙ c.2 ∙ at)
