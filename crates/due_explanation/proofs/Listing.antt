-- The sources of the areas, one after the other.
use Rattle.std.proofs.Common.{◌≡◌, ℕ, suc, ◌+◌, ◌<◌, ◌≤◌, List, [], ◌∷◌, ◌++◌, length, drop, get_or, Option, refl, sym, ap, subst, ◌∙◌, add-one}
use Rattle.std.proofs.Math.Seq.{drop-cons}
use Rattle.std.proofs.lemmas.List.{append-nil, append_assoc, drop_all}
use Rattle.ospf_types.specs.declared.config.AreaConfig.{AreaConfig}
use Rattle.ospf_types.specs.declared.prefix.Prefix.{Prefix}
use Rattle.summaries.specs.Inputs.{SummaryInputsValue}
use Rattle.due_explanation.specs.Sources.{AreRangeSources, IsRangeSource, listed}
use Rattle.due_explanation.specs.declared.due.DueSource.{DueSource}

-- a source that was found is added to what is known
pub added : (before known after : List DueSource) (pushed found : Option DueSource) → after ≡ before ++ listed pushed → pushed ≡ found → before ≡ known → after ≡ known ++ listed found
added before known after pushed found is same was = is ∙ ap (λ (o : Option DueSource). before ++ listed o) same ∙ ap (λ (xs : List DueSource). xs ++ listed found) was

module _ (v : SummaryInputsValue) (p : Prefix) (areas : List AreaConfig) where
  -- with the sources of the areas from here on, all are there
  abbrev pub Completes : ℕ → List DueSource → List DueSource → Type 0
  Completes i first now = (rest : List DueSource) → AreRangeSources v p (drop i areas) rest → (ranges : List DueSource) × AreRangeSources v p areas ranges × (now ++ rest ≡ first ++ ranges)

  pub one_more : (i : ℕ) (first now after : List DueSource) (a : AreaConfig) (found : Option DueSource) → i < length areas → a ≡ get_or areas i a → IsRangeSource v a p found → after ≡ now ++ listed found
      → Completes i first now → Completes (i + 1) first after
  one_more i first now after a found lt at is pushed all rest are =
      let left : drop i areas ≡ a ∷ drop (i + 1) areas = drop-cons areas i a lt ∙ rw (add-one) (ap (λ (x : AreaConfig). x ∷ drop (suc i) areas) (sym at)) in
      let w = all (listed found ++ rest) (subst (λ (xs : List AreaConfig). AreRangeSources v p xs (listed found ++ rest)) (sym left) (found, rest, is, are, refl)) in
      (w.0, w.1, ap (λ (xs : List DueSource). xs ++ rest) pushed ∙ append_assoc now (listed found) rest ∙ w.2)

  pub all_done : (i : ℕ) (first now : List DueSource) → length areas ≤ i → Completes i first now → (ranges : List DueSource) × AreRangeSources v p areas ranges × (now ≡ first ++ ranges)
  all_done i first now past all =
      let w = all [] (subst (λ (xs : List AreaConfig). AreRangeSources v p xs []) (sym (drop_all i areas past)) refl) in
      (w.0, w.1, sym (append-nil now) ∙ w.2)
