-- The areas with their pictures, one more after the other.
use Rattle.std.proofs.Common.{refl, ◌⊎◌, ⊎_elim, ◌≡◌, ◌<◌, ◌+◌, ℕ, List, [], ◌∷◌, ◌++◌, length, take, get_or, ap, sym, subst, ◌∙◌, append-nil}
use Rattle.std.specs.List.{AllZip}
use Rattle.std.proofs.lemmas.List.{take_more}
use Rattle.ospf_types.specs.declared.config.AreaConfig.{AreaConfig}
use Rattle.vertex_graph.specs.Up.{Up}
use Rattle.area_trees.specs.Areas.{IsAreaTree}
use Rattle.intra.specs.Inputs.{AreaValue}
use Rattle.page_replay.specs.declared.pictures.Picture.{Picture}
use Rattle.page_replay.specs.Pictures.{HasTree, HaveTrees, IsPictureOf, areas_text}

zip_more : {A B : Type 0} (R : A → B → Type 0) (xs : List A) (ys : List B) (x : A) (y : B) → AllZip R xs ys → R x y → AllZip R (xs ++ x ∷ []) (ys ++ y ∷ [])
zip_more R [] [] x y all one = (one, tt)
zip_more R [] (b ∷ ys) x y all one = absurd all
zip_more R (a ∷ xs) [] x y all one = absurd all
zip_more R (a ∷ xs) (b ∷ ys) x y all one = (all.0, zip_more R xs ys x y all.1 one)

module _ (root : ℕ) (areas : List AreaValue) where
  pub picture_more : (i : ℕ) (a : AreaValue) (pictures : List Picture) (p : Picture) → i < length areas → a ≡ get_or areas i a → AllZip (IsPictureOf root) (take i areas) pictures → IsPictureOf root a p
      → AllZip (IsPictureOf root) (take (i + 1) areas) (pictures ++ p ∷ [])
  picture_more i a pictures p within is so_far one =
      subst (λ (part : List AreaValue). AllZip (IsPictureOf root) part (pictures ++ p ∷ [])) (sym (take_more areas i a within ∙ ap (λ b. take i areas ++ b ∷ []) (sym is)))
      (zip_more (IsPictureOf root) (take i areas) pictures a p so_far one)

  pub tree_of : HaveTrees areas → (i : ℕ) (a : AreaValue) → i < length areas → a ≡ get_or areas i a → HasTree a
  tree_of have i a within is = have a (i, within, sym is)

-- where areas or pictures come to an end, so does the text
pub none_left : (areas : List AreaConfig) (pictures : List Picture) (done all : List ℕ) → (areas ≡ []) ⊎ (pictures ≡ []) → done ++ areas_text areas pictures ≡ all → done ≡ all
none_left areas pictures done all ended is =
    sym (append-nil done) ∙ ap (λ (rest : List ℕ). done ++ rest) (sym (⊎_elim (λ (e : areas ≡ []). ap (λ (list : List AreaConfig). areas_text list pictures) e) (λ (e : pictures ≡ []). ap (areas_text areas) e ∙ none areas) ended)) ∙ is
  where
    none : (list : List AreaConfig) → areas_text list [] ≡ []
    none [] = refl
    none (a ∷ list) = refl

-- the tree of a root is one
pub of_ready : (root : ℕ) (a : AreaValue) → (ups : List Up) × IsAreaTree root a.lsas ups a.tree → HasTree a
of_ready root a ready = (root, ready.0, ready.1)
