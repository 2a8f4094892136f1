-- Where the link at a place is among the links.
use Rattle.std.proofs.Common.{◌≡◌, ℕ, zero, suc, ◌+◌, ◌*◌, ◌<◌, ◌≤◌, List, [], ◌∷◌, ◌++◌, length, map, drop, Some, refl, sym, ap, ◌∙◌, arith}
use Rattle.std.specs.List.{flat_map, slice_get, AllByRecursion}
use Rattle.std.proofs.lemmas.List.{length-append, drop_at, drop-drop}
use Rattle.ospf_types.specs.declared.lsa.Link.{Link}
use Rattle.ospf_types.specs.Lsa.{RouterLink}
use Rattle.lsa_codec.specs.Spelling.{link_bytes, IsLegalLink}
use Rattle.lsa_codec.specs.Faults.{raw_link, Walk, walk}
use Rattle.lsa_codec.specs.Decoding.{link_of}
use Rattle.lsa_codec.specs.Readers.{without_tos}
use Rattle.lsa_codec.proofs.LinkBytes.{link_again, link_of_again, length-link, whole_again, after_again, whole_step}

-- the bytes begin with the link at a place
pub record StartsWith (bytes : List ℕ) (links : List RouterLink) (n : ℕ) : Type 0 where
  pub link : RouterLink
  pub rest : List ℕ
  pub text : bytes ≡ link_bytes link ++ rest
  pub legal : IsLegalLink link
  pub place : slice_get (map without_tos links) n ≡ Some (without_tos link)

left_again : (n : ℕ) (l : RouterLink) (others : List ℕ) → (walk (suc n) (link_bytes l ++ others)).left ≡ (walk n others).left
left_again n l others =
    ap (λ (w : Walk). w.left) (whole_step n (link_bytes l ++ others) (whole_again l others)) ∙ ap (λ (r : List ℕ). (walk n r).left) (after_again l others)

pub walk_starts : (n : ℕ) (links : List RouterLink) → AllByRecursion IsLegalLink links → n < length links → StartsWith (walk n (flat_map link_bytes links)).left links n
unfolding walk
walk_starts n [] legal lt = absurd (omega arith)
walk_starts zero (l ∷ links) legal lt = record { link = l; rest = flat_map link_bytes links; text = refl; legal = legal.0; place = refl }
walk_starts (suc n) (l ∷ links) legal lt =
    let more = walk_starts n links legal.1 (omega arith) in
    record { link = more.link; rest = more.rest; text = left_again n l (flat_map link_bytes links) ∙ more.text; legal = more.legal; place = more.place }

-- no link is shorter than 12 bytes
links_long : (links : List RouterLink) → 12 * length links ≤ length (flat_map link_bytes links)
links_long [] = omega arith
links_long (l ∷ links) =
    omega (arith, links_long links, length-append (link_bytes l) (flat_map link_bytes links), length-link l)

-- where all together have 12 bytes each, none has TOS entries
pub fixed_starts : (n : ℕ) (links : List RouterLink) → AllByRecursion IsLegalLink links → length (flat_map link_bytes links) ≡ 12 * length links → n < length links → StartsWith (drop (12 * n) (flat_map link_bytes links)) links n
fixed_starts n [] legal size lt = absurd (omega arith)
fixed_starts zero (l ∷ links) legal size lt = record { link = l; rest = flat_map link_bytes links; text = refl; legal = legal.0; place = refl }
fixed_starts (suc n) (l ∷ links) legal size lt =
    let whole = length-append (link_bytes l) (flat_map link_bytes links) in
    let here : length (link_bytes l) ≡ 12 = omega (arith, size, whole, length-link l, links_long links) in
    let others : length (flat_map link_bytes links) ≡ 12 * length links = omega (arith, size, whole, here) in
    let more = fixed_starts n links legal.1 others (omega arith) in
    let split : 12 * suc n ≡ 12 + 12 * n = omega arith in
    let skip : drop (12 * suc n) (link_bytes l ++ flat_map link_bytes links) ≡ drop (12 * n) (flat_map link_bytes links) = ap (λ (k : ℕ). drop k (link_bytes l ++ flat_map link_bytes links)) split ∙ sym (drop-drop (12 * n) 12 (link_bytes l ++ flat_map link_bytes links)) ∙ ap (drop (12 * n)) (drop_at (link_bytes l) (flat_map link_bytes links) 12 here) in
    record { link = more.link; rest = more.rest; text = skip ∙ more.text; legal = more.legal; place = more.place }

-- what is read in front is the link at the place
pub shown : (bytes : List ℕ) (links : List RouterLink) (n : ℕ) (front : Link) → StartsWith bytes links n → front ≡ without_tos (link_of (raw_link bytes)) → Some front ≡ slice_get (map without_tos links) n
shown bytes links n front at e =
    let raw : link_of (raw_link bytes) ≡ at.link = ap (λ (b : List ℕ). link_of (raw_link b)) at.text ∙ ap link_of (link_again at.link at.rest at.legal) ∙ link_of_again at.link in
    ap (λ (x : Link). Some x) (e ∙ ap without_tos raw) ∙ sym at.place

pub starts_long : (bytes : List ℕ) (links : List RouterLink) (n : ℕ) → StartsWith bytes links n → 12 ≤ length bytes
starts_long bytes links n at =
    omega (arith, ap length at.text, length-append (link_bytes at.link) at.rest, length-link at.link)

moved : (front bytes : List ℕ) (links : List RouterLink) (n : ℕ) → front ≡ bytes → StartsWith bytes links n → StartsWith front links n
moved front bytes links n e at = record { link = at.link; rest = at.rest; text = e ∙ at.text; legal = at.legal; place = at.place }

pub from_fixed : (front all : List ℕ) (links : List RouterLink) (n count : ℕ) → all ≡ flat_map link_bytes links → AllByRecursion IsLegalLink links → count ≡ length links → length all ≡ 12 * count → n < count → front ≡ drop (12 * n) all
    → StartsWith front links n
from_fixed front all links n count text legal same size lt e =
    let whole : length (flat_map link_bytes links) ≡ 12 * length links = omega (arith, ap length text) in
    moved front _ links n (e ∙ ap (drop (12 * n)) text) (fixed_starts n links legal whole (omega arith))

pub from_walk : (front all : List ℕ) (links : List RouterLink) (n count : ℕ) → all ≡ flat_map link_bytes links → AllByRecursion IsLegalLink links → count ≡ length links → n < count → front ≡ (walk n all).left
    → StartsWith front links n
from_walk front all links n count text legal same lt e =
    moved front _ links n (e ∙ ap (λ (b : List ℕ). (walk n b).left) text) (walk_starts n links legal (omega arith))
