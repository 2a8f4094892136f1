-- Walks over links and over Router IDs: what is at the start comes next, and what is after it is
-- left.
use Rattle.std.proofs.Common.{◌≡◌, ◌≢◌, ℕ, zero, suc, ◌-◌, ◌/◌, ◌<◌, ◌≤◌, Bool, true, false, List, [], ◌∷◌, length, map, take, drop, Some, refl, sym, ap, subst, ◌∙◌, arith}
use Rattle.std.specs.Iterator.{MakesProgress, item_count}
use Rattle.std.specs.List.{flat_map, AllByRecursion}
use Rattle.std.proofs.lemmas.Bool.{leb-true}
use Rattle.std.proofs.lemmas.List.{length-drop, length-map, append-nil}
use Rattle.byteorder.specs.Endian.{big_bytes, big_number}
use Rattle.ospf_types.specs.declared.lsa.Link.{Link}
use Rattle.ospf_types.specs.Lsa.{Lsa, Body, RouterLinks, NetworkLinks, NetworkSummary, BoundarySummary, AsExternal, RouterLink, kind_of}
use Rattle.lsa_codec.specs.Spelling.{link_bytes, IsLegalLink}
use Rattle.lsa_codec.specs.Faults.{raw_link, link_size, is_whole, Walk, walk}
use Rattle.lsa_codec.specs.Decoding.{link_of, router_id_at, records, lsa_of}
use Rattle.lsa_codec.specs.Readers.{links_of, routers_of, without_tos}
use Rattle.lsa_codec.specs.Kept.{IsKept}
use Rattle.lsa_codec.specs.Left.{AreThere, links_left, routers_left}
use Rattle.lsa_codec.proofs.Checksums.{from_place}
use Rattle.lsa_codec.proofs.LinkBytes.{raw_link_of, whole_step, walk_again, links_of_again}
use Rattle.lsa_codec.proofs.Records.{length-records, records_again}
use Rattle.lsa_codec.proofs.RecordBytes.{IsRouterId, router_id_again}
use Rattle.lsa_codec.proofs.Kept.{router_of_links, kept_router, kept_network}

-- to take the first of what is left is progress
pub first_goes : {A : Type 0} (first : A) (before after : List A) → before ≡ first ∷ after → MakesProgress (λ _. Unit {0}) (item_count (λ s. s)) before (Some first) after
first_goes first before after e = record { on = λ _. (tt, tt, omega (arith, ap length e)); keeps = tt; rests = λ _. tt }

-- ---- links

stuck_step : (n : ℕ) (bytes : List ℕ) → is_whole bytes ≡ false → walk (suc n) bytes ≡ record { met = []; left = bytes }
unfolding walk
stuck_step n bytes e = rw e refl

whole_in_front : (n : ℕ) (bytes : List ℕ) (b : Bool) → is_whole bytes ≡ b → AreThere (suc n) bytes → b ≡ true
whole_in_front n bytes true e there = refl
whole_in_front n bytes false e there =
    let none : length (walk (suc n) bytes).met ≡ 0 = ap (λ (w : Walk). length w.met) (stuck_step n bytes e) in
    absurd (omega (arith, none, there))

-- what a walk with links left has
pub record NextLink (count : ℕ) (bytes : List ℕ) : Type 0 where
  pub whole : link_size bytes ≤ length bytes
  pub there : AreThere (count - 1) (drop (link_size bytes) bytes)
  pub links : links_left count bytes ≡ without_tos (link_of (raw_link bytes)) ∷ links_left (count - 1) (drop (link_size bytes) bytes)

pub next_link : (count : ℕ) (bytes : List ℕ) → 0 < count → AreThere count bytes → NextLink count bytes
next_link zero bytes lt there = absurd (omega arith)
next_link (suc n) bytes lt there =
    let whole : is_whole bytes ≡ true = whole_in_front n bytes (is_whole bytes) refl there in
    let step = whole_step n bytes whole in
    let behind : List ℕ = drop (link_size bytes) bytes in
    let less : suc n - 1 ≡ n = omega arith in
    let met : length (walk (suc n) bytes).met ≡ suc (length (walk n behind).met) = ap (λ (w : Walk). length w.met) step in
    let others : AreThere n behind = omega (arith, met, there) in
    let list : links_left (suc n) bytes ≡ without_tos (link_of (raw_link bytes)) ∷ links_left n behind = ap (λ (w : Walk). map without_tos (map link_of w.met)) step in
    record {
      whole = leb-true _ _ whole;
      there = rw less others;
      links = rw less list;
    }

pub link_next : (count size : ℕ) (bytes : List ℕ) (front : Link) → NextLink count bytes → size ≡ link_size bytes → front ≡ without_tos (link_of (raw_link bytes)) → links_left count bytes ≡ front ∷ links_left (count - 1) (take (length bytes - size) (drop size bytes))
link_next count size bytes front next long is =
    next.links ∙ ap (λ (l : Link). l ∷ links_left (count - 1) (drop (link_size bytes) bytes)) (sym is)
    ∙ ap (λ (b : List ℕ). front ∷ links_left (count - 1) b) (ap (λ (k : ℕ). drop k bytes) (sym long) ∙ sym (from_place size bytes))

-- a walk that has these links left
pub record HasLinks (count : ℕ) (bytes : List ℕ) (links : List RouterLink) : Type 0 where
  pub there : AreThere count bytes
  pub same : links_left count bytes ≡ map without_tos links

has_legal : (count : ℕ) (bytes : List ℕ) (links : List RouterLink) → count ≡ length links → bytes ≡ flat_map link_bytes links → AllByRecursion IsLegalLink links → HasLinks count bytes links
has_legal count bytes links same text legal =
    let again = walk_again links [] legal in
    let all : walk count bytes ≡ record { met = map raw_link_of links; left = [] } = ap (λ (n : ℕ). walk n bytes) same ∙ ap (walk (length links)) (text ∙ sym (append-nil (flat_map link_bytes links))) ∙ again in
    record {
      there = ap (λ (w : Walk). length w.met) all ∙ length-map links raw_link_of ∙ sym same;
      same = ap (λ (w : Walk). map without_tos (map link_of w.met)) all ∙ ap (map without_tos) (links_of_again links);
    }

has_none : (count : ℕ) (bytes : List ℕ) → count ≡ 0 → HasLinks count bytes []
unfolding walk
has_none count bytes none = rw none (record { there = refl; same = refl })

kept_among : (bytes behind : List ℕ) (l : Lsa) (count : ℕ) → lsa_of bytes ≡ l → IsKept bytes → count ≡ length (links_of l.body) → behind ≡ drop 24 bytes → (links : List RouterLink) → links_of l.body ≡ links → HasLinks count behind links
kept_among bytes behind l count e kept same is [] all = has_none count behind (same ∙ ap length all)
kept_among bytes behind l count e kept same is (first ∷ others) all =
    let router = kept_router bytes l e kept (router_of_links l.body 0 (omega (arith, ap length all))) in
    has_legal count behind (first ∷ others) (same ∙ ap length all) (is ∙ router.text ∙ ap (flat_map link_bytes) all) (subst (AllByRecursion IsLegalLink) all router.legal)

-- the walk over the links of a checked advertisement
pub kept_links : (bytes behind : List ℕ) (l : Lsa) (count : ℕ) → lsa_of bytes ≡ l → IsKept bytes → count ≡ length (links_of l.body) → behind ≡ drop 24 bytes → HasLinks count behind (links_of l.body)
kept_links bytes behind l count e kept same is =
    kept_among bytes behind l count e kept same is (links_of l.body) refl

-- ---- Router IDs

pub next_router : (bytes : List ℕ) → 4 ≤ length bytes → routers_left bytes ≡ big_number 4 bytes ∷ routers_left (drop 4 bytes)
next_router bytes long =
    let count : length bytes / 4 ≡ suc (length (drop 4 bytes) / 4) = omega (arith, long, length-drop 4 bytes) in
    ap (λ (n : ℕ). records router_id_at 4 n bytes) count

pub router_next : (bytes : List ℕ) (front : ℕ) → 4 ≤ length bytes → front ≡ big_number 4 bytes → routers_left bytes ≡ front ∷ routers_left (take (length bytes - 4) (drop 4 bytes))
router_next bytes front long is =
    next_router bytes long ∙ ap (λ (r : ℕ). r ∷ routers_left (drop 4 bytes)) (sym is) ∙ ap (λ (b : List ℕ). front ∷ routers_left b) (sym (from_place 4 bytes))

pub no_router : (bytes : List ℕ) → length bytes < 4 → routers_left bytes ≡ []
no_router bytes short =
    let count : length bytes / 4 ≡ 0 = omega (arith, short) in
    ap (λ (n : ℕ). records router_id_at 4 n bytes) count

-- the walk over the routers of a checked network-LSA
pub kept_routers : (bytes behind : List ℕ) (l : Lsa) (start : ℕ) → lsa_of bytes ≡ l → IsKept bytes → kind_of l.body ≡ 2 → start ≡ 24 → behind ≡ drop start bytes → routers_left behind ≡ routers_of l.body
kept_routers bytes behind l start e kept two at is =
    let routers = kept_network bytes l e kept two in
    let text : behind ≡ flat_map (big_bytes 4) (routers_of l.body) = is ∙ ap (λ (k : ℕ). drop k bytes) at ∙ routers.text in
    let size = length-records (big_bytes 4) 4 router_id_again.long (routers_of l.body) in
    let count : length behind / 4 ≡ length (routers_of l.body) = omega (arith, size, ap length text) in
    ap (λ (n : ℕ). records router_id_at 4 n behind) count ∙ ap (records router_id_at 4 (length (routers_of l.body))) text ∙ records_again (big_bytes 4) router_id_at IsRouterId 4 router_id_again (routers_of l.body) routers.legal

no_routers : (b : Body) → kind_of b ≢ 2 → [] ≡ routers_of b
no_routers (RouterLinks flags links) other = refl
no_routers (NetworkLinks mask routers) other = absurd (other refl)
no_routers (NetworkSummary mask metric tos) other = refl
no_routers (BoundarySummary metric tos) other = refl
no_routers (AsExternal mask first more) other = refl

-- where the LSA is of another type, the walk starts at the end
pub other_routers : (bytes behind : List ℕ) (b : Body) (start : ℕ) → kind_of b ≢ 2 → start ≡ length bytes → behind ≡ drop start bytes → routers_left behind ≡ routers_of b
other_routers bytes behind b start other at is =
    let short : length behind < 4 = omega (arith, at, ap length is, length-drop start bytes) in
    no_router behind short ∙ no_routers b other
