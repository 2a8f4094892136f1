-- The bytes of a body are read as the body.
use Rattle.std.proofs.Common.{◌≡◌, ◌≢◌, ◌∙◌, ◌++◌, List, [], ◌∷◌, ℕ, length, map, drop, refl, sym, ap, subst, arith, Result, OnOk}
use Rattle.std.specs.List.{flat_map, AllByRecursion}
use Rattle.std.proofs.lemmas.List.{append-nil, length-map}
use Rattle.byteorder.specs.Endian.{big_bytes}
use Rattle.ospf_types.specs.declared.lsa.Header.{Header}
use Rattle.ospf_types.specs.declared.memory.Memory.{Memory}
use Rattle.ospf_types.specs.Lsa.{Lsa, Body, RouterLinks, NetworkLinks, NetworkSummary, BoundarySummary, AsExternal, RouterLink, kind_of}
use Rattle.lsa_codec.specs.Spelling.{body_bytes, link_bytes, summary_tos_bytes, spelling, IsLegal, IsLegalBody, IsLegalLink}
use Rattle.lsa_codec.specs.Faults.{count_field, mask_field, Walk, walk}
use Rattle.lsa_codec.specs.Decoding.{records_met, summary_tos_at, metric_field, summary_body_of, boundary_body_of, external_body_of, body_of, lsa_of}
use Rattle.lsa_codec.specs.Left.{AreThere}
use Rattle.lsa_codec.proofs.Again.{spelling_again}
use Rattle.lsa_codec.proofs.LinkBytes.{raw_link_of, walk_again}
use Rattle.lsa_codec.proofs.Words.{number_again}
use Rattle.output_lines.specs.Bytes.{IsRouterBody}
use Rattle.output_lines.specs.Words.{summary_words, body_words}

-- the bytes after a header
pub record IsBodyOf (l : Lsa) (kind : ℕ) (bytes : List ℕ) : Type 0 where
  pub legal : IsLegal l
  pub same : kind ≡ l.header.kind
  pub text : bytes ≡ body_bytes l.body

pub body_of_lsa : (l : Lsa) (h : Header) (bytes : List ℕ) → IsLegal l → h ≡ l.header → bytes ≡ body_bytes l.body → IsBodyOf l h.kind bytes
body_of_lsa l h bytes legal same text = record { legal = legal; same = ap (λ (x : Header). x.kind) same; text = text }

spelled : (l : Lsa) → IsLegal l → body_of l.header.kind (body_bytes l.body) ≡ l.body
unfolding lsa_of spelling
spelled l legal = ap (λ (x : Lsa). x.body) (spelling_again l legal)

pub body_read : (l : Lsa) (kind : ℕ) (bytes : List ℕ) → IsBodyOf l kind bytes → body_of kind bytes ≡ l.body
body_read l kind bytes is = rw (is.same, is.text) (spelled l is.legal)

links_there : (links : List RouterLink) (count : ℕ) (bytes : List ℕ) → count ≡ length links → bytes ≡ flat_map link_bytes links → AllByRecursion IsLegalLink links → AreThere count bytes
links_there links count bytes same text legal =
    let all : walk count bytes ≡ record { met = map raw_link_of links; left = [] } = ap (λ (n : ℕ). walk n bytes) same ∙ ap (walk (length links)) (text ∙ sym (append-nil (flat_map link_bytes links))) ∙ walk_again links [] legal in
    ap (λ (w : Walk). length w.met) all ∙ length-map links raw_link_of ∙ sym same

router_bytes : (h : Header) (b : Body) → IsLegalBody h b → kind_of b ≡ 1 → IsRouterBody (body_bytes b)
router_bytes h (RouterLinks flags links) legal one = record {
  long = omega arith;
  links = links_there links (count_field (body_bytes (RouterLinks flags links))) (flat_map link_bytes links) (number_again 2 (length links) (flat_map link_bytes links) legal.count) refl legal.links;
}
router_bytes h (NetworkLinks mask routers) legal one = absurd (omega (arith, one))
router_bytes h (NetworkSummary mask metric tos) legal one = absurd (omega (arith, one))
router_bytes h (BoundarySummary metric tos) legal one = absurd (omega (arith, one))
router_bytes h (AsExternal mask first more) legal one = absurd (omega (arith, one))

pub router_body : (l : Lsa) (kind : ℕ) (bytes : List ℕ) → IsBodyOf l kind bytes → kind ≡ 1 → IsRouterBody bytes
router_body l kind bytes is one =
    subst IsRouterBody (sym is.text) (router_bytes l.header l.body is.legal.body (sym is.legal.kind ∙ sym is.same ∙ one))

-- no other LS type is left
five : (b : Body) (kind : ℕ) → kind ≡ kind_of b → kind ≢ 1 → kind ≢ 2 → kind ≢ 3 → kind ≢ 4 → 5 ≡ kind
five (RouterLinks flags links) kind e one two three four = absurd (one e)
five (NetworkLinks mask routers) kind e one two three four = absurd (two e)
five (NetworkSummary mask metric tos) kind e one two three four = absurd (three e)
five (BoundarySummary metric tos) kind e one two three four = absurd (four e)
five (AsExternal mask first more) kind e one two three four = sym e

-- what was printed of the bytes was printed of the body
pub body_printed : (l : Lsa) (kind number : ℕ) (bytes old new : List ℕ) (r : Result (Unit {0}) Memory) → IsBodyOf l kind bytes → number ≡ kind
    → OnOk r (new ≡ old ++ body_words (body_of number bytes)) → OnOk r (new ≡ old ++ body_words l.body)
body_printed l kind number bytes old new r is e =
    subst (λ (b : Body). OnOk r (new ≡ old ++ body_words b)) (ap (λ (k : ℕ). body_of k bytes) e ∙ body_read l kind bytes is)

-- the mask of a summary-LSA for an AS boundary router
no_mask : (b : Body) → kind_of b ≡ 4 → mask_field (body_bytes b) ≡ 0
no_mask (RouterLinks flags links) four = absurd (omega (arith, four))
no_mask (NetworkLinks mask routers) four = absurd (omega (arith, four))
no_mask (NetworkSummary mask metric tos) four = absurd (omega (arith, four))
no_mask (BoundarySummary metric tos) four = number_again 4 0 (0 ∷ big_bytes 3 metric ++ flat_map summary_tos_bytes tos) (omega arith)
no_mask (AsExternal mask first more) four = absurd (omega (arith, four))

-- what was printed of the bytes as of a summary-LSA for a network
pub boundary_printed : (l : Lsa) (kind : ℕ) (bytes old new : List ℕ) (r : Result (Unit {0}) Memory) → IsBodyOf l kind bytes → kind ≡ 4
    → OnOk r (new ≡ old ++ body_words (summary_body_of bytes)) → OnOk r (new ≡ old ++ body_words l.body)
boundary_printed l kind bytes old new r is four printed =
    let mask : mask_field bytes ≡ 0 = ap mask_field is.text ∙ no_mask l.body (sym is.legal.kind ∙ sym is.same ∙ four) in
    let same : body_words (summary_body_of bytes) ≡ body_words (boundary_body_of bytes) = ap (λ (m : ℕ). summary_words m (metric_field bytes) (records_met summary_tos_at 4 (drop 8 bytes))) mask in
    body_printed l kind 4 bytes old new r is (sym four) (subst (λ (words : List ℕ). OnOk r (new ≡ old ++ words)) same printed)

pub external_printed : (l : Lsa) (kind : ℕ) (bytes old new : List ℕ) (r : Result (Unit {0}) Memory) → IsBodyOf l kind bytes → kind ≢ 1 → kind ≢ 2 → kind ≢ 3 → kind ≢ 4
    → OnOk r (new ≡ old ++ body_words (external_body_of bytes)) → OnOk r (new ≡ old ++ body_words l.body)
external_printed l kind bytes old new r is one two three four =
    body_printed l kind 5 bytes old new r is (five l.body kind (is.same ∙ is.legal.kind) one two three four)
