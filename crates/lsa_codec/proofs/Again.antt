-- Sound bytes that spell an advertisement are read as that advertisement.
use Rattle.std.proofs.Common.{◌≡◌, ℕ, ◌+◌, ◌*◌, ◌%◌, ◌^◌, ◌<◌, Bool, true, false, cond, not, eqb, ltb, List, [], ◌∷◌, ◌++◌, length, map, None, refl, sym, ap, subst, ◌∙◌, arith}
use Rattle.std.specs.List.{list_any, flat_map, AllByRecursion}
use Rattle.std.proofs.lemmas.Bool.{eq-eqb, ne_eqb, le-ltb}
use Rattle.std.proofs.lemmas.List.{append-nil, length-map}
use Rattle.byteorder.specs.Endian.{big_bytes}
use Rattle.ospf_types.specs.declared.lsa.Header.{Header}
use Rattle.ospf_types.specs.Lsa.{Lsa, Body, RouterLinks, NetworkLinks, NetworkSummary, BoundarySummary, AsExternal, RouterLink, Tos, ExternalRecord, kind_of}
use Rattle.lsa_codec.specs.declared.findings.Findings.{Findings}
use Rattle.lsa_codec.specs.Spelling.{header_bytes, body_bytes, link_bytes, summary_tos_bytes, record_bytes, spelling, IsMask, IsLegal, IsLegalBody, IsLegalLink, IsLegalSummaryTos, IsLegalRecord, Spells}
use Rattle.lsa_codec.specs.Checksum.{IsSound}
use Rattle.lsa_codec.specs.Faults.{cut_findings, is_mask, mask_field, count_met, count_field, Walk, walk, links_walk, has_reserved_entry, has_wrong_mask, is_unknown, findings_of, found_in, is_unknown_kind, is_other_router, fault_of}
use Rattle.lsa_codec.specs.Decoding.{header_of, link_of, records, records_met, router_id_at, summary_tos_at, external_at, body_of, lsa_of}
use Rattle.lsa_codec.proofs.Bools.{or_of, and_zero}
use Rattle.lsa_codec.proofs.Words.{number_again}
use Rattle.lsa_codec.proofs.Headers.{header_again, IsWideHeader}
use Rattle.lsa_codec.proofs.Masks.{test-from_IsMask, IsMask-fits}
use Rattle.lsa_codec.proofs.Records.{RecordAgain, records_again, length-records}
use Rattle.lsa_codec.proofs.RecordBytes.{IsRouterId, router_id_again, summary_tos_again, external_again, tos_again}
use Rattle.lsa_codec.proofs.LinkBytes.{raw_link_of, walk_again, links_of_again, none_reserved, none_wrong_mask, none_unknown}
use Rattle.lsa_codec.proofs.Tables.{HasNone, IsClear, no_fault}
use Rattle.lsa_codec.proofs.Bodies.{test-from_IsSound, spelled_long}

-- nothing is found past a fixed part that is whole
clear_past : (cut : Bool) (f : Findings) → cut ≡ false → IsClear f → IsClear (cond cut cut_findings f)
clear_past true f e clear = absurd cc
clear_past false f e clear = clear

-- ---- bodies, each read again with nothing found

pub record BodyAgain (h : Header) (b : Body) : Type 0 where
  pub same : body_of (kind_of b) (body_bytes b) ≡ b
  pub clear : IsClear (findings_of (kind_of b) (body_bytes b))
  pub own : is_other_router (kind_of b) h.id h.router ≡ false
  pub known : is_unknown_kind (kind_of b) ≡ false

count_again : (flags : ℕ) (links : List RouterLink) → length links < 2 ^ 16 → count_field (body_bytes (RouterLinks flags links)) ≡ length links
count_again flags links lt = number_again 2 (length links) (flat_map link_bytes links) lt

links_walk_again : (flags : ℕ) (links : List RouterLink) → length links < 2 ^ 16 → AllByRecursion IsLegalLink links
    → links_walk (body_bytes (RouterLinks flags links)) ≡ record { met = map raw_link_of links; left = [] }
links_walk_again flags links lt legal =
    ap (λ (n : ℕ). walk n (flat_map link_bytes links)) (count_again flags links lt)
    ∙ ap (λ (r : List ℕ). walk (length links) r) (sym (append-nil (flat_map link_bytes links)))
    ∙ walk_again links [] legal

router_again : (h : Header) (flags : ℕ) (links : List RouterLink) → IsLegalBody h (RouterLinks flags links) → BodyAgain h (RouterLinks flags links)
router_again h flags links legal =
    let met = links_walk_again flags links legal.count legal.links in
    let count = count_again flags links legal.count in
    record {
      same = ap (λ (w : Walk). RouterLinks flags (map link_of w.met)) met ∙ ap (RouterLinks flags) (links_of_again links);
      clear = clear_past _ _ (le-ltb _ _ (omega arith)) (record {
        reserved = ap (λ (w : Walk). list_any has_reserved_entry w.met) met ∙ none_reserved links;
        mask = ap (λ (w : Walk). list_any has_wrong_mask w.met) met ∙ none_wrong_mask links legal.links;
        link_type = ap (λ (w : Walk). list_any is_unknown w.met) met ∙ none_unknown links;
        shape = or_of _ _ (ap not (eq-eqb _ _ (ap (λ (w : Walk). length w.met) met ∙ length-map links raw_link_of ∙ sym count))) (ap (λ (w : Walk). not (eqb (length w.left) 0)) met);
      });
      own = ap not (eq-eqb _ _ legal.own);
      known = refl;
    }

no_mask_fault : (mask : ℕ) (rest : List ℕ) → IsMask mask → not (is_mask (mask_field (big_bytes 4 mask ++ rest))) ≡ false
no_mask_fault mask rest legal =
    ap (λ (m : ℕ). not (is_mask m)) (number_again 4 mask rest (IsMask-fits mask legal)) ∙ ap not (test-from_IsMask mask legal)

-- the records met are those that were written
records_met_again : {A : Type 0} (encode : A → List ℕ) (decode : List ℕ → A) (IsLegalRecord : A → Type 0) (size : ℕ) → RecordAgain encode decode IsLegalRecord size
    → (xs : List A) → AllByRecursion IsLegalRecord xs → count_met size (flat_map encode xs) ≡ length xs → records_met decode size (flat_map encode xs) ≡ xs
records_met_again encode decode IsLegalRecord size again xs legal count =
    ap (λ (n : ℕ). records decode size n (flat_map encode xs)) count ∙ records_again encode decode IsLegalRecord size again xs legal

network_again : (h : Header) (mask : ℕ) (routers : List ℕ) → IsLegalBody h (NetworkLinks mask routers) → BodyAgain h (NetworkLinks mask routers)
network_again h mask routers legal =
    let rest : List ℕ = flat_map (big_bytes 4) routers in
    let size : length rest ≡ length routers * 4 = length-records (big_bytes 4) 4 router_id_again.long routers in
    let met = records_met_again (big_bytes 4) router_id_at IsRouterId 4 router_id_again routers legal.routers (omega (arith, size)) in
    record {
      same = ap (λ (m : ℕ). NetworkLinks m (records_met router_id_at 4 rest)) (number_again 4 mask rest (IsMask-fits mask legal.mask)) ∙ ap (NetworkLinks mask) met;
      clear = clear_past _ _ (le-ltb _ _ (omega arith)) (record {
        reserved = refl;
        mask = no_mask_fault mask rest legal.mask;
        link_type = refl;
        shape = ap not (eq-eqb _ _ (omega (arith, size)));
      });
      own = refl;
      known = refl;
    }

summary_with : (m m2 k k2 : ℕ) (t t2 : List Tos) → m ≡ m2 → k ≡ k2 → t ≡ t2 → NetworkSummary m k t ≡ NetworkSummary m2 k2 t2
summary_with m m2 k k2 t t2 em ek et = rw (em, ek, et) refl

summary_again : (h : Header) (mask metric : ℕ) (tos : List Tos) → IsLegalBody h (NetworkSummary mask metric tos) → BodyAgain h (NetworkSummary mask metric tos)
summary_again h mask metric tos legal =
    let rest : List ℕ = flat_map summary_tos_bytes tos in
    let size : length rest ≡ length tos * 4 = length-records summary_tos_bytes 4 summary_tos_again.long tos in
    let met = records_met_again summary_tos_bytes summary_tos_at IsLegalSummaryTos 4 summary_tos_again tos legal.tos (omega (arith, size)) in
    let behind : List ℕ = 0 ∷ big_bytes 3 metric ++ rest in
    record {
      same = summary_with _ mask _ metric _ tos (number_again 4 mask behind (IsMask-fits mask legal.mask)) (number_again 3 metric rest legal.metric) met;
      clear = clear_past _ _ (le-ltb _ _ (omega arith)) (record {
        reserved = refl;
        mask = no_mask_fault mask behind legal.mask;
        link_type = refl;
        shape = ap not (eq-eqb _ _ (omega (arith, size)));
      });
      own = refl;
      known = refl;
    }

boundary_again : (h : Header) (metric : ℕ) (tos : List Tos) → IsLegalBody h (BoundarySummary metric tos) → BodyAgain h (BoundarySummary metric tos)
boundary_again h metric tos legal =
    let rest : List ℕ = flat_map summary_tos_bytes tos in
    let size : length rest ≡ length tos * 4 = length-records summary_tos_bytes 4 summary_tos_again.long tos in
    let met = records_met_again summary_tos_bytes summary_tos_at IsLegalSummaryTos 4 summary_tos_again tos legal.tos (omega (arith, size)) in
    let behind : List ℕ = 0 ∷ big_bytes 3 metric ++ rest in
    record {
      same = ap (λ (k : ℕ). BoundarySummary k (records_met summary_tos_at 4 rest)) (number_again 3 metric rest legal.metric) ∙ ap (BoundarySummary metric) met;
      clear = clear_past _ _ (le-ltb _ _ (omega arith)) (record {
        reserved = refl;
        mask = ap (λ (m : ℕ). not (eqb m 0)) (number_again 4 0 behind (omega arith));
        link_type = refl;
        shape = ap not (eq-eqb _ _ (omega (arith, size)));
      });
      own = refl;
      known = refl;
    }

external_with : (m m2 : ℕ) (f f2 : ExternalRecord) (t t2 : List ExternalRecord) → m ≡ m2 → f ≡ f2 → t ≡ t2 → AsExternal m f t ≡ AsExternal m2 f2 t2
external_with m m2 f f2 t t2 em ef et = rw (em, ef, et) refl

external_body_again : (h : Header) (mask : ℕ) (first : ExternalRecord) (more : List ExternalRecord) → IsLegalBody h (AsExternal mask first more) → BodyAgain h (AsExternal mask first more)
external_body_again h mask first more legal =
    let rest : List ℕ = flat_map record_bytes more in
    let size : length rest ≡ length more * 12 = length-records record_bytes 12 external_again.long more in
    let met = records_met_again record_bytes external_at IsLegalRecord 12 external_again more legal.more (omega (arith, size)) in
    let behind : List ℕ = record_bytes first ++ rest in
    let plain : (cond first.is_type_2 128 0 + first.tos) % 128 ≡ 0 = tos_again first.is_type_2 first.tos legal.first.tos ∙ legal.plain in
    record {
      same = external_with _ mask _ first _ more (number_again 4 mask behind (IsMask-fits mask legal.mask)) (external_again.same first rest legal.first) met;
      clear = clear_past _ _ (le-ltb _ _ (omega arith)) (record {
        reserved = and_zero _ _ (ap not (eq-eqb _ _ plain));
        mask = no_mask_fault mask behind legal.mask;
        link_type = refl;
        shape = or_of (ltb (length (big_bytes 4 mask ++ behind)) 16) (not (eqb (length behind % 12) 0)) (le-ltb (length (big_bytes 4 mask ++ behind)) 16 (omega arith)) (ap not (eq-eqb (length behind % 12) 0 (omega (arith, size))));
      });
      own = refl;
      known = refl;
    }

body_again : (h : Header) (b : Body) → IsLegalBody h b → BodyAgain h b
body_again h (RouterLinks flags links) legal = router_again h flags links legal
body_again h (NetworkLinks mask routers) legal = network_again h mask routers legal
body_again h (NetworkSummary mask metric tos) legal = summary_again h mask metric tos legal
body_again h (BoundarySummary metric tos) legal = boundary_again h metric tos legal
body_again h (AsExternal mask first more) legal = external_body_again h mask first more legal

-- ---- whole advertisements

wide_of : (l : Lsa) → IsLegal l → IsWideHeader l.header
wide_of l legal = record {
  age = omega (arith, legal.age);
  id = legal.id;
  router = legal.router;
  seq = legal.seq;
  sum = legal.sum;
  length = legal.fits;
}

lsa_with : (h h2 : Header) (b b2 : Body) → h ≡ h2 → b ≡ b2 → (let l : Lsa = record { header = h; body = b } in l) ≡ record { header = h2; body = b2 }
lsa_with h h2 b b2 eh eb = rw (eh, eb) refl

pub spelling_again : (l : Lsa) → IsLegal l → lsa_of (spelling l) ≡ l
unfolding lsa_of spelling
spelling_again l legal =
    let body : List ℕ = body_bytes l.body in
    let again = body_again l.header l.body legal.body in
    lsa_with (header_of (header_bytes l.header ++ body)) l.header (body_of l.header.kind body) l.body
    (header_again l.header body (wide_of l legal))
    (ap (λ (k : ℕ). body_of k body) legal.kind ∙ again.same)

spelling_clear : (l : Lsa) → IsLegal l → IsSound (spelling l) → HasNone (spelling l)
unfolding lsa_of spelling found_in
spelling_clear l legal sound =
    let h : Header = l.header in
    let body : List ℕ = body_bytes l.body in
    let bytes : List ℕ = header_bytes h ++ body in
    let head : header_of bytes ≡ h = header_again h body (wide_of l legal) in
    let size : length bytes ≡ 20 + length body = spelled_long h bytes body refl in
    let again = body_again h l.body legal.body in
    record {
      long = or_of _ _ (le-ltb _ _ (omega (arith, size))) (ap not (eq-eqb _ _ (ap (λ (x : Header). x.length) head ∙ legal.length ∙ sym size)));
      sound = ap not (test-from_IsSound bytes sound);
      age = le-ltb _ _ (omega (arith, legal.age, ap (λ (x : Header). x.age) head));
      sequence = ne_eqb _ _ (λ e. legal.sequence (sym (ap (λ (x : Header). x.seq) head) ∙ e));
      kind = ap is_unknown_kind legal.kind ∙ again.known;
      own = ap (λ (x : Header). is_other_router x.kind x.id x.router) head ∙ ap (λ (k : ℕ). is_other_router k h.id h.router) legal.kind ∙ again.own;
      found = subst (λ (k : ℕ). IsClear (findings_of k body)) (sym legal.kind) again.clear;
    }

pub spelling_none : (l : Lsa) → IsLegal l → IsSound (spelling l) → fault_of (spelling l) ≡ None
spelling_none l legal sound = no_fault (spelling l) (spelling_clear l legal sound)

pub spelled_none : (bytes : List ℕ) (l : Lsa) → IsSound bytes → Spells bytes l → fault_of bytes ≡ None
spelled_none bytes l sound spells =
    ap fault_of spells.text ∙ spelling_none l spells.legal (subst IsSound spells.text sound)

pub spelled_same : (bytes : List ℕ) (l : Lsa) → Spells bytes l → lsa_of bytes ≡ l
spelled_same bytes l spells = ap lsa_of spells.text ∙ spelling_again l spells.legal

-- no two advertisements share a spelling
pub unshared : (bytes : List ℕ) (l m : Lsa) → Spells bytes l → Spells bytes m → l ≡ m
unshared bytes l m first second = sym (spelled_same bytes l first) ∙ spelled_same bytes m second
