-- The tests of a header, from comparisons of its fields.
use Rattle.std.proofs.Common.{◌≡◌, ℕ, ◌-◌, ◌<◌, ◌≤◌, Bool, true, false, eqb, ltb, List, length, take, drop, sym, ap, ◌∙◌}
use Rattle.std.proofs.lemmas.Bool.{eq-eqb, ne_eqb, le-ltb, lt-ltb}
use Rattle.ospf_types.specs.declared.lsa.Header.{Header}
use Rattle.lsa_codec.specs.declared.findings.Findings.{Findings}
use Rattle.lsa_codec.specs.Faults.{age_field, sequence_field, kind_field, id_field, router_field, is_unknown_kind, is_other_router, findings_of, found_in}
use Rattle.lsa_codec.specs.Decoding.{header_of}
use Rattle.lsa_codec.proofs.Checksums.{from_place}

pub own_is : (bytes : List ℕ) (h : Header) (f : Bool) → h ≡ header_of bytes → f ≡ is_other_router h.kind h.id h.router → is_other_router (kind_field bytes) (id_field bytes) (router_field bytes) ≡ f
own_is bytes h f is e = ap (λ (x : Header). is_other_router x.kind x.id x.router) (sym is) ∙ sym e

pub young : (bytes : List ℕ) (h : Header) → h ≡ header_of bytes → h.age ≤ 3600 → ltb 3600 (age_field bytes) ≡ false
young bytes h is le = ap (λ (x : Header). ltb 3600 x.age) (sym is) ∙ le-ltb _ _ le

pub old : (bytes : List ℕ) (h : Header) → h ≡ header_of bytes → 3600 < h.age → ltb 3600 (age_field bytes) ≡ true
old bytes h is lt = ap (λ (x : Header). ltb 3600 x.age) (sym is) ∙ lt-ltb _ _ lt

pub same_sequence : (bytes : List ℕ) (h : Header) → h ≡ header_of bytes → h.seq ≡ 0x8000_0000 → eqb (sequence_field bytes) 0x8000_0000 ≡ true
same_sequence bytes h is e = ap (λ (x : Header). eqb x.seq 0x8000_0000) (sym is) ∙ eq-eqb _ _ e

pub other_sequence : (bytes : List ℕ) (h : Header) → h ≡ header_of bytes → (h.seq ≡ 0x8000_0000 → ⊥) → eqb (sequence_field bytes) 0x8000_0000 ≡ false
other_sequence bytes h is n = ap (λ (x : Header). eqb x.seq 0x8000_0000) (sym is) ∙ ne_eqb _ _ n

pub kind_is : (bytes : List ℕ) (h : Header) (f : Bool) → h ≡ header_of bytes → f ≡ is_unknown_kind h.kind → is_unknown_kind (kind_field bytes) ≡ f
kind_is bytes h f is e = ap (λ (x : Header). is_unknown_kind x.kind) (sym is) ∙ sym e

pub found_is : (bytes : List ℕ) (h : Header) (f : Findings) → h ≡ header_of bytes → f ≡ findings_of h.kind (take (length bytes - 20) (drop 20 bytes)) → found_in bytes ≡ f
unfolding found_in
found_is bytes h f is e =
    ap (λ (x : Header). findings_of x.kind (drop 20 bytes)) (sym is) ∙ ap (λ (b : List ℕ). findings_of h.kind b) (sym (from_place 20 bytes)) ∙ sym e
