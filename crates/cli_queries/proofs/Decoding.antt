-- The output of `abr decode`, piece by piece.
use Rattle.std.proofs.Common.{◌≡◌, ◌∙◌, ◌++◌, List, [], ◌∷◌, ℕ, codes, append_assoc}
use Rattle.std.specs.Prelude.{decimal}
use Rattle.std.specs.Int.{w16, w32, to_be_bytes}
use Rattle.hex.specs.Hex.{encode_lower}
use Rattle.ospf_types.specs.declared.lsa.Header.{Header}
use Rattle.ospf_types.specs.Text.{address_text}
use Rattle.cli_queries.specs.Decode.{front_text, ids_text, instance_text, fields_text}

-- the pieces of a format, as they are written one after the other
two : (p a q b : List ℕ) → p ++ (a ++ (q ++ b)) ≡ p ++ a ++ q ++ b
two p a q b = simp append_assoc

three : (p a q b r c : List ℕ) → p ++ (a ++ (q ++ (b ++ (r ++ c)))) ≡ p ++ a ++ q ++ b ++ r ++ c
three p a q b r c = simp append_assoc

four : (a p b q c r d s : List ℕ) → a ++ (p ++ (b ++ (q ++ (c ++ (r ++ (d ++ s)))))) ≡ a ++ p ++ b ++ q ++ c ++ r ++ d ++ s
four a p b q c r d s = simp append_assoc

pub front_printed : (text options : List ℕ) (h : Header) → options ≡ encode_lower (h.options ∷ [])
    → text ≡ codes "age " ++ (decimal h.age ++ (codes " options " ++ (options ++ (codes " kind " ++ decimal h.kind)))) → text ≡ front_text h
front_printed text options h e written =
    written ∙ rw e (three (codes "age ") (decimal h.age) (codes " options ") (encode_lower (h.options ∷ [])) (codes " kind ") (decimal h.kind))

pub ids_printed : (text : List ℕ) (h : Header)
    → text ≡ codes "id " ++ (address_text h.id ++ (codes " router " ++ address_text h.router)) → text ≡ ids_text h
ids_printed text h written = written ∙ two (codes "id ") (address_text h.id) (codes " router ") (address_text h.router)

pub instance_printed : (text seq sum : List ℕ) (h : Header) → seq ≡ encode_lower (to_be_bytes w32 h.seq) → sum ≡ encode_lower (to_be_bytes w16 h.sum)
    → text ≡ codes "seq " ++ (seq ++ (codes " sum " ++ (sum ++ (codes " length " ++ decimal h.length)))) → text ≡ instance_text h
instance_printed text seq sum h es em written =
    written ∙ rw (es, em) (three (codes "seq ") (encode_lower (to_be_bytes w32 h.seq)) (codes " sum ") (encode_lower (to_be_bytes w16 h.sum)) (codes " length ") (decimal h.length))

pub lines_printed : (text front ids instance body : List ℕ) (h : Header) (hex : List ℕ)
    → text ≡ front ++ (codes " " ++ (ids ++ (codes " " ++ (instance ++ (codes "\nbody " ++ (body ++ codes "\n"))))))
    → front ≡ front_text h → ids ≡ ids_text h → instance ≡ instance_text h → body ≡ hex → text ≡ fields_text h hex
lines_printed text front ids instance body h hex written ef ei en eb =
    written ∙ rw (ef, ei, en, eb) (four (front_text h) (codes " ") (ids_text h) (codes " ") (instance_text h) (codes "\nbody ") hex (codes "\n"))
