-- A text to which pieces are appended.
use Rattle.std.proofs.Common.{◌≡◌, ℕ, List, ◌++◌, codes, ap, ◌∙◌, append_assoc}
use Rattle.std.specs.Prelude.{decimal}
use Rattle.std.specs.Int.{w32, to_be_bytes}
use Rattle.hex.specs.Hex.{encode_lower}
use Rattle.ospf_types.specs.Text.{address_text}
use Rattle.explanation.specs.declared.explained.Candidate.{Candidate}
use Rattle.explanation.specs.declared.offer.LsaInstance.{LsaInstance}
use Rattle.explained_replay.specs.Reasons.{step_text, reason_text}
use Rattle.explained_replay.specs.Words.{database_text, source_text, offered_text}

source_pieces : (old l d m k i r q : List ℕ) → ((old ++ (l ++ d)) ++ (m ++ (k ++ (m ++ (i ++ (m ++ (r ++ m))))))) ++ q ≡ old ++ (((((((((l ++ d) ++ m) ++ k) ++ m) ++ i) ++ m) ++ r) ++ m) ++ q)
source_pieces old l d m k i r q = simp append_assoc

-- the parts of an LSA's name
pub source_printed : (old front keyed new seq : List ℕ) (s : LsaInstance) → front ≡ old ++ (codes "lsa " ++ database_text s.scope)
    → keyed ≡ front ++ (codes " " ++ (decimal s.key.kind ++ (codes " " ++ (address_text s.key.id ++ (codes " " ++ (address_text s.key.router ++ codes " "))))))
    → new ≡ keyed ++ encode_lower seq → seq ≡ to_be_bytes w32 s.seq → new ≡ old ++ source_text s
source_printed old front keyed new seq s p q r seq_is =
    r ∙ ap (λ l. keyed ++ encode_lower l) seq_is ∙ ap (λ l. l ++ encode_lower (to_be_bytes w32 s.seq)) (q ∙ ap (λ l. l ++ (codes " " ++ (decimal s.key.kind ++ (codes " " ++ (address_text s.key.id ++ (codes " " ++ (address_text s.key.router ++ codes " "))))))) p)
    ∙ source_pieces old (codes "lsa ") (database_text s.scope) (codes " ") (decimal s.key.kind) (address_text s.key.id) (address_text s.key.router) (encode_lower (to_be_bytes w32 s.seq))

lost_pieces : (old l o m s n r e : List ℕ) → ((old ++ l) ++ o) ++ (m ++ (s ++ (n ++ (r ++ e)))) ≡ old ++ (((((((l ++ o) ++ m) ++ s) ++ n) ++ r)) ++ e)
lost_pieces old l o m s n r e = simp append_assoc

-- the parts of the line of an offer that is lost
pub lost_printed : (old front offered new step reason : List ℕ) (c : Candidate) → front ≡ old ++ codes "lost " → offered ≡ front ++ offered_text c
    → new ≡ offered ++ (codes " at " ++ (step ++ (codes ": " ++ (reason ++ codes "\n")))) → step ≡ step_text c.offer.kind c.verdict → reason ≡ reason_text c.verdict
    → new ≡ old ++ (codes "lost " ++ offered_text c ++ codes " at " ++ step_text c.offer.kind c.verdict ++ codes ": " ++ reason_text c.verdict ++ codes "\n")
lost_printed old front offered new step reason c p q r step_is reason_is =
    r ∙ ap (λ l. offered ++ (codes " at " ++ (l ++ (codes ": " ++ (reason ++ codes "\n"))))) step_is
    ∙ ap (λ l. offered ++ (codes " at " ++ (step_text c.offer.kind c.verdict ++ (codes ": " ++ (l ++ codes "\n"))))) reason_is
    ∙ ap (λ l. l ++ (codes " at " ++ (step_text c.offer.kind c.verdict ++ (codes ": " ++ (reason_text c.verdict ++ codes "\n"))))) (q ∙ ap (λ l. l ++ offered_text c) p)
    ∙ lost_pieces old (codes "lost ") (offered_text c) (codes " at ") (step_text c.offer.kind c.verdict) (codes ": ") (reason_text c.verdict) (codes "\n")
