-- The parts of a line, as they are written one after the other.
use Rattle.std.proofs.Common.{◌≡◌, ◌∙◌, ◌++◌, List, ℕ, codes, append_assoc}
use Rattle.capture_recording.specs.Counts.{counted, found_text, counts_line}
use Rattle.capture_recording.specs.declared.counts.Counts.{Counts}

joined : (old found areas seconds : List ℕ)
    → ((old ++ codes "abr: ") ++ found) ++ (codes ", " ++ (areas ++ (codes ", " ++ (seconds ++ codes "\n")))) ≡ old ++ (codes "abr: " ++ found ++ codes ", " ++ areas ++ codes ", " ++ seconds ++ codes "\n")
joined old found areas seconds = simp append_assoc

pub counts_printed : (old front found new areas seconds : List ℕ) (c : Counts) (count : ℕ) → front ≡ old ++ codes "abr: " → found ≡ front ++ found_text c
    → new ≡ found ++ (codes ", " ++ (areas ++ (codes ", " ++ (seconds ++ codes "\n"))))
    → areas ≡ counted count (codes "area") (codes "areas") → seconds ≡ counted c.seconds (codes "second") (codes "seconds") → new ≡ old ++ counts_line c count
counts_printed old front found new areas seconds c count p q r areas_is seconds_is =
    r ∙ rw (q, p, areas_is, seconds_is) (joined old (found_text c) (counted count (codes "area") (codes "areas")) (counted c.seconds (codes "second") (codes "seconds")))
