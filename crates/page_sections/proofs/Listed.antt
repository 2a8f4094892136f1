-- The areas with what is due there.
use Rattle.std.proofs.Common.{◌≡◌, ◌∙◌, ℕ, Bool, true, false, List, ap, length, refl, sym}
use Rattle.std.specs.Prelude.{◌==◌, codes, if◌then◌else◌}
use Rattle.std.specs.List.{flat_map}
use Rattle.std.proofs.lemmas.List.{length-map}
use Rattle.summary_lists.specs.Lists.{AreaSummariesValue}
use Rattle.page_sections.specs.Summaries.{area_text, areas_text, list_of, listed, listed_text}
use Rattle.page_sections.proofs.Pieces.{printed_by}

other_of : (b : Bool) (one other : List ℕ) → b ≡ false → (if b then one else other) ≡ other
other_of true one other is = cc
other_of false one other is = refl

pub all_listed : (areas : List AreaSummariesValue) → (length areas == 0) ≡ false → flat_map listed_text areas ≡ areas_text (listed areas)
all_listed areas some =
    printed_by list_of area_text areas
    ∙ sym (other_of (length (listed areas) == 0) (codes "<p>No area is configured.</p>\n") (flat_map area_text (listed areas)) (ap (λ n. n == 0) (length-map areas list_of) ∙ some))
