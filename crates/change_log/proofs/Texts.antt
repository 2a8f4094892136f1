-- The lines that report changes: each is whole, and those of a list follow one another.
use Rattle.std.proofs.Common.{◌≡◌, ◌++◌, ◌+◌, ℕ, true, false, cond, List, [], ◌∷◌, codes, drop, map, Some, refl, sym, ap, ◌∙◌, append_assoc, inr}
use Rattle.std.specs.Prelude.{decimal, slice_get}
use Rattle.std.proofs.lemmas.List.{drop_more}
use Rattle.std.proofs.lemmas.Option.{get_or_from_slice_get, slice_get_within}
use Rattle.std.specs.List.{flat_map}
use Rattle.ospf_types.specs.declared.key.Dest.{Dest}
use Rattle.change_log.specs.declared.printing.ChangeFilter.{ChangeFilter}
use Rattle.ospf_types.specs.Text.{address_text, prefix_text}
use Rattle.event_core.specs.DueSummaries.{listed}
use Rattle.event_core.specs.Lists.{AreaSummariesValue}
use Rattle.replay.specs.Stops.{AreWholeLines}
use Rattle.event_state.specs.Texts.{refusal_text}
use Rattle.event_state.specs.declared.refusal.Refusal.{Refusal}
use Rattle.recording.specs.Texts.{fault_text}
use Rattle.replay.proofs.Wholes.{lookup_whole, none_whole}
use Rattle.summary_lists.specs.Lists.{Metrics, due_for, kind_of}
use Rattle.serde_json.specs.Data.{Data}
use Rattle.serde_json.specs.Written.{compact_text}
use Rattle.replay.specs.JsonLines.{set_data, drop_data, due_data, undue_data, lookup_data, refused_data, fault_data}
use Rattle.output_lines.specs.Members.{json_line}
use Rattle.replay.specs.Lines.{dest_text, lookup_line, refused_line}
use Rattle.change_log.specs.Changes.{area_changes, area_due}
use Rattle.change_log.specs.Lines.{Change, Set, Drop, Due, Undue, Found, Refused, AtFault, change_line, is_told, item_text, line_of, lines_of, object_line, place_text, words_of}
use Rattle.output_lines.specs.declared.format.Format.{Format}
use Rattle.output_lines.specs.declared.format.Format.TheVariants as format
use Rattle.route_table.specs.declared.table.Match.{Match}

ended : (front : List ℕ) → AreWholeLines (front ++ codes "\n")
ended front = inr (record { front = front; ends = refl })

words_whole : (number : ℕ) (change : Change) → AreWholeLines (words_of number change)
words_whole number (Set p now) = ended (decimal number ++ codes " set " ++ prefix_text p ++ codes " " ++ item_text now)
words_whole number (Drop p) = ended (decimal number ++ codes " drop " ++ prefix_text p)
words_whole number (Due area dest metric) = ended (decimal number ++ codes " due " ++ place_text area dest ++ codes " " ++ decimal metric)
words_whole number (Undue area dest) = ended (decimal number ++ codes " undue " ++ place_text area dest)
words_whole number (Found address serial found) = lookup_whole format.Text number address serial found
words_whole number (Refused refusal) = ended (decimal number ++ codes " refused " ++ refusal_text refusal)
words_whole number (AtFault fault) = ended (decimal number ++ codes " fault " ++ fault_text fault)

json_whole : (d : Data) → AreWholeLines (json_line d)
json_whole d = ended (compact_text d)

object_whole : (number : ℕ) (change : Change) → AreWholeLines (object_line number change)
object_whole number (Set p now) = json_whole (set_data number p now)
object_whole number (Drop p) = json_whole (drop_data number p)
object_whole number (Due area dest metric) = json_whole (due_data number area (due_for dest metric))
object_whole number (Undue area dest) = json_whole (undue_data number area dest)
object_whole number (Found address serial found) = json_whole (lookup_data (record { line = number; address = address; serial = serial }) found)
object_whole number (Refused refusal) = json_whole (refused_data number refusal)
object_whole number (AtFault fault) = json_whole (fault_data (record { line = number; fault = fault }))

pub change_whole : (fm : Format) (number : ℕ) (change : Change) → AreWholeLines (change_line fm number change)
change_whole format.Text number change = words_whole number change
change_whole format.Json number change = object_whole number change

pub line_whole : (number : ℕ) (wanted : ChangeFilter) (change : Change) → AreWholeLines (line_of number wanted change)
line_whole number wanted change = elim (is_told wanted.only change) as (λ b. AreWholeLines (cond b (change_line wanted.format number change) (codes ""))) [ true ↦ change_whole wanted.format number change | false ↦ none_whole ]

-- the line of a lookup is a line of this kind
pub found_line : (fm : Format) (number address serial : ℕ) (found : Match) → lookup_line fm number address serial found ≡ change_line fm number (Found address serial found)
found_line format.Text number address serial found = refl
found_line format.Json number address serial found = refl

-- and so is what is printed of a refusal
pub refusal_line : (fm : Format) (number : ℕ) (refusal : Refusal) → refused_line fm number refusal ≡ change_line fm number (Refused refusal)
refusal_line format.Text number refusal = refl
refusal_line format.Json number refusal = refl

-- ---- lists

-- the lines of mapped items
pub mapped_lines : {A : Type 0} (number : ℕ) (wanted : ChangeFilter) (change : A → Change) (items : List A) → lines_of number wanted (map change items) ≡ flat_map (λ x. line_of number wanted (change x)) items
mapped_lines number wanted change [] = refl
mapped_lines number wanted change (x ∷ items) = ap (λ l. line_of number wanted (change x) ++ l) (mapped_lines number wanted change items)

pub lines_both : (number : ℕ) (wanted : ChangeFilter) (xs ys : List Change) → lines_of number wanted (xs ++ ys) ≡ lines_of number wanted xs ++ lines_of number wanted ys
lines_both number wanted [] ys = refl
lines_both number wanted (x ∷ xs) ys = ap (λ l. line_of number wanted x ++ l) (lines_both number wanted xs ys) ∙ sym (append_assoc (line_of number wanted x) (lines_of number wanted xs) (lines_of number wanted ys))

-- the lines of several lists
pub listed_lines : {A : Type 0} (number : ℕ) (wanted : ChangeFilter) (changes : A → List Change) (items : List A) → lines_of number wanted (flat_map changes items) ≡ flat_map (λ x. lines_of number wanted (changes x)) items
listed_lines number wanted changes [] = refl
listed_lines number wanted changes (x ∷ items) = lines_both number wanted (changes x) (flat_map changes items) ∙ ap (λ l. lines_of number wanted (changes x) ++ l) (listed_lines number wanted changes items)

-- ---- the areas, each with the lines of what is due in it

abbrev pub listed_in : ℕ → ChangeFilter → AreaSummariesValue → List ℕ
listed_in number wanted w = lines_of number wanted (area_due (w.area, w.list))

abbrev pub all_listed : ℕ → ChangeFilter → List AreaSummariesValue → List ℕ
all_listed number wanted areas = flat_map (listed_in number wanted) areas

pub listed_is : (number : ℕ) (wanted : ChangeFilter) (areas : List AreaSummariesValue) → all_listed number wanted areas ≡ lines_of number wanted (flat_map area_due (listed areas))
listed_is number wanted [] = refl
listed_is number wanted (w ∷ areas) =
    ap (λ l. listed_in number wanted w ++ l) (listed_is number wanted areas) ∙ sym (lines_both number wanted (area_due (w.area, w.list)) (flat_map area_due (listed areas)))

-- ---- what changed in the areas

abbrev pub changed_in : ℕ → ChangeFilter → ℕ × Metrics → List ℕ
changed_in number wanted e = lines_of number wanted (area_changes e)

-- the lines of the area at a place, and those of the areas after it
pub area_next : {A : Type 0} (lines : A → List ℕ) (xs : List A) (i : ℕ) (x : A) → slice_get xs i ≡ Some x → flat_map lines (drop i xs) ≡ lines x ++ flat_map lines (drop (i + 1) xs)
area_next {A} lines xs i x is = ap (flat_map lines) (drop_more xs i x (slice_get_within xs i x is) ∙ ap (λ (y : A). y ∷ drop (i + 1) xs) (get_or_from_slice_get xs i x x is))

-- ---- the pieces of a line, as they are written one after the other

pub due_printed : (old front place new : List ℕ) (number area kind metric : ℕ) (dest : Dest) → kind ≡ kind_of dest
    → front ≡ old ++ (decimal number ++ (codes " due " ++ (address_text area ++ (codes " " ++ (decimal kind ++ codes " "))))) → place ≡ front ++ dest_text dest
    → new ≡ place ++ (codes " " ++ (decimal metric ++ codes "\n")) → new ≡ old ++ words_of number (Due area dest metric)
due_printed old front place new number area kind metric dest is p q r = r ∙ rw (q, p, is) (simp append_assoc)

pub undue_printed : (old front place new : List ℕ) (number area kind : ℕ) (dest : Dest) → kind ≡ kind_of dest
    → front ≡ old ++ (decimal number ++ (codes " undue " ++ (address_text area ++ (codes " " ++ (decimal kind ++ codes " "))))) → place ≡ front ++ dest_text dest
    → new ≡ place ++ codes "\n" → new ≡ old ++ words_of number (Undue area dest)
undue_printed old front place new number area kind dest is p q r = r ∙ rw (q, p, is) (simp append_assoc)
