-- The lines of an explanation of a summary in words, without their line feeds.
use Rattle.std.specs.Prelude.{ℕ, ◌++◌, List, [], Option, Some, None, codes, decimal, if◌then◌else◌}
use Rattle.ospf_types.specs.declared.key.Dest.{Dest}
use Rattle.ospf_types.specs.declared.key.Dest.TheVariants.{Net, Router}
use Rattle.ospf_types.specs.Text.{address_text, prefix_text}
use Rattle.summary_lists.specs.Lists.{kind_of}
use Rattle.due_explanation.specs.declared.due.DueExplained.{DueExplained}
use Rattle.due_explanation.specs.declared.due.DueSource.{DueSource}
use Rattle.due_explanation.specs.declared.due.SourceKind.{SourceKind}
use Rattle.due_explanation.specs.declared.due.SourceKind.TheVariants.{IntraArea, InterArea, Range, Preferred}
use Rattle.due_explanation.specs.ReasonLines.{step_text, is_taken, reason_text, due_reason_text}

-- a network, or an AS boundary router
abbrev pub dest_text : Dest → List ℕ
dest_text (Net p) = prefix_text p
dest_text (Router router) = address_text router

-- an area, and a destination with its LS type
abbrev pub place_text : (area : ℕ) → Dest → List ℕ
place_text area d = address_text area ++ codes " " ++ decimal (kind_of d) ++ codes " " ++ dest_text d

-- if the summary is due, and at which metric
abbrev pub metric_text : (area : ℕ) → Dest → Option ℕ → List ℕ
metric_text area d (Some metric) = codes "due " ++ place_text area d ++ codes " " ++ decimal metric
metric_text area d None = codes "undue " ++ place_text area d

-- the section that decides, and the reason; nothing where there is none
abbrev pub at_text : Option (List ℕ) → List ℕ
at_text (Some reason) = codes " at " ++ step_text ++ codes ": " ++ reason
at_text None = []

-- if the summary is due, and the reason
abbrev pub due_words : (area : ℕ) → Dest → DueExplained → List ℕ
due_words area d x = metric_text area d x.metric ++ at_text (due_reason_text x.reason)

-- a dash for a range that has no cost
abbrev pub cost_text : Option ℕ → List ℕ
cost_text None = codes "-"
cost_text (Some cost) = decimal cost

abbrev pub source_kind_text : SourceKind → List ℕ
source_kind_text IntraArea = codes "intra"
source_kind_text InterArea = codes "inter"
source_kind_text Range = codes "range"
source_kind_text Preferred = codes "preferred"

-- the cost of a source, its kind and its area
abbrev pub due_source_text : DueSource → List ℕ
due_source_text s = cost_text s.cost ++ codes " " ++ source_kind_text s.kind ++ codes " " ++ address_text s.area

-- a source, and what becomes of it
abbrev pub due_source_words : DueSource → List ℕ
due_source_words s =
    if is_taken s.verdict
    then codes "taken " ++ due_source_text s
    else codes "lost " ++ due_source_text s ++ codes " at " ++ step_text ++ codes ": " ++ reason_text s.verdict
