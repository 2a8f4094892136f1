-- The lines of an explanation of a summary as JSON objects. The members of an object ascend by
-- name.
use Rattle.std.specs.Prelude.{ℕ, ◌++◌, List, [], ◌∷◌, Option, Some, None, codes, if◌then◌else◌}
use Rattle.serde_json.specs.Data.{Data, null, string}
use Rattle.ospf_types.specs.declared.key.Dest.{Dest}
use Rattle.output_lines.specs.Members.{JsonMember, object_of, number_data, address_data}
use Rattle.output_lines.specs.Keys.{dest_data}
use Rattle.summary_lists.specs.Lists.{kind_of}
use Rattle.due_explanation.specs.declared.due.DueExplained.{DueExplained}
use Rattle.due_explanation.specs.declared.due.DueSource.{DueSource}
use Rattle.due_explanation.specs.ReasonLines.{step_text, is_taken, reason_text, due_reason_text}
use Rattle.due_explanation.specs.Words.{source_kind_text}

-- the section that decides, and the reason; nothing where there is none
abbrev pub reason_members : Option (List ℕ) → List JsonMember
reason_members None = []
reason_members (Some reason) = (codes "reason", string reason) ∷ (codes "step", string step_text) ∷ []

-- if the summary is due, and at which metric, for this reason
abbrev pub metric_data : (area : ℕ) → Dest → Option ℕ → (reason : Option (List ℕ)) → Data
metric_data area d (Some metric) reason = object_of (
    (codes "area", address_data area)
    ∷ (codes "destination", dest_data d)
    ∷ (codes "kind", number_data (kind_of d))
    ∷ (codes "metric", number_data metric)
    ∷ (reason_members reason ++ (codes "type", string (codes "due")) ∷ []))
metric_data area d None reason = object_of (
    (codes "area", address_data area)
    ∷ (codes "destination", dest_data d)
    ∷ (codes "kind", number_data (kind_of d))
    ∷ (reason_members reason ++ (codes "type", string (codes "undue")) ∷ []))

-- if the summary is due, and the reason
abbrev pub due_line_data : (area : ℕ) → Dest → DueExplained → Data
due_line_data area d x = metric_data area d x.metric (due_reason_text x.reason)

-- null for a range that has no cost
abbrev pub cost_data : Option ℕ → Data
cost_data None = null
cost_data (Some cost) = number_data cost

-- a source, and what becomes of it
abbrev pub due_source_data : DueSource → Data
due_source_data s =
    if is_taken s.verdict
    then object_of (
    (codes "area", address_data s.area)
    ∷ (codes "cost", cost_data s.cost)
    ∷ (codes "source", string (source_kind_text s.kind))
    ∷ (codes "type", string (codes "taken"))
    ∷ [])
    else object_of (
    (codes "area", address_data s.area)
    ∷ (codes "cost", cost_data s.cost)
    ∷ (codes "reason", string (reason_text s.verdict))
    ∷ (codes "source", string (source_kind_text s.kind))
    ∷ (codes "step", string step_text)
    ∷ (codes "type", string (codes "lost"))
    ∷ [])
