-- The reasons why a summary is due in an area, or is not (RFC 2328, 12.4.3), and the verdicts on
-- its sources.
use Rattle.std.specs.Prelude.{ℕ, ◌++◌, Bool, true, false, List, [], ◌∷◌, Option, Some, None, codes}
use Rattle.ospf_types.specs.Text.{prefix_text}
use Rattle.due_explanation.specs.declared.due.DueVerdict.{DueVerdict}
use Rattle.due_explanation.specs.declared.due.DueVerdict.TheVariants.{OwnArea, Infinity, InRange, NotAdvertised, NoNetwork, Lesser, Given}
use Rattle.due_explanation.specs.declared.due.DueReason.{DueReason}
use Rattle.due_explanation.specs.declared.due.DueReason.TheVariants.{NotConfigured, NotBorder, NotActive, StubRouter, StubDefault, StubHides, Sources}
use Rattle.due_explanation.specs.declared.due.DueSource.{DueSource}

-- the section that decides
abbrev pub step_text : List ℕ
step_text = codes "12.4.3"

abbrev pub is_taken : DueVerdict → Bool
is_taken Given = true
is_taken _ = false

-- the reason why a source gives no summary, or that it gives the summary
abbrev pub reason_text : DueVerdict → List ℕ
reason_text OwnArea = codes "it is of the area itself"
reason_text Infinity = codes "its cost is LSInfinity or more"
reason_text (InRange p) = codes "the range " ++ prefix_text p ++ codes " of its area has the network"
reason_text NotAdvertised = codes "the range is not advertised"
reason_text NoNetwork = codes "no network of the range costs less than LSInfinity"
reason_text Lesser = codes "another one costs more"
reason_text Given = codes "its cost is the metric"

-- if sources are listed, they are the reason
abbrev pub reason_of_sources : List DueSource → Option (List ℕ)
reason_of_sources [] = Some (codes "nothing leads there")
reason_of_sources (s ∷ ss) = None

-- the reason that is printed for the summary itself
abbrev pub due_reason_text : DueReason → Option (List ℕ)
due_reason_text NotConfigured = Some (codes "no area has this Area ID")
due_reason_text NotBorder = Some (codes "fewer than two areas are active")
due_reason_text NotActive = Some (codes "the area is not active")
due_reason_text StubRouter = Some (codes "a stub area is sent no AS boundary routers")
due_reason_text StubDefault = Some (codes "a stub area is sent its default route at its StubDefaultCost")
due_reason_text StubHides = Some (codes "the stub area is sent no networks but its default route")
due_reason_text (Sources sources) = reason_of_sources sources.items

abbrev pub sources_of : DueReason → List DueSource
sources_of (Sources sources) = sources.items
sources_of _ = []
