-- The explanation of the table's items for an address, line by line.
use Rattle.std.specs.Prelude.{ℕ, ◌≡◌, ◌++◌, ◌||◌, zero, suc, Bool, List, [], ◌∷◌, is_some, if◌then◌else◌}
use Rattle.std.specs.List.{flat_map, list_any}
use Rattle.std.specs.FinMap as map
use Rattle.output_lines.specs.declared.format.Format.{Format}
use Rattle.ospf_types.specs.Address.{network_around}
use Rattle.ospf_types.specs.Network.{Network, network_cmp}
use Rattle.ospf_types.specs.RangeChanges.{is_same_prefix}
use Rattle.route_table.specs.declared.table.Item.{Item}
use Rattle.route_table.specs.declared.table.Match.{Match}
use Rattle.route_table.specs.Tables.{TableValue, IsMatch}
use Rattle.explanation.specs.declared.explained.Candidate.{Candidate}
use Rattle.explanation.specs.declared.trace.Trace.{Trace}
use Rattle.explained_replay.specs.Lines.{lookup_line, network_line, candidate_line, path_line, link_line}
use Rattle.explained_replay.specs.Reasons.{is_taken}

-- the networks of fewer bits than this that contain the address, the longest first
unfoldable pub networks_below : (address bits : ℕ) → List Network
networks_below address zero = []
networks_below address (suc bits) = network_around address bits ∷ networks_below address bits

-- a path, and each of its steps
abbrev pub trace_text : Format → Trace → List ℕ
trace_text format t = path_line format t.path ++ flat_map (link_line format) t.steps.items

-- an offer, and under one that is taken its traces
abbrev pub candidate_text : Format → Candidate → List ℕ
candidate_text format c = candidate_line format c ++ (if is_taken c.verdict then flat_map (trace_text format) c.traces.items else [])

-- true if it is an offer of the network
abbrev pub is_of : Network → Candidate → Bool
is_of p c = is_same_prefix c.offer.network p

-- nothing of what is offered of another network
abbrev pub text_if_of : Format → Network → Candidate → List ℕ
text_if_of format p c = if is_of p c then candidate_text format c else []

-- the offers of the network, in this order
abbrev pub offers_text : Format → Network → List Candidate → List ℕ
offers_text format p candidates = flat_map (text_if_of format p) candidates

-- the item of the network and its offers; nothing if there is neither
abbrev pub network_text : Format → map.FinMap network_cmp Item → List Candidate → Network → List ℕ
network_text format items candidates p =
    if is_some (map.get items p) || list_any (is_of p) candidates
    then network_line format p (map.get items p) ++ offers_text format p candidates
    else []

-- the match of the address, and then each network that contains the address, from 32 bits down to 0
abbrev pub explanation_text : Format → (address : ℕ) → TableValue → List Candidate → Match → List ℕ
explanation_text format address t candidates found =
    lookup_line format address t.serial found ++ flat_map (network_text format t.items candidates) (networks_below address 33)

-- the text is the explanation, with the match of the address in the table
pub record IsExplanation (format : Format) (address : ℕ) (t : TableValue) (candidates : List Candidate) (text : List ℕ) : Type 0 where
  pub found : Match
  pub is_match : IsMatch t.items address found
  pub spelled : text ≡ explanation_text format address t candidates found
