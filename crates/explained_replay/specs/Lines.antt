-- The lines of an explanation, in each form.
use Rattle.std.specs.Prelude.{ℕ, ◌++◌, List, Option, codes}
use Rattle.output_lines.specs.declared.format.Format.{Format}
use Rattle.output_lines.specs.declared.format.Format.TheVariants.{Text, Json}
use Rattle.ospf_types.specs.Network.{Network}
use Rattle.ospf_types.specs.declared.hop.Path.{Path}
use Rattle.route_table.specs.declared.table.Item.{Item}
use Rattle.route_table.specs.declared.table.Match.{Match}
use Rattle.explanation.specs.declared.explained.Candidate.{Candidate}
use Rattle.explanation.specs.declared.trace.Step.{Step}
use Rattle.output_lines.specs.Members.{json_line}
use Rattle.explained_replay.specs.Words as words
use Rattle.explained_replay.specs.Objects as objects

-- the match of the address in the table of this serial
abbrev pub lookup_line : Format → (address serial : ℕ) → Match → List ℕ
lookup_line Text address serial found = words.lookup_words address serial found ++ codes "\n"
lookup_line Json address serial found = json_line (objects.lookup_data address serial found)

-- the item of the table for exactly this network
abbrev pub network_line : Format → Network → Option Item → List ℕ
network_line Text p o = words.network_words p o ++ codes "\n"
network_line Json p o = json_line (objects.network_line_data p o)

-- an offer, and what became of it
abbrev pub candidate_line : Format → Candidate → List ℕ
candidate_line Text c = words.candidate_words c ++ codes "\n"
candidate_line Json c = json_line (objects.candidate_data c)

-- a path of a route
abbrev pub path_line : Format → Path → List ℕ
path_line Text path = words.path_words path ++ codes "\n"
path_line Json path = json_line (objects.path_line_data path)

-- a step of a path
abbrev pub link_line : Format → Step → List ℕ
link_line Text s = words.link_words s ++ codes "\n"
link_line Json s = json_line (objects.link_data s)
