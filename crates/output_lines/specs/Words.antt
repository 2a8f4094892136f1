-- An LSA in words: each field by its name in RFC 2328, A.4, in the order of its bytes.
use Rattle.std.specs.Prelude.{ℕ, ◌+◌, ◌++◌, Bool, true, false, List, [], ◌∷◌, length, codes, decimal}
use Rattle.std.specs.Int.{w16, w32, to_be_bytes}
use Rattle.std.specs.List.{flat_map}
use Rattle.ospf_types.specs.declared.lsa.Header.{Header}
use Rattle.ospf_types.specs.Lsa.{Lsa, Body, RouterLinks, NetworkLinks, NetworkSummary, BoundarySummary, AsExternal, RouterLink, Tos, ExternalRecord}
use Rattle.ospf_types.specs.Text.{address_text}
use Rattle.output_lines.specs.Fields.{address_line, number_line, hexadecimal_line, age_note, metric_text, options_text, router_bits_text, type_text, link_kind_text}

-- ---- the header (A.4.1)

-- in seconds
abbrev pub age_line : ℕ → List ℕ
age_line age = codes "LS age: " ++ decimal age ++ codes " s" ++ age_note age ++ codes "\n"

abbrev pub options_line : ℕ → List ℕ
options_line options = codes "Options: " ++ options_text options ++ codes "\n"

abbrev pub type_line : ℕ → List ℕ
type_line kind = codes "LS type: " ++ decimal kind ++ codes " (" ++ type_text kind ++ codes ")\n"

-- in bytes, with those of the header
abbrev pub length_line : ℕ → List ℕ
length_line size = codes "Length: " ++ decimal size ++ codes " bytes\n"

-- the fields that distinguish two instances, and the length
abbrev pub instance_words : Header → List ℕ
instance_words h =
    hexadecimal_line (codes "LS sequence number") (to_be_bytes w32 h.seq) ++ hexadecimal_line (codes "LS checksum") (to_be_bytes w16 h.sum) ++ length_line h.length

abbrev pub header_words : Header → List ℕ
header_words h =
    age_line h.age ++ options_line h.options ++ type_line h.kind ++ address_line (codes "Link State ID") h.id ++ address_line (codes "Advertising Router") h.router ++ instance_words h

-- ---- a router-LSA (A.4.2)

-- a TOS entry of the link with this number
abbrev pub link_tos_line : ℕ → Tos → List ℕ
link_tos_line number t =
    codes "Link " ++ decimal number ++ codes ", TOS " ++ decimal t.tos ++ codes ": metric " ++ decimal t.metric ++ codes "\n"

-- the fields of a link other than its type
abbrev pub link_end : RouterLink → List ℕ
link_end l =
    codes ", Link ID " ++ address_text l.id ++ codes ", Link Data " ++ address_text l.detail ++ codes ", metric " ++ decimal l.metric ++ codes "\n"

abbrev pub link_line : ℕ → RouterLink → List ℕ
link_line number l = codes "Link " ++ decimal number ++ codes ": " ++ link_kind_text l.kind ++ link_end l

-- a link, then its TOS entries
abbrev pub link_words : ℕ → RouterLink → List ℕ
link_words number l = link_line number l ++ flat_map (link_tos_line number) l.tos

-- links with ascending numbers, the first of which is given
abbrev pub links_words : ℕ → List RouterLink → List ℕ
links_words number [] = codes ""
links_words number (l ∷ links) = link_words number l ++ links_words (number + 1) links

-- how many there are, then each
abbrev pub counted_links : List RouterLink → List ℕ
counted_links links = number_line (codes "Links") (length links) ++ links_words 1 links

abbrev pub bits_line : ℕ → List ℕ
bits_line bits = codes "Router bits: " ++ router_bits_text bits ++ codes "\n"

abbrev pub router_words : (bits : ℕ) (links : List RouterLink) → List ℕ
router_words bits links = bits_line bits ++ counted_links links

-- ---- a network-LSA (A.4.3)

abbrev pub attached_line : ℕ → List ℕ
attached_line router = address_line (codes "Attached Router") router

abbrev pub network_words : (mask : ℕ) (routers : List ℕ) → List ℕ
network_words mask routers = address_line (codes "Network Mask") mask ++ flat_map attached_line routers

-- ---- a summary-LSA (A.4.4)

abbrev pub summary_tos_line : Tos → List ℕ
summary_tos_line t = codes "TOS " ++ decimal t.tos ++ codes ": metric " ++ metric_text t.metric ++ codes "\n"

abbrev pub metric_line : ℕ → List ℕ
metric_line metric = codes "Metric: " ++ metric_text metric ++ codes "\n"

abbrev pub summary_words : (mask metric : ℕ) (tos : List Tos) → List ℕ
summary_words mask metric tos =
    address_line (codes "Network Mask") mask ++ metric_line metric ++ flat_map summary_tos_line tos

-- ---- an AS-external-LSA (A.4.5)

-- bit E: which type the metric is of
abbrev pub external_type_text : Bool → List ℕ
external_type_text false = codes "0 (type 1 external metric)"
external_type_text true = codes "1 (type 2 external metric)"

abbrev pub external_type_line : Bool → List ℕ
external_type_line is_type_2 = codes "Bit E: " ++ external_type_text is_type_2 ++ codes "\n"

-- the record of TOS 0, a line for each of its fields
abbrev pub first_words : ExternalRecord → List ℕ
first_words r =
    external_type_line r.is_type_2 ++ metric_line r.metric ++ address_line (codes "Forwarding address") r.forwarding ++ number_line (codes "External Route Tag") r.tag

-- what a record says after its metric
abbrev pub record_end : ExternalRecord → List ℕ
record_end r =
    codes ", Forwarding address " ++ address_text r.forwarding ++ codes ", External Route Tag " ++ decimal r.tag ++ codes "\n"

-- the record of another TOS, in one line
abbrev pub record_line : ExternalRecord → List ℕ
record_line r =
    codes "TOS " ++ decimal r.tos ++ codes ": bit E " ++ external_type_text r.is_type_2 ++ codes ", metric " ++ metric_text r.metric ++ record_end r

abbrev pub external_words : (mask : ℕ) (first : ExternalRecord) (more : List ExternalRecord) → List ℕ
external_words mask first more =
    address_line (codes "Network Mask") mask ++ first_words first ++ flat_map record_line more

-- ---- the whole

-- the mask of a summary-LSA for an AS boundary router is zero
abbrev pub body_words : Body → List ℕ
body_words (RouterLinks flags links) = router_words flags links
body_words (NetworkLinks mask routers) = network_words mask routers
body_words (NetworkSummary mask metric tos) = summary_words mask metric tos
body_words (BoundarySummary metric tos) = summary_words 0 metric tos
body_words (AsExternal mask first more) = external_words mask first more

abbrev pub words_of : Lsa → List ℕ
words_of l = header_words l.header ++ body_words l.body
