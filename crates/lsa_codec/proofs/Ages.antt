-- An advertisement with another age is in the grammar too.
use Rattle.std.proofs.Common.{ℕ, ◌≤◌}
use Rattle.ospf_types.specs.declared.lsa.Header.{Header}
use Rattle.ospf_types.specs.Lsa.{Lsa, Body, RouterLinks, NetworkLinks, NetworkSummary, BoundarySummary, AsExternal}
use Rattle.lsa_codec.specs.Readers.{with_age}
use Rattle.lsa_codec.specs.Spelling.{IsLegal, IsLegalBody}

legal_body : (h : Header) (age : ℕ) (b : Body) → IsLegalBody h b → IsLegalBody (record h { age = age }) b
legal_body h age (RouterLinks flags links) l = record { own = l.own; flags = l.flags; count = l.count; links = l.links }
legal_body h age (NetworkLinks mask routers) l = l
legal_body h age (NetworkSummary mask metric tos) l = l
legal_body h age (BoundarySummary metric tos) l = l
legal_body h age (AsExternal mask first more) l = l

pub IsLegal-with_age : (l : Lsa) (age : ℕ) → IsLegal l → age ≤ 3600 → IsLegal (with_age l age)
IsLegal-with_age l age h le = record {
  age = le;
  options = h.options;
  kind = h.kind;
  id = h.id;
  router = h.router;
  seq = h.seq;
  sequence = h.sequence;
  sum = h.sum;
  length = h.length;
  fits = h.fits;
  body = legal_body l.header age l.body h.body;
}
