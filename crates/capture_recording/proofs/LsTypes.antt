-- The LS type of an LSA.
use Rattle.std.proofs.Common.{sym, subst, arith}
use Rattle.ospf_types.specs.Lsa.{Lsa, Body, RouterLinks, NetworkLinks, NetworkSummary, BoundarySummary, AsExternal, kind_of}
use Rattle.lsa_codec.specs.Spelling.{IsLegal}
use Rattle.recording.specs.Forms.{IsKind}

of_body : (b : Body) → IsKind (kind_of b)
of_body (RouterLinks flags links) = (omega arith, omega arith)
of_body (NetworkLinks mask routers) = (omega arith, omega arith)
of_body (NetworkSummary mask metric tos) = (omega arith, omega arith)
of_body (BoundarySummary metric tos) = (omega arith, omega arith)
of_body (AsExternal mask first more) = (omega arith, omega arith)

-- it is one of the five
pub kind_is_known : (lsa : Lsa) → IsLegal lsa → IsKind lsa.header.kind
kind_is_known lsa legal = subst IsKind (sym legal.kind) (of_body lsa.body)
