use Rattle.std.proofs.Common.{replicate, sym, subst, ◌∙◌, arith}
use Rattle.std.proofs.Output.{has_written_of_eq}
use Rattle.std.specs.Str.{IsUtf8}
use Rattle.ospf_types.specs.Text.{address_text}
use Rattle.ospf_types.proofs.Written.{address_utf8, whole_text}
use Rattle.ospf_types.proofs.address.AddressDisplay.fmt.Goals as goal

pub from_utf8_unchecked-requires : goal.from_utf8_unchecked-requires
from_utf8_unchecked-requires g c =
    let w = c.write_dotted-start in
    let is = whole_text w.result 15 (replicate 15 0) w.new.text (address_text c.args.self.now.0) (omega arith) (omega arith) w.ensures.text in
    subst IsUtf8 (sym is) (address_utf8 c.args.self.now.0)

pub returns-clause-writes : goal.returns-clause-writes
returns-clause-writes g c plain ok =
    let w = c.write_dotted-start in
    let is = whole_text w.result 15 (replicate 15 0) w.new.text (address_text c.args.self.now.0) (omega arith) (omega arith) w.ensures.text in
    has_written_of_eq _ _ _ _ _ (c.from_utf8_unchecked.ensures ∙ is) (c.pad.ensures.writes plain ok)
