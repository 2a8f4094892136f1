use Rattle.std.proofs.Common.{List, ℕ, codes, drop}
use Rattle.std.specs.List.{flat_map}
use Rattle.byteorder.specs.Endian.{big_number}
use Rattle.lsa_codec.specs.Left.{routers_left}
use Rattle.output_lines.specs.Fields.{address_line}
use Rattle.output_lines.specs.Words.{attached_line}
use Rattle.output_lines.proofs.Texts.{two_printed, line_of, rest_of}
use Rattle.output_lines.proofs.network.put_network.Goals as goal

pub returns : goal.returns
returns c =
    let body = c.args.body.now in
    two_printed _ (address_line (codes "Network Mask") (big_number 4 body)) (flat_map attached_line (routers_left (drop 4 body))) _ _
    (line_of (address_line (codes "Network Mask")) _ _ _ _ c.read_u32.ensures c.in_ok-put_address.ensures) (rest_of (λ (r : List ℕ). flat_map attached_line (routers_left r)) 4 body _ _ c.in_ok-put_routers.ensures)
