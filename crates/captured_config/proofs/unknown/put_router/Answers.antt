use Rattle.std.proofs.Common.{length}
use Rattle.std.specs.Prelude.{nat_lt}
use Rattle.captured_config.specs.Unknown.{line_if, no_ranges_line, left_out_line}
use Rattle.captured_config.proofs.Written.{two_pieces}
use Rattle.captured_config.proofs.unknown.put_router.Goals as goal

pub returns : goal.returns
returns c =
    two_pieces _ _ _ _ (line_if (nat_lt 1 (length c.args.ids.now)) no_ranges_line) (line_if c.args.found.now.left_out left_out_line) c.in_ok-put_if.ensures c.put_if-2.ensures
