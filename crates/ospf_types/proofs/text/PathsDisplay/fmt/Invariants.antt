use Rattle.std.proofs.Common.{◌∷◌, get_or, take, None}
use Rattle.std.specs.Fmt.{HasWritten, IsPlainFormatter}
use Rattle.ospf_types.specs.declared.hop.NextHop.TheVariants.{Direct}
use Rattle.ospf_types.specs.declared.hop.Path.{Path}
use Rattle.ospf_types.specs.Text.{paths_text}
use Rattle.ospf_types.proofs.text.PathsDisplay.fmt.Given as goal

abbrev no_path : Path
no_path = record { hop = Direct 0; advertiser = None }

abbrev pub invariant-loop-path : goal.invariant-loop-path
invariant-loop-path g l =
    IsPlainFormatter l.fn.f → HasWritten g.W.Write.write_str_gives l.fn.f (paths_text (get_or l.self 0 no_path ∷ take l.path-index l.rest)) l.f
