use Rattle.std.proofs.Common.{◌<◌, ◌^◌}
use Rattle.captures.specs.Window.{pending}
use Rattle.captures.proofs.Stepping.{filled, from_fills}
use Rattle.captures.proofs.reader.PacketReader.read_more.Goals as goal

pub returns : goal.returns
returns g c =
    let r = c.self.inside in
    let small : r.place < 2 ^ 64 = c.self.invariant in
    from_fills _ _ _ _ _ _ c.self.view_is
    (filled r.capture r.ahead (pending r.window) (pending c.fill.new.self) r.place (g.R.Read.remaining c.args.input.now) (g.R.Read.remaining c.fill.new.input) c.fill.result small
    c.fill.ensures.bytes c.fill.ensures.end c.fill.ensures.kept)
