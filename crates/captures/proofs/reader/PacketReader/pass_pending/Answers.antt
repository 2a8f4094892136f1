use Rattle.std.proofs.Common.{◌≡◌, length, ap, ◌∙◌, arith, min}
use Rattle.std.proofs.lemmas.List.{drop_all}
use Rattle.captures.specs.Window.{pending}
use Rattle.captures.proofs.Going.{from, passes}
use Rattle.captures.proofs.reader.PacketReader.pass_pending.Goals as goal

pub returns : goal.returns
returns c =
    let r = c.self.inside in
    let count = c.min-count.result in
    let long : length c.as_slice.result.now ≡ length (pending r.window) = ap length c.as_slice.ensures in
    let least : count ≡ min r.ahead (length (pending r.window)) = c.min-count.ensures ∙ ap (min r.ahead) long in
    record {
      goes = λ left. from c.self.view_is
          (passes r.capture r.ahead count (pending r.window) (pending c.pass.new.self) r.place c.saturating_add-self-inside.result left c.saturating_add-self-inside.ensures
          (omega (arith, least)) (omega (arith, least)) c.pass.ensures);
      all = λ some. c.pass.ensures ∙ drop_all count (pending r.window) (omega (arith, least, some));
    }
