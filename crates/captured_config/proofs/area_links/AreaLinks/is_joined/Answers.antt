use Rattle.std.proofs.Common.{◌∙◌, ◌||◌, ap, refl, sym}
use Rattle.std.specs.List.{list_any}
use Rattle.captured_config.specs.Hosts.{agree}
use Rattle.captured_config.proofs.Joining.{joined}
use Rattle.captured_config.proofs.area_links.AreaLinks.is_joined.Goals as goal

pub returns-then-has : goal.returns-then-has
returns-then-has c =
    let within = list_any (agree c.args.address c.args.peer) c.args.masks.now in
    c.if-has.true
    ∙ sym (ap (λ b. b || within) c.if-has.true)
    ∙ joined c.args.self.now.own.items c.args.address c.args.peer c.args.masks.now c.has.result within c.requires (c.has.ensures ∙ c.args.self.now.led_to c.args.peer) refl

pub returns-else-has : goal.returns-else-has
returns-else-has c =
    sym (ap (λ b. b || c.is_in_one.result) c.if-has.false)
    ∙ joined c.args.self.now.own.items c.args.address c.args.peer c.args.masks.now c.has.result c.is_in_one.result c.requires (c.has.ensures ∙ c.args.self.now.led_to c.args.peer) c.is_in_one.ensures
