use Rattle.std.proofs.Common.{◌+◌, ap}
use Rattle.std.proofs.lemmas.Result.{on_ok_weaker}
use Rattle.spf.proofs.Offering.{over_link}
use Rattle.spf.proofs.relax.Pending.offer_over.Goals as goal

pub returns : goal.returns
returns c =
    on_ok_weaker c.offer.result
    (λ made distance at.
    over_link c.args.root distance c.args.link.now c.args.near (c.args.near + c.from.result) (λ same. let yes = c.is_at_root.ensures.1 same in absurd cc) (ap (λ n. c.args.near + n) c.from.ensures) (made distance at))
    c.offer.ensures
