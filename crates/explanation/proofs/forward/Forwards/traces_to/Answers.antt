use Rattle.explanation.proofs.Forwarding.{found_at}
use Rattle.explanation.proofs.forward.Forwards.traces_to.Goals as goal

pub returns : goal.returns
returns c =
    let f = c.index.result.now in
    let found = found_at c.args.self.now.networks c.args.self.now.items.items c.requires.listed c.in-Some.place c.args.network c.in-Some.ensures.some f c.index.ensures in
    (f, found.0, found.1, c.as_slice.ensures.value)
