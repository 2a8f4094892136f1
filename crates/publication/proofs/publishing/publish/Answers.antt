use Rattle.std.proofs.Common.{◌≡◌, [], drop, ap}
use Rattle.publication.specs.Lines.{HistoryLine}
use Rattle.publication.proofs.Rules.{publishes}
use Rattle.publication.proofs.Shows.{gives_right, known_after, grows_after}
use Rattle.publication.proofs.publishing.publish.Goals as goal

pub publish_as-writer-requires : goal.publish_as-writer-requires
publish_as-writer-requires g c next is =
    let w = c.args.writer in
    let all = gives_right w.desk.shown.value next (drop w.behind w.log.items) c.args.front.now is c.requires.appended c.requires.history in
    publishes _ _ w.desk.shown.value next all.0 all.1 (rw (ap (λ (l : HistoryLine). l.list) all.2) c.requires.grows)

pub returns-clause-name : goal.returns-clause-name
returns-clause-name g c =
    let w = c.args.writer in let p = c.publish_as-writer in let n = p.result.0 in
    (known_after p.result.1 (drop n.behind n.log.items ≡ []) (drop n.behind n.log.items ≡ drop w.behind w.log.items) w.desk.shown.value n.desk.shown.value _ _ (drop w.behind w.log.items) c.args.front.now p.ensures.values p.ensures.rule c.requires.appended c.requires.history).0

pub returns-clause-known : goal.returns-clause-known
returns-clause-known g c =
    let w = c.args.writer in let p = c.publish_as-writer in let n = p.result.0 in
    rw c.is_ok.ensures.value (known_after p.result.1 (drop n.behind n.log.items ≡ []) (drop n.behind n.log.items ≡ drop w.behind w.log.items) w.desk.shown.value n.desk.shown.value _ _ (drop w.behind w.log.items) c.args.front.now p.ensures.values p.ensures.rule c.requires.appended c.requires.history).1

pub returns-clause-grows : goal.returns-clause-grows
returns-clause-grows g c =
    let w = c.args.writer in let p = c.publish_as-writer in let n = p.result.0 in
    grows_after p.result.1 _ (drop n.behind n.log.items ≡ []) (drop n.behind n.log.items ≡ drop w.behind w.log.items) w.desk.shown.value n.desk.shown.value _ _ p.ensures.values p.ensures.rule
