use Rattle.std.proofs.Common.{sym, ◌∙◌}
use Rattle.std.proofs.lemmas.List.{nil_from_length}
use Rattle.std.specs.Vec.Iter.{into_iter_items}
use Rattle.worker_replay.proofs.Tokens.{learning_none, next_is_of, learning_more, learned_all}
use Rattle.worker_replay.proofs.learning.learn_all.Goals as goal

pub loop-answer-init : goal.loop-answer-init
loop-answer-init c = learning_none _ _ _ _ (sym c.into_iter-answer-iterator.ensures.into_iter_gives.0) c.in_ok-replies.ensures.items

pub learn-forwarder-requires : goal.learn-forwarder-requires
learn-forwarder-requires c = next_is_of _ _ _ _ _ _ _ _ c.requires c.loop-answer.invariant c.in-Some.ensures.steps.0 c.parts-told.ensures.told

pub loop-answer-preserved : goal.loop-answer-preserved
loop-answer-preserved c =
    learning_more _ _ _ _ _ _ _ _ _ _ _ c.loop-answer.invariant c.in-Some.ensures.steps.0 c.parts-told.ensures.told c.parts-told.ensures.reply c.in_ok-push.ensures.items
    c.learn-forwarder.ensures.name c.learn-forwarder.ensures.before c.learn-forwarder.ensures.told

pub returns-clause-learned : goal.returns-clause-learned
returns-clause-learned c =
    (learned_all _ _ _ _ _ c.loop-answer.invariant (nil_from_length (into_iter_items c.loop-answer.answer-iterator) (sym c.loop-answer.answer-iterator.rest.ok.0 ∙ c.in-None.ensures.steps.0))).0

pub returns-clause-replies : goal.returns-clause-replies
returns-clause-replies c =
    (learned_all _ _ _ _ _ c.loop-answer.invariant (nil_from_length (into_iter_items c.loop-answer.answer-iterator) (sym c.loop-answer.answer-iterator.rest.ok.0 ∙ c.in-None.ensures.steps.0))).1
