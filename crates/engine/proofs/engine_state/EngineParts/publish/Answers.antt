use Rattle.engine.proofs.engine_state.EngineParts.publish.Goals as goal

pub publish_changes-requires-clause-follows : goal.publish_changes-requires-clause-follows
publish_changes-requires-clause-follows g c =
    let how = c.is_whole.ensures c.if-is_whole.false in
    c.requires.follows how.0 how.1
