-- A list of events that an engine published.
use Rattle.std.specs.Prelude.{List}
use Rattle.publication.specs.Names.{Name}
use Rattle.event_state.specs.declared.event.Event.{Event}

pub record TokenValue : Type 0 where
  pub name : Name
  pub list : List Event
