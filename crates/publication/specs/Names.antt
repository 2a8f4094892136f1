-- The name of an engine: its history, and the base that it began with.
use Rattle.event_state.specs.declared.base.Base.{Base}
use Rattle.publication.specs.Lines.{HistoryBook}

pub record Name : Type 0 where
  pub book : HistoryBook
  pub base : Base
