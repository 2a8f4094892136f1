-- A list of events in a history.
use Rattle.std.specs.Prelude.{ℕ, List}
use Rattle.logbook.specs.Pages.{Book}
use Rattle.event_state.specs.declared.event.Event.{Event}

-- one author's part of a book, by the key of the author's first pen
pub record HistoryBook : Type 0 where
  pub book : Book
  pub first : ℕ

pub record HistoryLine : Type 0 where
  pub book : HistoryBook
  pub list : List Event
