-- The rule of the history, and the facts that a step shows.
use Rattle.std.specs.Prelude.{ℕ, ◌≡◌, ◌≢◌, ◌<◌, ◌==◌, if◌then◌else◌, true, List, [], ◌∷◌, ◌++◌, length}
use Rattle.std.specs.List.{AllByRecursion}
use mathlib.Core.List.{IsPrefix}
use Rattle.logbook.specs.Pages.{Cell, cell, Step, View, Book, Named, Nib, may_make, may_write}
use Rattle.event_state.specs.declared.event.Event.{Event}
use Rattle.publication.specs.declared.history.Page.{Page}
use Rattle.publication.specs.Lines.{HistoryLine}

abbrev pub IsHome : List Cell → ℕ → Type 0
IsHome cells key = (cell cells key).1 ≡ true

-- The first word is at home, and so is the word of each pen that wrote
pub record AreWordsHome (cells : List Cell) (log : List Page) : Type 0 where
  pub some : 0 < length cells
  pub head : IsHome cells 0
  pub wrote : AllByRecursion (λ p. IsHome cells p.pen) log

abbrev pub head_of : Book → Named
head_of b = record { tracked = true; key = 0; book = b }

-- the events of an author whose first pen has this key: each page names the pen of the next
abbrev pub written : ℕ → List Page → List Event
written key [] = []
written key (p ∷ ps) = if p.pen == key then p.event ∷ written p.next ps else written key ps

-- the key of the author's pen after these pages
abbrev pub key_after : ℕ → List Page → ℕ
key_after key [] = key
key_after key (p ∷ ps) = if p.pen == key then key_after p.next ps else key_after key ps

abbrev pub key_in : List ℕ → ℕ
key_in [] = 0
key_in (k ∷ ks) = k

abbrev pub line_of : Book → List ℕ → List Page → HistoryLine
line_of book first log = record { book = record { book = book; first = key_in first }; list = written (key_in first) log }

-- the pen may write the next page
pub record IsHistory (mine : Book) (nib : Nib) (book : Book) (first : List ℕ) (log : List Page) : Type 0 where
  pub same : mine ≡ book
  pub may : nib.right ≡ may_write
  pub next : key_after (key_in first) log ≡ nib.key

-- the pen may make a new word
abbrev pub Makes : Step Page → View Page ℕ → ℕ → View Page ℕ → Type 0
Makes s v found w = w.1.0.right ≡ may_make

-- none is of the pen with this key
abbrev pub AreOthers : ℕ → List Page → Type 0
AreOthers key = AllByRecursion (λ p. p.pen ≢ key)

-- this is the first page of its pen, after all that had been seen
abbrev pub IsPageWritten : List Page → Page → List Page → Type 0
IsPageWritten seen page now = (log : List Page) × (now ≡ log ++ page ∷ []) × IsPrefix seen log × AreOthers page.pen log

-- the pen wrote nothing of the pages that are seen then, and it is unchanged
abbrev pub Looks : Step Page → View Page ℕ → ℕ → View Page ℕ → Type 0
Looks s v found w = AreOthers v.1.0.key w.0 × (w.1.0 ≡ v.1.0)

-- the page that is asked for is the pen's
abbrev pub AddsPage : Step Page → View Page ℕ → ℕ → View Page ℕ → Type 0
AddsPage s v found w = IsPageWritten v.0 s.ask w.0
