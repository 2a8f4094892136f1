-- The cells of the vertices in a picture.
use Rattle.std.specs.Prelude.{◌↔◌, ◌⊎◌, ℕ, ◌+◌, ◌≡◌, ◌<◌, List, [], ◌∷◌, Contains, Option, None, Some, slice_get}
use Rattle.std.specs.List.{AllPairs}
use Rattle.area_drawings.specs.declared.drawing.GridCell.{GridCell}
use Rattle.area_drawings.specs.declared.columns.Column.{Column}
use Rattle.area_drawings.specs.declared.stands.Stand.{Stand}
use Rattle.area_drawings.specs.Columns.{column_of}

-- a place comes before another: it is in a row further up, or further left in the row
abbrev pub IsPlaceBefore : GridCell → GridCell → Type 0
IsPlaceBefore p q = (p.row < q.row) ⊎ ((p.row ≡ q.row) × (p.column < q.column))

-- Each comes before the next ones, so that no two have one cell.
abbrev pub AreInPlaces : List Stand → Type 0
AreInPlaces stands = AllPairs (λ s t. IsPlaceBefore s.place t.place) stands

-- the rows with a vertex are those below this number
abbrev pub HasRows : ℕ → List Stand → Type 0
HasRows rows stands = (row : ℕ) → (row < rows) ↔ ((s : Stand) × Contains stands s × (s.place.row ≡ row))

-- it is in the column of its vertex
abbrev pub IsInColumn : List Column → Stand → Type 0
IsInColumn columns s = slice_get columns s.place.column ≡ Some (column_of s.reached)

-- the number of rows if this is the last vertex
abbrev pub rows_of : Option Stand → ℕ
rows_of None = 0
rows_of (Some s) = s.place.row + 1

-- the row of a vertex in the column, after the one before it: the same row, and then to the right
-- of it, or a row that begins
abbrev pub IsNextRow : Option Stand → ℕ → ℕ → Type 0
IsNextRow None column row = row ≡ 0
IsNextRow (Some before) column row = ((row ≡ before.place.row) × (before.place.column < column)) ⊎ (row ≡ before.place.row + 1)

abbrev pub IsNext : Option Stand → Stand → Type 0
IsNext before s = IsNextRow before s.place.column s.place.row

-- each comes after the one before it, the first after this one, and another is the last
abbrev pub IsStandChain : Option Stand → List Stand → Option Stand → Type 0
IsStandChain before [] last = last ≡ before
IsStandChain before (s ∷ ss) last = IsNext before s × IsStandChain (Some s) ss last
