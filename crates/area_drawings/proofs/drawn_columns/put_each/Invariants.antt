use Rattle.std.proofs.Common.{◌≡◌, ◌++◌, string_bytes, drop}
use Rattle.std.specs.List.{flat_map, enumerate_from}
use Rattle.area_drawings.specs.DrawnColumns.{column_text}
use Rattle.area_drawings.proofs.drawn_columns.put_each.Given as goal

-- the text so far, and the columns that are left, make all of the columns
abbrev pub invariant-loop-column : goal.invariant-loop-column
invariant-loop-column l =
    string_bytes l.text ++ flat_map (column_text l.fn.height) (enumerate_from l.column (drop l.column l.distances))
    ≡ string_bytes l.initial.text ++ flat_map (column_text l.fn.height) (enumerate_from 0 l.distances)
