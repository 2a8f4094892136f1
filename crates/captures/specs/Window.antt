-- The parts of a window that clauses use.
use Rattle.std.specs.Prelude.{ℕ, ◌-◌, List, slice_range, vec_len}
use Rattle.captures.specs.declared.window.Window.{Window}

-- the bytes that were read and not read past
abbrev pub pending : Window → List ℕ
pending w = slice_range w.bytes.items w.start w.end

-- the number of bytes that can be read after them
abbrev pub room : Window → ℕ
room w = vec_len w.bytes - w.end
