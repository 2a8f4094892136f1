-- The part of a text that was printed, and the lines that were written.
use Rattle.std.proofs.Common.{◌≡◌, ◌∙◌, ◌++◌, ℕ, List, [], ◌∷◌, Bool, true, false, Option, refl, ap, sym, append_assoc, append-nil}
use Rattle.std.specs.Io.KnownBytes.{Appends}
use Rattle.replay.specs.Writing.{AppendsPart}
use Rattle.replay.proofs.Written.{appends_none, appends_more}
use Rattle.capture_recording.specs.Said.{AppendsUpTo, HasSaid}

pub up_to_all : (old new : Option (List ℕ)) (bytes : List ℕ) → Appends old new bytes → AppendsUpTo old new bytes
up_to_all old new bytes all = record { part = bytes; rest = []; joined = sym (append-nil bytes); written = all }

pub up_to_part : (old new : Option (List ℕ)) (bytes : List ℕ) → AppendsPart old new bytes → AppendsUpTo old new bytes
up_to_part old new bytes p = record { part = p.part; rest = p.rest; joined = p.joined; written = p.written }

-- more was to be written
pub up_to_more : (old new : Option (List ℕ)) (bytes more : List ℕ) → AppendsUpTo old new bytes → AppendsUpTo old new (bytes ++ more)
up_to_more old new bytes more p = record {
  part = p.part;
  rest = p.rest ++ more;
  joined = ap (λ l. l ++ more) p.joined ∙ append_assoc p.part p.rest more;
  written = p.written;
}

-- after the part that was written
pub up_to_behind : (old mid new : Option (List ℕ)) (bytes more : List ℕ) → Appends old mid bytes → AppendsUpTo mid new more → AppendsUpTo old new (bytes ++ more)
up_to_behind old mid new bytes more all p = record {
  part = bytes ++ p.part;
  rest = p.rest;
  joined = ap (λ l. bytes ++ l) p.joined ∙ sym (append_assoc bytes p.part p.rest);
  written = appends_more old mid new bytes p.part all p.written;
}

pub part_behind : (old mid new : Option (List ℕ)) (bytes more : List ℕ) → Appends old mid bytes → AppendsPart mid new more → AppendsPart old new (bytes ++ more)
part_behind old mid new bytes more all p = record {
  part = bytes ++ p.part;
  rest = p.rest;
  joined = ap (λ l. bytes ++ l) p.joined ∙ sym (append_assoc bytes p.part p.rest);
  lacks = p.lacks;
  written = appends_more old mid new bytes p.part all p.written;
}

nil_front : (xs ys : List ℕ) → xs ++ ys ≡ [] → xs ≡ []
nil_front [] ys none = refl
nil_front (x ∷ xs) ys none = cc

pub part_more : (old new : Option (List ℕ)) (bytes more : List ℕ) → AppendsPart old new bytes → AppendsPart old new (bytes ++ more)
part_more old new bytes more p = record {
  part = p.part;
  rest = p.rest ++ more;
  joined = ap (λ l. l ++ more) p.joined ∙ append_assoc p.part p.rest more;
  lacks = λ none. p.lacks (nil_front p.rest more none);
  written = p.written;
}

-- ---- the part that was printed

pub said_nothing : (told : Option (List ℕ)) (is_silent : Bool) → is_silent ≡ false → HasSaid told told is_silent []
said_nothing told is_silent speaks = record { whole = λ _. appends_none told; part = λ silent. absurd cc; begun = up_to_all told told [] (appends_none told) }

pub said_all : (first old new : Option (List ℕ)) (before text : List ℕ) (is_silent : Bool) → is_silent ≡ false → Appends old new text → HasSaid first old is_silent before → HasSaid first new false (before ++ text)
said_all first old new before text is_silent speaks all said =
    let both = appends_more first old new before text (said.whole speaks) all in
    record { whole = λ _. both; part = λ silent. absurd cc; begun = up_to_all first new (before ++ text) both }

pub said_part : (first old new : Option (List ℕ)) (before text : List ℕ) (is_silent : Bool) → is_silent ≡ false → AppendsPart old new text → HasSaid first old is_silent before → HasSaid first new true (before ++ text)
said_part first old new before text is_silent speaks part said = record {
  whole = λ no. absurd cc;
  part = λ _. part_behind first old new before text (said.whole speaks) part;
  begun = up_to_behind first old new before text (said.whole speaks) (up_to_part old new text part);
}

pub said_no_more : (first old : Option (List ℕ)) (before text : List ℕ) (is_silent : Bool) → is_silent ≡ true → HasSaid first old is_silent before → HasSaid first old true (before ++ text)
said_no_more first old before text is_silent silent said = record {
  whole = λ no. absurd cc;
  part = λ _. part_more first old before text (said.part silent);
  begun = up_to_more first old before text said.begun;
}

-- the text that was appended to nothing
pub behind_none : (old new text : List ℕ) → old ≡ [] → new ≡ old ++ text → new ≡ text
behind_none old new text none is = is ∙ ap (λ l. l ++ text) none
