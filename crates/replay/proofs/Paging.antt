-- Printing line by line: a part is written, and the end is in the buffer.
use Rattle.std.proofs.Common.{◌≡◌, ℕ, suc, ◌<◌, ◌+◌, List, length, get_or, drop, add-one, drop-cons, [], ◌∷◌, ◌++◌, Option, refl, sym, ap, subst, ◌∙◌, append_assoc, append-nil}
use Rattle.std.specs.List.{flat_map}
use Rattle.output_lines.specs.declared.format.Format.{Format}
use Rattle.event_core.specs.DueSummaries.{listed}
use Rattle.event_core.specs.Lists.{AreaSummariesValue}
use Rattle.replay.specs.Lines.{area_lines}
use Rattle.replay.specs.Pages.{AddsLines, AddsPart}
use Rattle.replay.specs.Stops.{AreWholeLines}
use Rattle.replay.specs.declared.buffer.PrintError.{PrintError}
use Rattle.replay.specs.declared.buffer.PrintError.TheVariants as stop
use Rattle.replay.proofs.Written.{appends_none, appends_more}
use Rattle.replay.proofs.Wholes.{none_whole, append_whole, end_whole, left_longer, left_behind}

pub adds_none : (a : Option (List ℕ)) (buffer : List ℕ) → AddsLines a a buffer buffer []
adds_none a buffer = record { written = []; appended = appends_none a; joined = append-nil buffer; lines = none_whole; pages = λ _. none_whole }

-- a line is appended to the buffer
pub adds_put : (a b : Option (List ℕ)) (before buffer text next line : List ℕ) → AddsLines a b before buffer text → next ≡ buffer ++ line → AreWholeLines line → AddsLines a b before next (text ++ line)
adds_put a b before buffer text next line h put whole = record {
  written = h.written;
  appended = h.appended;
  joined = sym (append_assoc before text line) ∙ ap (λ l. l ++ line) h.joined ∙ append_assoc h.written buffer line ∙ ap (λ l. h.written ++ l) (sym put);
  lines = append_whole text line h.lines whole;
  pages = h.pages;
}

-- the buffer has whole lines too
pub page_whole : (a b : Option (List ℕ)) (before buffer text : List ℕ) → AddsLines a b before buffer text → AreWholeLines before → AreWholeLines buffer
page_whole a b before buffer text h whole = end_whole h.written buffer (subst AreWholeLines h.joined (append_whole before text whole h.lines))

pub adds_more : (a b c : Option (List ℕ)) (x y z t u : List ℕ) → AddsLines a b x y t → AddsLines b c y z u → AddsLines a c x z (t ++ u)
adds_more a b c x y z t u p q = record {
  written = p.written ++ q.written;
  appended = appends_more a b c p.written q.written p.appended q.appended;
  joined = sym (append_assoc x t u) ∙ ap (λ l. l ++ u) p.joined ∙ append_assoc p.written y u ∙ ap (λ l. p.written ++ l) q.joined ∙ sym (append_assoc p.written q.written z);
  lines = append_whole t u p.lines q.lines;
  pages = λ whole. append_whole p.written q.written (p.pages whole) (q.pages (page_whole a b x y t p whole));
}

-- the buffer may be written in part
pub adds_moved : (a b c : Option (List ℕ)) (x y z t : List ℕ) → AddsLines a b x y t → AddsLines b c y z [] → AddsLines a c x z t
adds_moved a b c x y z t p q = subst (λ l. AddsLines a c x z l) (append-nil t) (adds_more a b c x y z t [] p q)

-- memory ran out, so that the buffer is not written
pub part_now : (a b : Option (List ℕ)) (before buffer text : List ℕ) → AreWholeLines before → AddsLines a b before buffer text → AddsPart stop.Memory a b (before ++ text)
part_now a b before buffer text whole h = record { part = h.written; beginning = record { rest = buffer; joined = h.joined; left = h.pages whole }; appended = h.appended }

pub part_more : (why : PrintError) (a b c : Option (List ℕ)) (x y t u : List ℕ) → AreWholeLines x → AddsLines a b x y t → AddsPart why b c (y ++ u) → AddsPart why a c (x ++ (t ++ u))
part_more why a b c x y t u whole p q = record {
  part = p.written ++ q.part;
  beginning = record {
    rest = q.beginning.rest;
    joined = sym (append_assoc x t u) ∙ ap (λ l. l ++ u) p.joined ∙ append_assoc p.written y u ∙ ap (λ l. p.written ++ l) q.beginning.joined ∙ sym (append_assoc p.written q.part q.beginning.rest);
    left = left_behind why p.written q.part q.beginning.rest (p.pages whole) q.beginning.left;
  };
  appended = appends_more a b c p.written q.part p.appended q.appended;
}

pub part_moved : (why : PrintError) (a b c : Option (List ℕ)) (x y t : List ℕ) → AreWholeLines x → AddsLines a b x y t → AddsPart why b c y → AddsPart why a c (x ++ t)
part_moved why a b c x y t whole p q =
    subst (λ l. AddsPart why a c (x ++ l)) (append-nil t) (part_more why a b c x y t [] whole p (subst (λ l. AddsPart why b c l) (sym (append-nil y)) q))

pub part_longer : (why : PrintError) (a b : Option (List ℕ)) (x t u : List ℕ) → AddsPart why a b (x ++ t) → AddsPart why a b (x ++ (t ++ u))
part_longer why a b x t u h = record {
  part = h.part;
  beginning = record {
    rest = h.beginning.rest ++ u;
    joined = sym (append_assoc x t u) ∙ ap (λ l. l ++ u) h.beginning.joined ∙ append_assoc h.part h.beginning.rest u;
    left = left_longer why h.part h.beginning.rest u h.beginning.left;
  };
  appended = h.appended;
}

-- the printed part of a text, of which this is the rest
pub record Adding (a b : Option (List ℕ)) (before buffer all rest : List ℕ) : Type 0 where
  pub text : List ℕ
  pub adds : AddsLines a b before buffer text
  pub left : all ≡ text ++ rest

pub adding_none : (a : Option (List ℕ)) (buffer all rest : List ℕ) → all ≡ rest → Adding a a buffer buffer all rest
adding_none a buffer all rest is = record { text = []; adds = adds_none a buffer; left = is }

-- a line is appended to the buffer, and the buffer may be written in part
pub adding_more : (a b c : Option (List ℕ)) (before buffer put moved all rest line more : List ℕ) → Adding a b before buffer all rest → rest ≡ line ++ more → put ≡ buffer ++ line
    → AreWholeLines line → AddsLines b c put moved [] → Adding a c before moved all more
adding_more a b c before buffer put moved all rest line more h next is whole spilled = record {
  text = h.text ++ line;
  adds = adds_moved a b c before put moved (h.text ++ line) (adds_put a b before buffer h.text put line h.adds is whole) spilled;
  left = h.left ∙ ap (λ l. h.text ++ l) next ∙ sym (append_assoc h.text line more);
}

-- memory ran out
pub adding_part : (a b : Option (List ℕ)) (before buffer all rest : List ℕ) → AreWholeLines before → Adding a b before buffer all rest → AddsPart stop.Memory a b (before ++ all)
adding_part a b before buffer all rest whole h =
    subst (λ l. AddsPart stop.Memory a b (before ++ l)) (sym h.left) (part_longer stop.Memory a b before h.text rest (part_now a b before buffer h.text whole h.adds))

-- the buffer could not be written after a line
pub adding_stopped : (why : PrintError) (a b c : Option (List ℕ)) (before buffer put all rest line more : List ℕ) → AreWholeLines before → Adding a b before buffer all rest → rest ≡ line ++ more → put ≡ buffer ++ line
    → AreWholeLines line → AddsPart why b c put → AddsPart why a c (before ++ all)
adding_stopped why a b c before buffer put all rest line more whole h next is whole_line stopped =
    let here = part_moved why a b c before put (h.text ++ line) whole (adds_put a b before buffer h.text put line h.adds is whole_line) stopped in
    subst (λ l. AddsPart why a c (before ++ l)) (append_assoc h.text line more ∙ ap (λ l. h.text ++ l) (sym next) ∙ sym h.left) (part_longer why a c before (h.text ++ line) more here)

-- lines are appended to the buffer
pub adding_lines : (a b c : Option (List ℕ)) (before buffer moved all rest lines more : List ℕ) → Adding a b before buffer all rest → rest ≡ lines ++ more → AddsLines b c buffer moved lines
    → Adding a c before moved all more
adding_lines a b c before buffer moved all rest lines more h next added = record {
  text = h.text ++ lines;
  adds = adds_more a b c before buffer moved h.text lines h.adds added;
  left = h.left ∙ ap (λ l. h.text ++ l) next ∙ sym (append_assoc h.text lines more);
}

-- the buffer is whole lines, wherever printing is
pub adding_page : (a b : Option (List ℕ)) (before buffer all rest : List ℕ) → Adding a b before buffer all rest → AreWholeLines before → AreWholeLines buffer
adding_page a b before buffer all rest h whole = page_whole a b before buffer h.text h.adds whole

-- and only a part of them could be
pub adding_cut : (why : PrintError) (a b c : Option (List ℕ)) (before buffer all rest lines more : List ℕ) → AreWholeLines before → Adding a b before buffer all rest → rest ≡ lines ++ more
    → AddsPart why b c (buffer ++ lines) → AddsPart why a c (before ++ all)
adding_cut why a b c before buffer all rest lines more whole h next cut =
    let here = part_more why a b c before buffer h.text lines whole h.adds cut in
    subst (λ l. AddsPart why a c (before ++ l)) (append_assoc h.text lines more ∙ ap (λ l. h.text ++ l) (sym next) ∙ sym h.left) (part_longer why a c before (h.text ++ lines) more here)

-- the text is the same as another
pub adding_as : (a b : Option (List ℕ)) (before buffer all other rest : List ℕ) → Adding a b before buffer all rest → all ≡ other → Adding a b before buffer other rest
adding_as a b before buffer all other rest h same = record { text = h.text; adds = h.adds; left = sym same ∙ h.left }

-- all of it is printed
pub adding_whole : (a b : Option (List ℕ)) (before buffer all rest : List ℕ) → Adding a b before buffer all rest → rest ≡ [] → AddsLines a b before buffer all
adding_whole a b before buffer all rest h none = subst (λ l. AddsLines a b before buffer l) (sym (h.left ∙ ap (λ l. h.text ++ l) none ∙ append-nil h.text)) h.adds

-- ---- a list of which each item has a line

pub line_next : {A : Type 0} (line : A → List ℕ) (items : List A) (i : ℕ) (x : A) → i < length items → x ≡ get_or items i x
    → flat_map line (drop i items) ≡ line x ++ flat_map line (drop (i + 1) items)
line_next line items i x within is = rw add-one (ap (flat_map line) (drop-cons items i x within ∙ ap (λ y. y ∷ drop (suc i) items) (sym is)))

-- ---- the areas, each with the lines of what is due in it

abbrev pub lines_in : Format → AreaSummariesValue → List ℕ
lines_in format w = area_lines format (w.area, w.list)

pub lines_listed : (format : Format) (areas : List AreaSummariesValue) → flat_map (lines_in format) areas ≡ flat_map (area_lines format) (listed areas)
lines_listed format [] = refl
lines_listed format (w ∷ areas) = ap (λ rest. lines_in format w ++ rest) (lines_listed format areas)
