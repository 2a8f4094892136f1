-- Two lists of changes, printed one after the other; and one line, appended to the buffer and
-- written.
use Rattle.std.proofs.Common.{◌≡◌, ◌∙◌, ◌++◌, ℕ, List, [], Option, ap, append-nil, subst, sym}
use Rattle.change_log.specs.declared.printing.ChangeFilter.{ChangeFilter}
use Rattle.replay.specs.Pages.{AddsLines, AddsPart}
use Rattle.replay.specs.Stops.{AreWholeLines}
use Rattle.replay.specs.declared.buffer.PrintError.{PrintError}
use Rattle.replay.specs.declared.buffer.PrintError.TheVariants as stop
use Rattle.replay.proofs.Paging.{adds_more, adds_moved, adds_none, adds_put, page_whole, part_longer, part_more, part_now}
use Rattle.change_log.specs.Lines.{Change, lines_of}
use Rattle.change_log.proofs.Texts.{lines_both}

module _ (number : ℕ) (wanted : ChangeFilter) (xs ys all : List Change) (is : all ≡ xs ++ ys) where
  both : lines_of number wanted all ≡ lines_of number wanted xs ++ lines_of number wanted ys
  both = ap (lines_of number wanted) is ∙ lines_both number wanted xs ys

  pub both_shown : (a b c : Option (List ℕ)) (x y z : List ℕ) → AddsLines a b x y (lines_of number wanted xs) → AddsLines b c y z (lines_of number wanted ys) → AddsLines a c x z (lines_of number wanted all)
  both_shown a b c x y z p q = subst (λ l. AddsLines a c x z l) (sym both) (adds_more a b c x y z (lines_of number wanted xs) (lines_of number wanted ys) p q)

  -- it stops in the first
  pub first_cut : (why : PrintError) (a b : Option (List ℕ)) (x : List ℕ) → AddsPart why a b (x ++ lines_of number wanted xs) → AddsPart why a b (x ++ lines_of number wanted all)
  first_cut why a b x part = subst (λ l. AddsPart why a b (x ++ l)) (sym both) (part_longer why a b x (lines_of number wanted xs) (lines_of number wanted ys) part)

  -- it stops in the second
  pub second_cut : (why : PrintError) (a b c : Option (List ℕ)) (x y : List ℕ) → AreWholeLines x → AddsLines a b x y (lines_of number wanted xs) → (AreWholeLines y → AddsPart why b c (y ++ lines_of number wanted ys)) → AddsPart why a c (x ++ lines_of number wanted all)
  second_cut why a b c x y whole p part =
      subst (λ l. AddsPart why a c (x ++ l)) (sym both)
      (part_more why a b c x y (lines_of number wanted xs) (lines_of number wanted ys) whole p (part (page_whole a b x y (lines_of number wanted xs) p whole)))

-- ---- one line

module _ (buffer line : List ℕ) where
  pub line_shown : (a b : Option (List ℕ)) (put moved : List ℕ) → AreWholeLines line → put ≡ buffer ++ line → AddsLines a b put moved [] → AddsLines a b buffer moved (line ++ [])
  line_shown a b put moved whole is spilled =
      subst (AddsLines a b buffer moved) (sym (append-nil line)) (adds_moved a a b buffer put moved line (adds_put a a buffer buffer [] put line (adds_none a buffer) is whole) spilled)

  -- memory ran out before it was in the buffer
  pub line_missing : (a : Option (List ℕ)) → AreWholeLines buffer → AddsPart stop.Memory a a (buffer ++ (line ++ []))
  line_missing a whole = part_longer stop.Memory a a buffer [] (line ++ []) (part_now a a buffer buffer [] whole (adds_none a buffer))

  -- the buffer with it was not written whole
  pub line_cut : (why : PrintError) (a b : Option (List ℕ)) (put : List ℕ) → put ≡ buffer ++ line → AddsPart why a b put → AddsPart why a b (buffer ++ (line ++ []))
  line_cut why a b put is part = subst (AddsPart why a b) (is ∙ ap (λ l. buffer ++ l) (sym (append-nil line))) part

-- there was nothing to report
pub none_cut : (why : PrintError) (a b : Option (List ℕ)) (buffer : List ℕ) → AddsPart why a b buffer → AddsPart why a b (buffer ++ [])
none_cut why a b buffer part = subst (AddsPart why a b) (sym (append-nil buffer)) part
