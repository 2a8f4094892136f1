-- The progress of a run, number by number.
use Rattle.std.proofs.Common.{◌≡◌, ◌++◌, ◌+◌, zero, suc, ◌%◌, ◌==◌, ◌&&◌, ◌||◌, ℕ, Bool, true, false, List, [], ◌∷◌, Option, None, refl, sym, subst, ◌∙◌, append-nil, arith}
use Rattle.std.specs.Prelude.{Result, Ok, Err, OnErr, OnOk, if◌then◌else◌}
use Rattle.std.specs.Io.KnownBytes.{Appends}
use Rattle.replay.specs.Advance.{AppendsSome, IsProgress, Shows, ShowsEach, ShowsFrom, ShowsProgress, is_all, is_due}
use Rattle.replay.specs.Writing.{AppendsPart}
use Rattle.replay.specs.declared.progress.Progress.{Progress}
use Rattle.replay.specs.declared.writing.WriteError.{WriteError}
use Rattle.replay.proofs.Written.{appends_none}

-- nothing was shown
pub progress_none : (p : Progress) (a : Option (List ℕ)) → IsProgress p a a
progress_none p a = ([], refl)

each_more : (p : Progress) (numbers : List ℕ) (done : ℕ) (a b c : Option (List ℕ)) → ShowsEach p numbers a b → Shows p done b c → ShowsEach p (numbers ++ done ∷ []) a c
each_more p [] done a b c same shows = (c, subst (λ (o : Option (List ℕ)). Shows p done o c) same shows, refl)
each_more p (x ∷ numbers) done a b c (mid, first, left) shows = (mid, first, each_more p numbers done mid b c left shows)

-- one more
pub progress_more : (p : Progress) (done : ℕ) (a b c : Option (List ℕ)) → IsProgress p a b → Shows p done b c → IsProgress p a c
progress_more p done a b c (numbers, each) shows = (numbers ++ done ∷ [], each_more p numbers done a b c each shows)

each_joined : (p : Progress) (xs ys : List ℕ) (a b c : Option (List ℕ)) → ShowsEach p xs a b → ShowsEach p ys b c → ShowsEach p (xs ++ ys) a c
each_joined p [] ys a b c same each = subst (λ (o : Option (List ℕ)). ShowsEach p ys o c) same each
each_joined p (x ∷ xs) ys a b c (mid, first, left) each = (mid, first, each_joined p xs ys mid b c left each)

-- and then the progress that is shown after it
pub progress_joined : (p : Progress) (a b c : Option (List ℕ)) → IsProgress p a b → IsProgress p b c → IsProgress p a c
progress_joined p a b c (xs, first) (ys, second) = (xs ++ ys, each_joined p xs ys a b c first second)

each_silent : (p : Progress) (numbers : List ℕ) (a b : Option (List ℕ)) → p.is_shown ≡ false → ShowsEach p numbers a b → b ≡ a
each_silent p [] a b off same = same
each_silent p (x ∷ numbers) a b off (mid, first, left) = each_silent p numbers mid b off left ∙ first.silent off

-- where it is not to be shown, nothing is written
pub progress_silent : (p : Progress) (a b : Option (List ℕ)) → p.is_shown ≡ false → IsProgress p a b → b ≡ a
progress_silent p a b off (numbers, each) = each_silent p numbers a b off each

-- ---- one place

pub some_none : (a : Option (List ℕ)) (text : List ℕ) → AppendsSome a a text
some_none a text = record { part = []; rest = text; joined = refl; written = appends_none a }

some_all : (a b : Option (List ℕ)) (text : List ℕ) → Appends a b text → AppendsSome a b text
some_all a b text all = record { part = text; rest = []; joined = sym (append-nil text); written = all }

some_part : (a b : Option (List ℕ)) (text : List ℕ) → AppendsPart a b text → AppendsSome a b text
some_part a b text part = record { part = part.part; rest = part.rest; joined = part.joined; written = part.written }

-- the result of a write of the text
pub some_written : (a b : Option (List ℕ)) (text : List ℕ) (r : Result (Unit {0}) WriteError) → OnOk r (Appends a b text) → OnErr r (AppendsPart a b text) → AppendsSome a b text
some_written a b text (Ok u) all part = some_all a b text all
some_written a b text (Err why) all part = some_part a b text part

-- it is due, and was written as far as the writer took it
pub shown_text : (p : Progress) (done : ℕ) (a b : Option (List ℕ)) (text : List ℕ) → is_due p done ≡ true → AppendsSome a b text → AppendsSome a b (if is_due p done then text else [])
shown_text p done a b text due some = subst (λ (d : Bool). AppendsSome a b (if d then text else [])) (sym due) some

abbrev both : Bool → Bool → Bool
both shown due = shown && due

apart : true ≡ false → ⊥
apart e = cc

no_more : (shown due : Bool) → both shown due ≡ true → shown ≡ false → ⊥
no_more true due is off = apart off
no_more false due is off = apart (sym is)

-- progress that is due is to be shown
pub due_shown : (p : Progress) (done : ℕ) → is_due p done ≡ true → p.is_shown ≡ false → ⊥
due_shown p done due off = no_more p.is_shown (done % 1000 == 0 || is_all p.all done) due off

-- ---- line by line

from_more : (p : Progress) (number count : ℕ) (a b c : Option (List ℕ)) → ShowsFrom p number count a b → Shows p (number + count) b c → ShowsFrom p number (suc count) a c
from_more p number zero a b c same shows =
    let here : number + 0 ≡ number = omega arith in
    (c, subst (λ (o : Option (List ℕ)). Shows p number o c) same (subst (λ n. Shows p n b c) here shows), refl)
from_more p number (suc count) a b c (mid, first, left) shows =
    let here : number + suc count ≡ (number + 1) + count = omega arith in
    (mid, first, from_more p (number + 1) count mid b c left (subst (λ n. Shows p n b c) here shows))

-- the lines from the first on were run, and the next one has this number
pub record Advanced (p : Progress) (first number : ℕ) (old new : Option (List ℕ)) : Type 0 where
  pub count : ℕ
  pub counted : number ≡ first + count
  pub each : ShowsFrom p first count old new

pub advanced_none : (p : Progress) (first number : ℕ) (a : Option (List ℕ)) → number ≡ first → Advanced p first number a a
advanced_none p first number a same = record { count = 0; counted = omega (arith, same); each = refl }

pub advanced_more : (p : Progress) (first number : ℕ) (a b c : Option (List ℕ)) → Advanced p first number a b → Shows p number b c → Advanced p first (number + 1) a c
advanced_more p first number a b c h shows =
    record { count = suc h.count; counted = omega (arith, h.counted); each = from_more p first h.count a b c h.each (subst (λ n. Shows p n b c) h.counted shows) }

pub advanced_shows : (p : Progress) (first number : ℕ) (shown : Bool) (a b : Option (List ℕ)) → p.is_shown ≡ shown → Advanced p first number a b → ShowsProgress shown a b
advanced_shows p first number shown a b same h = record { progress = p; same = same; number = first; count = h.count; each = h.each }

-- no line was run
pub shows_none : (shown : Bool) (a : Option (List ℕ)) → ShowsProgress shown a a
shows_none shown a = record { progress = record { is_shown = shown; all = None }; same = refl; number = 0; count = 0; each = refl }

pub from_places : (p : Progress) (number count : ℕ) (a b : Option (List ℕ)) → ShowsFrom p number count a b → IsProgress p a b
from_places p number zero a b same = ([], same)
from_places p number (suc count) a b (mid, first, left) = let more = from_places p (number + 1) count mid b left in (number ∷ more.0, (mid, first, more.1))

-- where it is not to be shown, nothing is written
pub shows_silent : (a b : Option (List ℕ)) → ShowsProgress false a b → b ≡ a
shows_silent a b h = progress_silent h.progress a b h.same (from_places h.progress h.number h.count a b h.each)

-- ---- the line that is written over

pub end_silent : (p : Progress) → p.is_shown ≡ true → p.is_shown ≡ false → ⊥
end_silent p on off = apart (sym on ∙ off)
