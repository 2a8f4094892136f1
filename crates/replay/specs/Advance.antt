-- The progress of a run.
use Rattle.std.specs.Prelude.{ℕ, ◌≡◌, ◌++◌, ◌%◌, ◌==◌, ◌&&◌, ◌||◌, Bool, false, ◌+◌, zero, suc, List, [], ◌∷◌, Option, Some, None, codes, decimal, if◌then◌else◌}
use Rattle.std.specs.Io.KnownBytes.{Appends}
use Rattle.replay.specs.declared.progress.Progress.{Progress}

-- on a line that is overwritten: the number of lines done, and the number of all lines if it is
-- known
abbrev pub progress_text : Option ℕ → ℕ → List ℕ
progress_text (Some all) done = codes "\r" ++ decimal done ++ codes " of " ++ decimal all ++ codes " lines"
progress_text None done = codes "\r" ++ decimal done ++ codes " lines"

abbrev pub is_all : Option ℕ → ℕ → Bool
is_all (Some all) done = done == all
is_all None done = false

-- it is due after each thousand lines, and after the last
abbrev pub is_due : Progress → ℕ → Bool
is_due p done = p.is_shown && (done % 1000 == 0 || is_all p.all done)

-- a writer's known bytes grew by a beginning of the text: all of it, where no write failed
pub record AppendsSome (old new : Option (List ℕ)) (text : List ℕ) : Type 0 where
  pub part : List ℕ
  pub rest : List ℕ
  pub joined : text ≡ part ++ rest
  pub written : Appends old new part

-- The number of lines done is shown. If it is not to be shown, nothing is written.
pub record Shows (p : Progress) (done : ℕ) (old new : Option (List ℕ)) : Type 0 where
  pub shown : AppendsSome old new (if is_due p done then progress_text p.all done else [])
  pub silent : p.is_shown ≡ false → new ≡ old

-- The line that is written over is ended. Where there is none, nothing is written.
pub record EndsShowing (p : Progress) (old new : Option (List ℕ)) : Type 0 where
  pub shown : AppendsSome old new (if p.is_shown then codes "\n" else [])
  pub silent : p.is_shown ≡ false → new ≡ old

-- one number after the other is shown
abbrev pub ShowsEach : Progress → List ℕ → (old new : Option (List ℕ)) → Type 0
ShowsEach p [] old new = new ≡ old
ShowsEach p (done ∷ numbers) old new = (mid : Option (List ℕ)) × Shows p done old mid × ShowsEach p numbers mid new

-- the progress is shown at some numbers
abbrev pub IsProgress : Progress → (old new : Option (List ℕ)) → Type 0
IsProgress p old new = (numbers : List ℕ) × ShowsEach p numbers old new

-- this number of lines is run, the first of which has the given number; after each the progress is
-- shown if it is due
abbrev pub ShowsFrom : Progress → (number count : ℕ) → (old new : Option (List ℕ)) → Type 0
ShowsFrom p number zero old new = new ≡ old
ShowsFrom p number (suc count) old new = (mid : Option (List ℕ)) × Shows p number old mid × ShowsFrom p (number + 1) count mid new

-- the progress is shown, or not, line by line
pub record ShowsProgress (is_shown : Bool) (old new : Option (List ℕ)) : Type 0 where
  pub progress : Progress
  pub same : progress.is_shown ≡ is_shown
  pub number : ℕ
  pub count : ℕ
  pub each : ShowsFrom progress number count old new
