-- The progress of a command, as it was shown.
use Rattle.std.specs.Prelude.{ℕ, ◌≡◌, ◌⊎◌, ◌<◌, Bool, false, List, Option, None}
use Rattle.replay.specs.Advance.{EndsShowing, IsProgress, Shows, ShowsProgress}
use Rattle.replay.specs.declared.progress.Progress.{Progress}

-- It was shown that no line is done yet, and then how many are, and the line with the number was
-- ended. If it is not to be shown, nothing was written.
pub record IsProgressTold (p : Progress) (IsShown : (f f' : Option (List ℕ)) → Type 0) (f f' : Option (List ℕ)) : Type 0 where
  pub start : Option (List ℕ)
  pub mid : Option (List ℕ)
  pub begun : Shows p 0 f start
  pub shown : IsShown start mid
  pub ended : EndsShowing p mid f'
  pub silent : p.is_shown ≡ false → f' ≡ f

-- the progress of lines that are reported as they come
abbrev pub IsAdvanceTold : Progress → (f f' : Option (List ℕ)) → Type 0
IsAdvanceTold p f f' = IsProgressTold p (IsProgress p) f f'

-- the progress of a run by one worker, if it is to be shown; for several workers nothing is shown
abbrev pub IsRunTold : ℕ → Bool → (f f' : Option (List ℕ)) → Type 0
IsRunTold workers progress f f' =
    ((workers ≡ 1) × IsProgressTold (record { is_shown = progress; all = None }) (ShowsProgress progress) f f') ⊎ ((1 < workers) × (f' ≡ f))
