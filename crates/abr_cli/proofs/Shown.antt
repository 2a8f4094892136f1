-- The progress of a command, with the end of its line.
use Rattle.std.proofs.Common.{◌≡◌, ◌∙◌, ℕ, Bool, false, List, Option, None, subst}
use Rattle.replay.specs.Advance.{EndsShowing, IsProgress, Shows, ShowsProgress}
use Rattle.replay.specs.declared.progress.Progress.{Progress}
use Rattle.replay.proofs.Advance.{progress_silent, shows_silent}
use Rattle.abr_cli.specs.Showing.{IsAdvanceTold, IsProgressTold}

told : (p : Progress) (IsShown : (f f' : Option (List ℕ)) → Type 0) (f start mid f' : Option (List ℕ)) → (p.is_shown ≡ false → IsShown start mid → mid ≡ start)
    → Shows p 0 f start → IsShown start mid → EndsShowing p mid f' → IsProgressTold p IsShown f f'
told p IsShown f start mid f' silent begun shown ended = record {
  start = start;
  mid = mid;
  begun = begun;
  shown = shown;
  ended = ended;
  silent = λ off. ended.silent off ∙ silent off shown ∙ begun.silent off;
}

pub advance_told : (p : Progress) (f start mid f' : Option (List ℕ)) → Shows p 0 f start → IsProgress p start mid → EndsShowing p mid f' → IsAdvanceTold p f f'
advance_told p f start mid f' begun shown ended = told p (IsProgress p) f start mid f' (progress_silent p start mid) begun shown ended

silent_run : (progress : Bool) (a b : Option (List ℕ)) → progress ≡ false → ShowsProgress progress a b → b ≡ a
silent_run progress a b off shown = shows_silent a b (subst (λ (x : Bool). ShowsProgress x a b) off shown)

pub run_told : (progress : Bool) (f start mid f' : Option (List ℕ))
    → (let p : Progress = record { is_shown = progress; all = None } in
    Shows p 0 f start → ShowsProgress progress start mid → EndsShowing p mid f' → IsProgressTold p (ShowsProgress progress) f f')
run_told progress f start mid f' begun shown ended = told (record { is_shown = progress; all = None }) (ShowsProgress progress) f start mid f' (silent_run progress start mid) begun shown ended
