-- One more packet.
use Rattle.std.proofs.Common.{◌≡◌, ◌∙◌, ◌++◌, List, [], ◌∷◌, ℕ, Option, None, Some, refl, ap, sym, subst, append-nil}
use Rattle.std.specs.Prelude.{option_map}
use Rattle.std.specs.List.{flat_map}
use Rattle.std.proofs.lemmas.List.Concat.{flat_map-append}
use Rattle.std.proofs.lemmas.List.Sums.{fold-append}
use Rattle.captured_config.specs.Facts.{facts_of}
use Rattle.capture_recording.specs.Rules.{Rules}
use Rattle.capture_recording.specs.declared.gathered.Gathered.{Gathered}
use Rattle.capture_recording.specs.Steps.{PacketStep, Past, IsStep, AreStepsTo}
use Rattle.capture_recording.specs.Folds.{none_counted, with_step_counted, with_step_area, with_step_lsas}
use Rattle.capture_recording.specs.Gathering.{AreGathered, GathersPacket, config_of, first_gathered}

steps_more : (old between new : Past) (steps : List PacketStep) (step : PacketStep) → AreStepsTo old steps between → IsStep between step new → AreStepsTo old (steps ++ step ∷ []) new
unfolding AreStepsTo
steps_more old between new [] step are is = (new, subst (λ p. IsStep p step new) are is, refl)
steps_more old between new (s ∷ steps) step are is = (are.0, are.1, steps_more are.0 between new steps step are.2 is)

pub gathered_first : (rules : Rules) (router : Option ℕ) (g : Gathered) → g ≡ first_gathered rules router → AreGathered rules router [] g
unfolding AreStepsTo
gathered_first rules router g is = subst (AreGathered rules router []) (sym is) (record { are = refl; counts = refl; areas = refl; config = refl })

config_more : (router : Option ℕ) (steps : List PacketStep) (step : PacketStep) → option_map (λ c. with_step_lsas c step) (config_of router steps) ≡ config_of router (steps ++ step ∷ [])
config_more None steps step = refl
config_more (Some r) steps step = ap Some (sym (fold-append with_step_lsas (record { router = r; lsas = [] }) steps (step ∷ [])))

pub gathered_more : (rules : Rules) (router : Option ℕ) (steps : List PacketStep) (step : PacketStep) (old new : Gathered) → AreGathered rules router steps old → GathersPacket old step new
    → AreGathered rules router (steps ++ step ∷ []) new
gathered_more rules router steps step old new are more = record {
  are = steps_more _ _ _ steps step are.are more.is;
  counts = more.counts ∙ ap (λ c. with_step_counted c step) are.counts ∙ sym (fold-append with_step_counted none_counted steps (step ∷ []));
  areas = more.areas ∙ ap (λ a. with_step_area a step) are.areas ∙ sym (fold-append with_step_area [] steps (step ∷ []));
  config = more.config (config_of router steps) are.config ∙ ap (option_map facts_of) (config_more router steps step);
}

-- the results of the steps, one after the other
pub flat_map_more : {A : Type 0} (f : PacketStep → List A) (steps : List PacketStep) (step : PacketStep) → flat_map f (steps ++ step ∷ []) ≡ flat_map f steps ++ f step
flat_map_more f steps step = flat_map-append f steps (step ∷ []) ∙ ap (λ l. flat_map f steps ++ l) (append-nil (f step))
