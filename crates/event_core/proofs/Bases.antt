-- A configuration alone, as a base.
use Rattle.std.proofs.Common.{◌≡◌, ℕ, false, List, [], ◌∷◌, None, refl, ◌∙◌, arith}
use Rattle.std.specs.Prelude.{◌||◌, nat_lt}
use Rattle.std.specs.List.{list_any}
use Rattle.std.proofs.lemmas.Bool.Decides.{nat_tests}
use Rattle.ospf_types.specs.declared.config.AreaConfig.{AreaConfig}
use Rattle.ospf_types.specs.declared.config.Config.{Config}
use Rattle.ospf_types.specs.Configs.{config_fault_of}
use Rattle.event_state.specs.declared.limits.Limits.{Limits}
use Rattle.event_state.specs.Bases.{bare}
use Rattle.event_state.specs.BaseFaults.{base_fault_of}
use Rattle.event_state.proofs.Faultless.{no_fault}

not_below : (n : ℕ) → nat_lt n 0 ≡ false
not_below n = grind (arith, nat_tests)

none_overfull : (n : ℕ) (areas : List AreaConfig) → list_any (λ (a : AreaConfig). nat_lt n 0) areas ≡ false
none_overfull n [] = refl
none_overfull n (a ∷ areas) = (λ i. not_below n i || list_any (λ (b : AreaConfig). nat_lt n 0) areas) ∙ none_overfull n areas

-- it has no other fault than its own
pub bare_sound : (limits : Limits) (config : Config) → config_fault_of config ≡ None → base_fault_of limits (bare config) ≡ None
bare_sound limits config none = no_fault limits (bare config) (record {
  config = none;
  ids = refl;
  places = refl;
  areas = refl;
  scopes = refl;
  placed = refl;
  room = none_overfull limits.area_lsas config.areas;
  externals = not_below limits.externals;
  addresses = refl;
})
