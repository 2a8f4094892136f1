-- The reason why no preamble is written.
use Rattle.std.specs.Prelude.{ℕ, ◌≡◌, List, Some, String, string_bytes}
use Rattle.ospf_types.specs.declared.config.Config.{Config}
use Rattle.ospf_types.specs.Text.{memory_text}
use Rattle.ospf_types.specs.Configs.{config_fault_of}
use Rattle.ospf_types.specs.Texts.{config_fault_text}
use Rattle.captured_config.specs.declared.fault.PreambleFault.{PreambleFault}
use Rattle.captured_config.specs.declared.fault.PreambleFault.TheVariants as fault

-- its number and its name
abbrev pub front_fault_text : PreambleFault → List ℕ
front_fault_text (fault.Config f) = config_fault_text f
front_fault_text fault.Memory = memory_text

-- the configuration has this fault, or memory ran out
abbrev pub IsConfigFaultIn : Config → PreambleFault → Type 0
IsConfigFaultIn config (fault.Config f) = config_fault_of config ≡ Some f
IsConfigFaultIn config fault.Memory = Unit {0}

-- if the configuration has a fault, the text is unchanged
abbrev pub IsPreambleRefused : {Z : Type 0} → Config → (old new : String Z) → PreambleFault → Type 0
IsPreambleRefused {Z} config old new (fault.Config f) = (config_fault_of config ≡ Some f) × (string_bytes new ≡ string_bytes old)
IsPreambleRefused {Z} config old new fault.Memory = Unit {0}
