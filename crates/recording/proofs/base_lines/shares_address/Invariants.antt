use Rattle.std.proofs.Common.{ℕ, ◌≡◌, drop}
use Rattle.std.specs.List.{list_any}
use Rattle.ospf_types.specs.declared.config.Interface.{Interface}
use Rattle.recording.specs.Places.{has_address}
use Rattle.recording.proofs.base_lines.shares_address.Given as goal

abbrev pub invariant-loop-i : goal.invariant-loop-i
invariant-loop-i l =
    list_any (λ (y : ℕ × Interface). has_address l.interface y.1) (drop l.i l.interfaces) ≡ list_any (λ (y : ℕ × Interface). has_address l.interface y.1) l.interfaces
