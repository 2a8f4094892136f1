use Rattle.std.specs.Prelude.{ℕ}
use Rattle.std.specs.FinMap.{entries}
use Rattle.ospf_types.specs.declared.config.Interface.{Interface}
use Rattle.explanation.specs.Offered.{IsOn}
use Rattle.explanation.proofs.Interfaces.{IsLeft}
use Rattle.explanation.proofs.layers.Layers.is_on.Given as goal

-- all interfaces on the network are among those that are left
abbrev pub invariant-loop-interface : goal.invariant-loop-interface
invariant-loop-interface l = IsLeft (λ (e : ℕ × Interface). IsOn l.area l.network e.1) (entries l.self.state.now.interfaces) l.interface-iterator
